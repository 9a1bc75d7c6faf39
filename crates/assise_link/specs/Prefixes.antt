-- What comes over a link of each kind is a prefix of what it was handed, or keeps, and over a perfect one what it was handed: the laws
-- `prefixes` and `same` of a link, case by case.
use Rattle.std.proofs.Common.{◌≡◌, ◌∙◌, ℕ, List, [], ◌∷◌, ◌++◌, Option, None, Some, take, drop, refl, ap, subst, sym, inl, inr, arith, append-nil}
use Rattle.std.proofs.lemmas.List.{take-append-drop}
use Rattle.assise_link.specs.Kinds.{Carries, IsDone, IsFault, Kind, LinkState, cut, delay, fault, lose, perfect, repeat, is_counted, is_done, is_past, kept_answer, lacks_memory}
use Rattle.assise_link.specs.Links.{IsPrefixOnLink, LinkAnswer, failed, gave, nothing}
use Rattle.assise_link.specs.TestLinks.{kept_by, kept_lists, kind_of_link, state_of}
use Rattle.assise_link.specs.declared.link.LinkFault.{LinkFault}
use Rattle.assise_link.specs.declared.test_link.TestLink.{TestLink}

gave_same : (came bytes : List ℕ) → gave came ≡ gave bytes → came ≡ bytes
gave_same came bytes is = cc

not_nothing : (came : List ℕ) → gave came ≡ nothing → ⊥
not_nothing came is = cc

not_failed : (came : List ℕ) (f : LinkFault) → gave came ≡ failed f → ⊥
not_failed came f is = cc

-- a fault gives nothing
fault_gives : (f : LinkFault) (came : List ℕ) (s t : LinkState) → IsFault f s (gave came) t → ⊥
fault_gives f came s t (is_counted a is) = not_failed came f a
fault_gives f came s t (is_past most a is) = not_nothing came a

done_gives : (answer : LinkAnswer) (kept : Option (List ℕ)) (came : List ℕ) (s t : LinkState) → IsDone answer kept s (gave came) t → gave came ≡ answer
done_gives answer kept came s t (is_done a is) = a
done_gives answer kept came s t (lacks_memory lacks) = absurd (fault_gives _ came s t lacks)

pub whole : (bytes came : List ℕ) (stored : List (List ℕ)) → came ≡ bytes → IsPrefixOnLink bytes stored came
whole bytes came stored is = record { whole = bytes; known = inl refl; rest = []; prefix = sym is ∙ sym (append-nil came) }

kept_whole : (bytes came before : List ℕ) → came ≡ before → IsPrefixOnLink bytes (before ∷ []) came
kept_whole bytes came before is = record { whole = before; known = inr (0, omega arith, refl); rest = []; prefix = sym is ∙ sym (append-nil came) }

cut_off : (most : ℕ) (bytes came : List ℕ) (stored : List (List ℕ)) → came ≡ take most bytes → IsPrefixOnLink bytes stored came
cut_off most bytes came stored is = record { whole = bytes; known = inl refl; rest = drop most bytes; prefix = sym (ap (λ x. x ++ drop most bytes) is ∙ take-append-drop most bytes) }

repeated : (kept : Option (List ℕ)) (faults : ℕ) (bytes came : List ℕ) (t : LinkState) → Carries repeat bytes (record { kept = kept; faults = faults }) (gave came) t → IsPrefixOnLink bytes (kept_lists kept) came
repeated None faults bytes came t is = whole bytes came [] (gave_same came bytes (done_gives _ _ came _ t is))
repeated (Some before) faults bytes came t is = kept_whole bytes came before (gave_same came before is.0)

delayed : (kept : Option (List ℕ)) (faults : ℕ) (bytes came : List ℕ) (t : LinkState) → Carries delay bytes (record { kept = kept; faults = faults }) (gave came) t → IsPrefixOnLink bytes (kept_lists kept) came
delayed None faults bytes came t is = absurd (not_nothing came (done_gives _ _ came _ t is))
delayed (Some before) faults bytes came t is = kept_whole bytes came before (gave_same came before (done_gives _ _ came _ t is))

pub prefix_by : (kind : Kind) (bytes came : List ℕ) (s t : LinkState) → Carries kind bytes s (gave came) t → IsPrefixOnLink bytes (kept_lists s.kept) came
prefix_by perfect bytes came s t is = whole bytes came _ (gave_same came bytes (done_gives _ _ came s t is))
prefix_by lose bytes came s t is = absurd (not_nothing came is.0)
prefix_by repeat bytes came s t is = repeated s.kept s.faults bytes came t is
prefix_by delay bytes came s t is = delayed s.kept s.faults bytes came t is
prefix_by (cut most) bytes came s t is = cut_off most bytes came _ (gave_same came (take most bytes) (done_gives _ _ came s t is))
prefix_by fault bytes came s t is = absurd (fault_gives _ came s t is)

pub prefix_by_kind : (l : TestLink) (bytes came : List ℕ) (t : LinkState) → Carries (kind_of_link l) bytes (state_of l) (gave came) t → IsPrefixOnLink bytes (kept_lists (kept_by l)) came
prefix_by_kind l bytes came t is = prefix_by (kind_of_link l) bytes came (state_of l) t is

pub not_lose : lose ≡ perfect → ⊥
not_lose is = cc

pub not_repeat : repeat ≡ perfect → ⊥
not_repeat is = cc

pub not_delay : delay ≡ perfect → ⊥
not_delay is = cc

pub not_cut : (most : ℕ) → cut most ≡ perfect → ⊥
not_cut most is = cc

pub not_fault : fault ≡ perfect → ⊥
not_fault is = cc

pub same_by_perfect : (bytes came : List ℕ) (s t : LinkState) → Carries perfect bytes s (gave came) t → came ≡ bytes
same_by_perfect bytes came s t is = gave_same came bytes (done_gives _ _ came s t is)

pub same_by_kind : (l : TestLink) → kind_of_link l ≡ perfect → (bytes came : List ℕ) (t : LinkState) → Carries (kind_of_link l) bytes (state_of l) (gave came) t → came ≡ bytes
same_by_kind l is_perfect bytes came t is = same_by_perfect bytes came (state_of l) t (subst (λ k. Carries k bytes (state_of l) (gave came) t) is_perfect is)
