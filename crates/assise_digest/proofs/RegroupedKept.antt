-- What is kept beside an area stands for records that give way to others with the same net effect, once their numbers are noted.
use Rattle.assise_digest.proofs.Common.{◌≡◌, ℕ, ◌+◌, ◌||◌, true, false, if◌then◌else◌, List, [], ◌∷◌, ◌++◌, length, Option, Some, None, refl, ap, sym, ◌∙◌}
use Rattle.assise_digest.proofs.Common.{arith, option_or, false≢true, nat_cmp, LogRecord, all_effects, all_effects-append, InodeMap, contains, touched}
use Rattle.assise_digest.proofs.Common.{value_after, ComeToSame, contains-both, value_after-append, last_touch, StandsFor, all_noted, last_noted, Pending}
use Rattle.std.specs.Option.{is_some}
use Rattle.std.specs.FinMap as map
use Rattle.assise_digest.proofs.KeptInodes.{get-noted}
use Rattle.assise_digest.proofs.Shared.KeptStands.{is_touched}

get-all_noted : (l : map.FinMap nat_cmp ℕ) (n : ℕ) (rs : List LogRecord) (i : ℕ) → map.get (all_noted l n rs) i ≡ option_or (last_touch n rs i) (map.get l i)
get-all_noted l n [] i = refl
get-all_noted l n (r ∷ rs) i = grind (arith, get-all_noted (last_noted l n r.effects) (n + 1) rs i, get-noted)

or_none : (o : Option ℕ) → o ≡ option_or o None
or_none None = refl
or_none (Some k) = refl

or_both : (a b c : Option ℕ) → option_or (option_or a b) c ≡ option_or a (option_or b c)
or_both None b c = refl
or_both (Some k) b c = refl

last-both : (n : ℕ) (fs rs : List LogRecord) (i : ℕ) → last_touch n (fs ++ rs) i ≡ option_or (last_touch (n + length fs) rs i) (last_touch n fs i)
last-both n [] rs i = (let same : n ≡ n + 0 = omega arith in ap (λ k. last_touch k rs i) same ∙ or_none (last_touch (n + 0) rs i))
last-both n (f ∷ fs) rs i = grind (arith, last-both (n + 1) fs rs i)

pub renoted : (p : Pending) (m : InodeMap) (n : ℕ) (fs old new : List LogRecord) → StandsFor p m n (fs ++ old) → ComeToSame new old →
    StandsFor (record { inodes = p.inodes; last = all_noted p.last (n + length fs) new }) m n (fs ++ new)
renoted p m n fs old new s e = record { last = last_is; values = values_are }
  where
    same_some : (i : ℕ) → is_some (last_touch (n + length fs) new i) ≡ is_some (last_touch (n + length fs) old i)
    same_some i = is_touched (n + length fs) new i ∙ e.touch i ∙ sym (is_touched (n + length fs) old i)

    over : (a b c : Option ℕ) → is_some a ≡ is_some b → option_or a (option_or b c) ≡ option_or a c
    over None None c h = refl
    over None (Some j) c h = absurd (false≢true h)
    over (Some j) b c h = refl

    last_is : (i : ℕ) → map.get (all_noted p.last (n + length fs) new) i ≡ last_touch n (fs ++ new) i
    last_is i =
        get-all_noted p.last (n + length fs) new i ∙ ap (option_or (last_touch (n + length fs) new i)) (s.last i ∙ last-both n fs old i)
        ∙ over (last_touch (n + length fs) new i) (last_touch (n + length fs) old i) (last_touch n fs i) (same_some i) ∙ sym (last-both n fs new i)

    touched_same : (i : ℕ) → contains (touched (all_effects (fs ++ old))) i ≡ contains (touched (all_effects (fs ++ new))) i
    touched_same i =
        ap (λ es. contains (touched es) i) (all_effects-append fs old) ∙ contains-both (all_effects fs) (all_effects old) i
        ∙ ap (λ b. contains (touched (all_effects fs)) i || b) (sym (e.touch i))
        ∙ sym (ap (λ es. contains (touched es) i) (all_effects-append fs new) ∙ contains-both (all_effects fs) (all_effects new) i)

    kept_same : (i : ℕ) → is_some (last_touch n (fs ++ old) i) ≡ is_some (last_touch n (fs ++ new) i)
    kept_same i = is_touched n (fs ++ old) i ∙ touched_same i ∙ sym (is_touched n (fs ++ new) i)

    value_same : (i : ℕ) → value_after i (map.get m i) (all_effects (fs ++ old)) ≡ value_after i (map.get m i) (all_effects (fs ++ new))
    value_same i =
        ap (value_after i (map.get m i)) (all_effects-append fs old) ∙ value_after-append i (map.get m i) (all_effects fs) (all_effects old)
        ∙ sym (e.net i (value_after i (map.get m i) (all_effects fs)))
        ∙ sym (ap (value_after i (map.get m i)) (all_effects-append fs new) ∙ value_after-append i (map.get m i) (all_effects fs) (all_effects new))

    values_are : (i : ℕ) → map.get p.inodes i ≡ (if is_some (last_touch n (fs ++ new) i) then value_after i (map.get m i) (all_effects (fs ++ new)) else None)
    values_are i =
        s.values i ∙ ap (λ b. if b then value_after i (map.get m i) (all_effects (fs ++ old)) else None) (kept_same i)
        ∙ ap (λ v. if is_some (last_touch n (fs ++ new) i) then v else None) (value_same i)
