-- Frames that are carried, one after another.
use Rattle.assise_rounds.proofs.Common.{◌≡◌, ◌≤◌, ℕ, ◌+◌, Bool, true, false, List, [], ◌∷◌, ◌++◌, map, None, Some, Result, Ok, Err, is_ok, refl, ap, sym, subst}
use Rattle.assise_rounds.proofs.Common.{◌∙◌, append-nil, arith, length-append, Refusal, LogFrame, level_of, newest, outgoing, received, refused, sent}
use Rattle.assise_rounds.proofs.Common.{AllHappen, Machine, Delivering, Sending, Told, AreCarried, AreSame, Carried, DeliversOver, IsSame, Replicates}
use Rattle.assise_rounds.proofs.Common.{deliveries, delivery, is_taken_in, letter, taken}
use Rattle.std.proofs.lemmas.List.Elements.{filter-append}
use Rattle.assise_machine.specs.Answers.{delivery_answer}

happen_then : (m v m' : Machine) (es fs : Told) → AllHappen m es v → AllHappen v fs m' → AllHappen m (es ++ fs) m'
happen_then m v m' [] fs same h = subst (λ u. AllHappen u fs m') same h
happen_then m v m' (e ∷ es) fs (u, (first, rest)) h = (u, (first, happen_then u v m' es fs rest h))

deliveries-more : (cs : List Carried) (c : Carried) → deliveries (cs ++ c ∷ []) ≡ deliveries cs ++ delivery c.node c.came
deliveries-more [] c = append-nil (delivery c.node c.came)
deliveries-more (b ∷ cs) c = grind (arith, deliveries-more cs c)

letters-more : (cs : List Carried) (c : Carried) → map letter (cs ++ c ∷ []) ≡ map letter cs ++ letter c ∷ []
letters-more [] c = refl
letters-more (b ∷ cs) c = ap (λ fs. letter b ∷ fs) (letters-more cs c)

taken-in : (cs : List Carried) (c : Carried) → is_taken_in c.came ≡ true → taken (cs ++ c ∷ []) ≡ taken cs + 1
taken-in cs c is = grind (arith, filter-append, length-append)

taken-out : (cs : List Carried) (c : Carried) → is_taken_in c.came ≡ false → taken (cs ++ c ∷ []) ≡ taken cs
taken-out cs c is = grind (arith, filter-append, length-append)

same-more : (cs : List Carried) (c : Carried) → AreSame cs → IsSame c.frame c.came → AreSame (cs ++ c ∷ [])
same-more [] c all one = (one, tt)
same-more (b ∷ cs) c (first, all) one = (first, same-more cs c all one)

-- ---- frames that were carried so far

pub none_carried : (F : Type 0) (m : Machine) → AreCarried F [] 0 m m
none_carried F m = record { carried = []; same = λ f. tt; letters = refl; counts = refl; happen = refl }

-- over a link that was faithful before if F, and is at this frame if G
module _ {F G : Type 0} (stays : F → G) {m v m' : Machine} {frames : List (LogFrame × ℕ)} {count : ℕ} {f : LogFrame} {n : ℕ} {is_in : Bool}
    (before : AreCarried F frames count m v) (now : DeliversOver G f n is_in v m')
  where
    abbrev carried_now : Carried
    carried_now = record { frame = f; node = n; came = now.came }

    same_now : F → AreSame (before.carried ++ carried_now ∷ [])
    same_now faithful = same-more before.carried carried_now (before.same faithful) (now.same (stays faithful))

    letters_now : map letter (before.carried ++ carried_now ∷ []) ≡ frames ++ (f, n) ∷ []
    letters_now = letters-more before.carried carried_now ∙ ap (λ fs. fs ++ (f, n) ∷ []) before.letters

    happen_now : AllHappen m (deliveries (before.carried ++ carried_now ∷ [])) m'
    happen_now =
        subst (λ es. AllHappen m es m') (sym (deliveries-more before.carried carried_now))
        (happen_then m v m' (deliveries before.carried) (delivery n now.came) before.happen now.happen)

    one_more : {k : ℕ} → k ≡ taken (before.carried ++ carried_now ∷ []) → AreCarried F (frames ++ (f, n) ∷ []) k m m'
    one_more counts = record { carried = before.carried ++ carried_now ∷ []; same = same_now; letters = letters_now; counts = counts; happen = happen_now }

    pub one_taken : is_in ≡ true → AreCarried F (frames ++ (f, n) ∷ []) (count + 1) m m'
    one_taken is = one_more (ap (λ k. k + 1) before.counts ∙ sym (taken-in before.carried carried_now (sym now.taken ∙ is)))

    pub one_lost : is_in ≡ false → AreCarried F (frames ++ (f, n) ∷ []) count m m'
    one_lost is = one_more (before.counts ∙ sym (taken-out before.carried carried_now (sym now.taken ∙ is)))

-- what a node sent was carried
pub carried_turn : (F : Type 0) (m v : Machine) (n count : ℕ) (frames : List (LogFrame × ℕ)) → Sending m n (sent frames) m →
    (h : AreCarried F frames count m v) → Replicates F n count m ((outgoing n, sent (map letter h.carried)) ∷ deliveries h.carried) v
carried_turn F m v n count frames sends h = grind arith

pub all_carried : (F : Type 0) (m v : Machine) (n count : ℕ) (frames : List (LogFrame × ℕ)) → Sending m n (sent frames) m → AreCarried F frames count m v →
    (es : Told) × Replicates F n count m es v
all_carried F m v n count frames sends h = (_, carried_turn F m v n count frames sends h)

-- ---- one frame

-- it is sent as f, and comes as g
pub is_delivered : (F : Type 0) (m m' : Machine) (f g : LogFrame) (n : ℕ) (r : Result ℕ Refusal) → (F → g ≡ f) →
    g.version ≤ newest (level_of m.members.levels n) → Delivering m g n (delivery_answer r) m' → DeliversOver F f n (is_ok r) m m'
is_delivered F m m' f g n (Ok place) same read h =
    record { came = Some (g, received place); same = same; readable = read; taken = refl; happen = (m', (h, refl)) }
is_delivered F m m' f g n (Err e) same read h = record { came = Some (g, refused e); same = same; readable = read; taken = refl; happen = (m', (h, refl)) }

pub is_lost : (F : Type 0) (m : Machine) (f : LogFrame) (n : ℕ) → DeliversOver F f n false m m
is_lost F m f n = record { came = None; same = λ faithful. tt; readable = tt; taken = refl; happen = refl }
