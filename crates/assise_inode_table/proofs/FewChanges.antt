-- Changes of a few inodes.
use Rattle.assise_inode_table.proofs.Common.{◌≡◌, ◌≢◌, inl, inr, ℕ, zero, suc, ◌+◌, ◌<◌, ◌==◌, ◌||◌, Bool, true, false, List, [], ◌∷◌, ◌++◌, if◌then◌else◌}
use Rattle.assise_inode_table.proofs.Common.{length, get_or, set, take, Option, refl, sym, ap, ◌∙◌, subst, arith, cases_eq, eq-eqb, ne_eqb, or_parts, take_more}
use Rattle.assise_inode_table.proofs.Common.{Effect, touched_by, Content, effect_on, value_after, found, is_among, Lacks, AreDistinctChanges, IsPlace, Change}

-- a choice by whether two numbers are one
pub chosen_same : {X : Type 0} (i j : ℕ) (x y : X) → i ≡ j → (if i == j then x else y) ≡ x
chosen_same i j x y e = ap (λ b. if b then x else y) (eq-eqb i j e)

pub chosen_other : {X : Type 0} (i j : ℕ) (x y : X) → i ≢ j → (if i == j then x else y) ≡ y
chosen_other i j x y e = ap (λ b. if b then x else y) (ne_eqb i j e)

pub found_lacking : (cs : List Change) (i : ℕ) (old : Option Content) → Lacks cs i → found cs i old ≡ old
found_lacking [] i old h = refl
found_lacking (c ∷ cs) i old h = chosen_other c.inode i c.value (found cs i old) h.0 ∙ found_lacking cs i old h.1

pub found_append : (xs ys : List Change) (i : ℕ) (old : Option Content) → found (xs ++ ys) i old ≡ found xs i (found ys i old)
found_append [] ys i old = refl
found_append (x ∷ xs) ys i old = ap (λ v. if x.inode == i then x.value else v) (found_append xs ys i old)

pub lacks_push : (cs : List Change) (c : Change) (i : ℕ) → Lacks cs i → c.inode ≢ i → Lacks (cs ++ c ∷ []) i
lacks_push [] c i h other = (other, tt)
lacks_push (x ∷ xs) c i h other = (h.0, lacks_push xs c i h.1 other)

-- one more is behind those that were looked at
pub lacks_next : (cs : List Change) (p i : ℕ) (none : Change) → p < length cs → (get_or cs p none).inode ≢ i → Lacks (take p cs) i → Lacks (take (p + 1) cs) i
lacks_next cs p i none within other h = subst (λ xs. Lacks xs i) (sym (take_more cs p none within)) (lacks_push (take p cs) (get_or cs p none) i h other)

pub distinct_push : (cs : List Change) (c : Change) → AreDistinctChanges cs → Lacks cs c.inode → AreDistinctChanges (cs ++ c ∷ [])
distinct_push [] c h lacks = (tt, tt)
distinct_push (x ∷ xs) c h lacks = (lacks_push xs c x.inode h.0 (λ e. lacks.0 (sym e)), distinct_push xs c h.1 lacks.1)

lacks_prefix : (cs : List Change) (c : Change) (i : ℕ) → Lacks (cs ++ c ∷ []) i → Lacks cs i × (c.inode ≢ i)
lacks_prefix [] c i h = (tt, h.0)
lacks_prefix (x ∷ xs) c i h = ((h.0, (lacks_prefix xs c i h.1).0), (lacks_prefix xs c i h.1).1)

pub distinct_prefix : (cs : List Change) (c : Change) → AreDistinctChanges (cs ++ c ∷ []) → AreDistinctChanges cs × Lacks cs c.inode
distinct_prefix [] c h = (tt, tt)
distinct_prefix (x ∷ xs) c h = grind (arith, distinct_prefix xs c h.1, lacks_prefix)

lacks_at : (cs : List Change) (p i : ℕ) (none : Change) → p < length cs → Lacks cs i → (get_or cs p none).inode ≢ i
lacks_at [] p i none within h = absurd (omega arith)
lacks_at (c ∷ cs) zero i none within h = h.0
lacks_at (c ∷ cs) (suc p) i none within h = lacks_at cs p i none (omega arith) h.1

-- the value at the place of an inode is the one that is found
pub found_at : (cs : List Change) (p i : ℕ) (none : Change) (old : Option Content) → AreDistinctChanges cs → p < length cs → (get_or cs p none).inode ≡ i →
    found cs i old ≡ (get_or cs p none).value
found_at [] p i none old distinct within is = absurd (omega arith)
found_at (c ∷ cs) zero i none old distinct within is = chosen_same c.inode i c.value (found cs i old) is
found_at (c ∷ cs) (suc p) i none old distinct within is =
    let inside : p < length cs = omega arith in
    chosen_other c.inode i c.value (found cs i old) (λ e. lacks_at cs p c.inode none inside distinct.0 (is ∙ sym e))
    ∙ found_at cs p i none old distinct.1 inside is

lacks_set : (cs : List Change) (p i j : ℕ) (none : Change) (v : Option Content) → p < length cs → (get_or cs p none).inode ≡ i → Lacks cs j →
    Lacks (set cs p (record { inode = i; value = v })) j
lacks_set [] p i j none v within is h = absurd (omega arith)
lacks_set (c ∷ cs) zero i j none v within is h = ((λ e. h.0 (is ∙ e)), h.1)
lacks_set (c ∷ cs) (suc p) i j none v within is h = (h.0, lacks_set cs p i j none v (omega arith) is h.1)

pub distinct_set : (cs : List Change) (p i : ℕ) (none : Change) (v : Option Content) → p < length cs → (get_or cs p none).inode ≡ i → AreDistinctChanges cs →
    AreDistinctChanges (set cs p (record { inode = i; value = v }))
distinct_set [] p i none v within is h = absurd (omega arith)
distinct_set (c ∷ cs) zero i none v within is h = (subst (Lacks cs) is h.0, h.1)
distinct_set (c ∷ cs) (suc p) i none v within is h = (lacks_set cs p i c.inode none v (omega arith) is h.0, distinct_set cs p i none v (omega arith) is h.1)

pub found_set : (cs : List Change) (p i j : ℕ) (none : Change) (v old : Option Content) → AreDistinctChanges cs → p < length cs → (get_or cs p none).inode ≡ i
    → found (set cs p (record { inode = i; value = v })) j old ≡ (if i == j then v else found cs j old)
found_set [] p i j none v old distinct within is = absurd (omega arith)
found_set (c ∷ cs) zero i j none v old distinct within is = grind arith
found_set (c ∷ cs) (suc p) i j none v old distinct within is =
    let inside : p < length cs = omega arith in
    let rest : found (set cs p (record { inode = i; value = v })) j old ≡ (if i == j then v else found cs j old) = grind
    (arith, found_set cs p i j none v old distinct.1 inside is) in
    let away : c.inode ≢ i = (λ e. lacks_at cs p c.inode none inside distinct.0 (is ∙ sym e)) in
    elim (cases_eq c.inode j) [
      | inl same ↦ grind arith
      | inr other ↦ grind arith
    ]

-- an inode that was not among them is put behind them as it is
pub found_push : (cs : List Change) (c : Change) (j : ℕ) (old : Option Content) → (c.inode ≡ j → c.value ≡ old) → found (cs ++ c ∷ []) j old ≡ found cs j old
found_push cs c j old is = grind (arith, found_append)

-- an effect is made of the value at the place of its inode
pub made : (cs : List Change) (p : ℕ) (here : Change) (e : Effect) (base : ℕ → Option Content) (before : ℕ → Option Content) (new : Option Content) →
    AreDistinctChanges cs → IsPlace cs p (touched_by e)
    → here ≡ get_or cs p here → new ≡ effect_on here.value e → ((i : ℕ) → found cs i (base i) ≡ before i)
    → (i : ℕ) → found (set cs p (record { inode = here.inode; value = new })) i (base i) ≡ value_after i (before i) (e ∷ [])
made cs p here e base before new distinct place read is same i = search (found_at, found_set, arith) parts 3

pub made_distinct : (cs : List Change) (p i : ℕ) (here : Change) (new : Option Content) → AreDistinctChanges cs → IsPlace cs p i → here ≡ get_or cs p here →
    AreDistinctChanges (set cs p (record { inode = here.inode; value = new }))
made_distinct cs p i here new distinct place read = grind (arith, distinct_set)

-- what a push that had room left
pub pushed : {X : Type 0} (b : Bool) (xs ys zs : X) → b ≡ true → xs ≡ (if b then ys else zs) → xs ≡ ys
pushed b xs ys zs e is = is ∙ ap (λ t. if t then ys else zs) e

-- ---- which inodes they are of

turned : (a b d : Bool) → (a || (b || d)) ≡ (b || (a || d))
turned true true d = refl
turned true false d = refl
turned false b d = refl

pub among_push : (cs : List Change) (c : Change) (i : ℕ) → is_among (cs ++ c ∷ []) i ≡ ((c.inode == i) || is_among cs i)
among_push [] c i = refl
among_push (x ∷ xs) c i = ap (λ b. (x.inode == i) || b) (among_push xs c i) ∙ turned (x.inode == i) (c.inode == i) (is_among xs i)

pub among_set : (cs : List Change) (p k i : ℕ) (none : Change) (v : Option Content) → p < length cs → (get_or cs p none).inode ≡ k →
    is_among (set cs p (record { inode = k; value = v })) i ≡ is_among cs i
among_set [] p k i none v within is = refl
among_set (c ∷ cs) zero k i none v within is = ap (λ j. (j == i) || is_among cs i) (sym is)
among_set (c ∷ cs) (suc p) k i none v within is = ap (λ b. (c.inode == i) || b) (among_set cs p k i none v (omega arith) is)

pub among_place : (cs : List Change) (p k i : ℕ) (none : Change) → p < length cs → (get_or cs p none).inode ≡ k → is_among cs i ≡ ((k == i) || is_among cs i)
among_place [] p k i none within is = absurd (omega arith)
among_place (c ∷ cs) zero k i none within is = grind arith
among_place (c ∷ cs) (suc p) k i none within is = grind (arith, among_place cs p k i none (omega arith) is)

pub not_among : (cs : List Change) (i : ℕ) (old : Option Content) → is_among cs i ≡ false → found cs i old ≡ old
not_among [] i old e = refl
not_among (c ∷ cs) i old e = grind (arith, not_among cs i old (or_parts (c.inode == i) (is_among cs i) e).1)

pub among : (cs : List Change) (i : ℕ) (old other : Option Content) → is_among cs i ≡ true → found cs i old ≡ found cs i other
among [] i old other e = cc
among (c ∷ cs) i old other e =
    elim (c.inode == i) as (λ b. (b || is_among cs i) ≡ true → (if b then c.value else found cs i old) ≡ (if b then c.value else found cs i other)) [
      | true ↦ λ h. refl
      | false ↦ λ h. among cs i old other h
    ] e
