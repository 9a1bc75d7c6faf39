-- What is put into ordered trees leaves them ordered.
use Rattle.assise_seq_tree.proofs.Common.{◌≡◌, ℕ, List, [], ◌∷◌, Some, Result, Ok, Err, OnOk, OnErr, Ordering, Less, Equal, Greater, nat_cmp, refl, ap, sym}
use Rattle.assise_seq_tree.proofs.Common.{◌∙◌, ◌⊎◌, inl, inr, subst, ordering_reverse, slice_cmp, nat_list_cmp_total, cases_Bool, Tree, file, dir, Entries}
use Rattle.assise_seq_tree.proofs.Common.{no_entries, entry, same_name, find, replace, insert, put, IsBelow, IsOrdered, AreOrdered, TreeError, arith}
use Rattle.assise_seq_tree.proofs.Shared.TreePut.{cases_option}

pub cases_ordering : (o : Ordering) → (o ≡ Less) ⊎ ((o ≡ Equal) ⊎ (o ≡ Greater))
cases_ordering Less = inl refl
cases_ordering Equal = inr (inl refl)
cases_ordering Greater = inr (inr refl)

pub below_trans : (a b : List ℕ) (es : Entries) → slice_cmp nat_cmp a b ≡ Less → IsBelow b es → IsBelow a es
below_trans a b no_entries h below = tt
below_trans a b (entry other t es) h below = (nat_list_cmp_total.trans a b other h below.0, below_trans a b es h below.1)

below-replace : (a name : List ℕ) (t : Tree) (es : Entries) → IsBelow a es → IsBelow a (replace name t es)
below-replace a name t no_entries below = tt
below-replace a name t (entry other u es) below = grind (arith, below-replace a name t es below.1)

below-insert : (a name : List ℕ) (t : Tree) (es : Entries) → slice_cmp nat_cmp a name ≡ Less → IsBelow a es → IsBelow a (insert name t es)
below-insert a name t no_entries h below = (h, tt)
below-insert a name t (entry other u es) h below = grind (arith, below-insert a name t es h below.1)

pub ordered-replace : (name : List ℕ) (t : Tree) (es : Entries) → AreOrdered es → IsOrdered t → AreOrdered (replace name t es)
ordered-replace name t no_entries s o = tt
ordered-replace name t (entry other u es) s o = grind (arith, ordered-replace name t es s.2 o, below-replace)

pub ordered-insert : (name : List ℕ) (t : Tree) (es : Entries) → AreOrdered es → IsOrdered t → AreOrdered (insert name t es)
ordered-insert name t no_entries s o = (tt, o, tt)
ordered-insert name t (entry other u es) s o =
    elim (cases_ordering (slice_cmp nat_cmp name other)) [
      | inl less ↦ rw less ((less, below_trans name other es less s.0), o, s)
      | inr more ↦ elim more [
        | inl tie ↦ rw tie (s.0, o, s.2)
        | inr above ↦
            let less : slice_cmp nat_cmp other name ≡ Less = nat_list_cmp_total.antisymm other name ∙ ap ordering_reverse above in
            rw above (below-insert other name t es less s.0, s.1, ordered-insert name t es s.2 o)
      ]
    ]

pub ordered-find : (name : List ℕ) (es : Entries) (u : Tree) → AreOrdered es → find name es ≡ Some u → IsOrdered u
ordered-find name no_entries u s h = cc
ordered-find name (entry other v es) u s h =
    elim (cases_Bool (same_name name other)) [
      | inl same ↦ let is : Some v ≡ Some u = rw same at h in let v=u : v ≡ u = cc in subst IsOrdered v=u s.1
      | inr disjoint ↦ ordered-find name es u s.2 (rw disjoint at h)
    ]

pub ordered-put : (p : List (List ℕ)) (t x : Tree) → IsOrdered t → IsOrdered x → IsOrdered (put t p x)
unfolding put
ordered-put [] t x s o = o
ordered-put (name ∷ p) (file b) x s o = s
ordered-put (name ∷ p) (dir es) x s o =
    elim (cases_option (find name es)) [
      | inl none ↦ rw none (ordered-insert name _ es s (ordered-put p (dir no_entries) x tt o))
      | inr some ↦ rw some.1 (ordered-replace name _ es s (ordered-put p some.0 x (ordered-find name es some.0 s some.1) o))
    ]

-- a `put` that failed or not leaves an ordered tree
pub ordered-after : {T E : Type 0} (r : Result T E) (p : List (List ℕ)) (v t x : Tree) → OnOk r (v ≡ put t p x) → OnErr r (v ≡ t) → IsOrdered t → IsOrdered x →
    IsOrdered v
ordered-after (Ok y) p v t x ok err s o = subst IsOrdered (sym ok) (ordered-put p t x s o)
ordered-after (Err e) p v t x ok err s o = subst IsOrdered (sym err) s

-- the same where the clauses go by what stands at the path
pub ordered-exchanged : (r : Result Tree TreeError) (p : List (List ℕ)) (v t x : Tree) {P : Tree → Type 0} {Q : Type 0} →
    ((u : Tree) → r ≡ Ok u → P u × (v ≡ put t p x)) → ((e : TreeError) → r ≡ Err e → Q × (v ≡ t)) → IsOrdered t → IsOrdered x → IsOrdered v
ordered-exchanged (Ok u) p v t x there absent s o = subst IsOrdered (sym (there u refl).1) (ordered-put p t x s o)
ordered-exchanged (Err e) p v t x there absent s o = subst IsOrdered (sym (absent e refl).1) s
