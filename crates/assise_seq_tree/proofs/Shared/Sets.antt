-- One entry is set or taken out: what is found then. Ordered entries are what is found in them.
use Rattle.assise_seq_tree.proofs.Common.{◌≡◌, ◌≢◌, ℕ, Bool, true, false, cond, List, Some, None, is_some, Ordering, Less, Equal, Greater, nat_cmp, refl, ap}
use Rattle.assise_seq_tree.proofs.Common.{sym, ◌∙◌, inl, inr, subst, false≢true, cases_Bool, is_eq, match_ordering, ordering_reverse, tied_itself, slice_cmp}
use Rattle.assise_seq_tree.proofs.Common.{Tree, Entries, no_entries, entry, same_name, find, replace, insert, set, remove, IsBelow, IsOrdered, AreOrdered}
use Rattle.assise_seq_tree.proofs.Common.{arith}
use Rattle.std.specs.Cmp.Lexicographic.{nat_list_cmp_total}
use Rattle.std.proofs.lemmas.Map.Lookups.{exact_bytes}
use Rattle.assise_seq_tree.proofs.Order.{cases_ordering, below_trans, ordered-replace, ordered-insert}

-- ---- names
pub tied : (o : Ordering) → is_eq o ≡ true → o ≡ Equal
tied Less e = cc
tied Equal e = refl
tied Greater e = cc

pub same_itself : (n : List ℕ) → same_name n n ≡ true
same_itself n = ap is_eq (tied_itself nat_list_cmp_total n)

pub one_name : (x n : List ℕ) → same_name x n ≡ true → x ≡ n
one_name x n e = exact_bytes x n (tied (slice_cmp nat_cmp x n) e)

two_names : (x n : List ℕ) → same_name x n ≡ false → x ≢ n
two_names x n e h = false≢true (sym e ∙ ap (λ m. same_name m n) h ∙ same_itself n)

-- ---- choices
pub shadowed : {A : Type 0} (b : Bool) (x y z : A) → cond b x z ≡ cond b x (cond b y z)
shadowed true x y z = refl
shadowed false x y z = refl

pub swapped : {A : Type 0} (a b : Bool) (x y z : A) → (a ≡ true → b ≡ true → ⊥) → cond a x (cond b y z) ≡ cond b y (cond a x z)
swapped true true x y z disjoint = absurd (disjoint refl refl)
swapped true false x y z disjoint = refl
swapped false b x y z disjoint = refl

pub not_both : (q n k : List ℕ) → same_name n k ≡ false → same_name q k ≡ true → same_name q n ≡ true → ⊥
not_both q n k e a b = two_names n k e (sym (one_name q n b) ∙ one_name q k a)

-- ---- what is found
find-same : (q n k : List ℕ) (x t : Tree) (es : Entries) → n ≡ k → find q (entry k x es) ≡ cond (same_name q n) (Some x) (find q (entry k t es))
find-same q n k x t es e = grind arith

pub find-replace_any : (q n : List ℕ) (x : Tree) (es : Entries) → is_some (find n es) ≡ true → find q (replace n x es) ≡ cond (same_name q n) (Some x)
    (find q es)
find-replace_any q n x no_entries there = absurd (false≢true there)
find-replace_any q n x (entry k t es) there = go (λ h. find-replace_any q n x es h) (same_name n k) refl there
  where
    go : (is_some (find n es) ≡ true → find q (replace n x es) ≡ cond (same_name q n) (Some x) (find q es)) → (b : Bool) → same_name n k ≡ b →
        is_some (cond b (Some t) (find n es)) ≡ true → find q (cond b (entry k x es) (entry k t (replace n x es))) ≡ cond (same_name q n) (Some x)
        (find q (entry k t es))
    go ih true e h = find-same q n k x t es (one_name n k e)
    go ih false e h = ap (cond (same_name q k) (Some t)) (ih h) ∙ swapped (same_name q k) (same_name q n) (Some t) (Some x) (find q es) (not_both q n k e)

find-insert : (q n : List ℕ) (x : Tree) (es : Entries) → find q (insert n x es) ≡ cond (same_name q n) (Some x) (find q es)
find-insert q n x no_entries = refl
find-insert q n x (entry k t es) = go (find-insert q n x es) (slice_cmp nat_cmp n k) refl
  where
    go : (find q (insert n x es) ≡ cond (same_name q n) (Some x) (find q es)) → (o : Ordering) → slice_cmp nat_cmp n k ≡ o →
        find q (match_ordering o (entry n x (entry k t es)) (entry k x es) (entry k t (insert n x es))) ≡ cond (same_name q n) (Some x) (find q (entry k t es))
    go ih Less e = refl
    go ih Equal e = find-same q n k x t es (one_name n k (ap is_eq e))
    go ih Greater e = ap (cond (same_name q k) (Some t)) ih ∙ swapped (same_name q k) (same_name q n) (Some t) (Some x) (find q es)
        (not_both q n k (ap is_eq e))

pub find-set : (q n : List ℕ) (x : Tree) (es : Entries) → find q (set n x es) ≡ cond (same_name q n) (Some x) (find q es)
find-set q n x es = grind (arith, find-replace_any, find-insert)

pub find_below : (q : List ℕ) (es : Entries) → IsBelow q es → find q es ≡ None
find_below q no_entries below = refl
find_below q (entry k t es) below = ap (λ o. cond (is_eq o) (Some t) (find q es)) below.0 ∙ find_below q es below.1

-- a name that is found past the first entry is another one than that
pub found_later : (q name : List ℕ) (t u : Tree) (es : Entries) → IsBelow name es → find q es ≡ Some u → find q (entry name t es) ≡ Some u
found_later q name t u es below there =
    elim (cases_Bool (same_name q name)) [
      | inl same ↦ let none = find_below name es below in let some = ap (λ n. find n es) (sym (one_name q name same)) ∙ there in cc
      | inr differs ↦ ap (λ b. cond b (Some t) (find q es)) differs ∙ there
    ]

pub find-remove : (q n : List ℕ) (es : Entries) → AreOrdered es → find q (remove n es) ≡ cond (same_name q n) None (find q es)
find-remove q n no_entries s = grind arith
find-remove q n (entry k t es) s = go (find-remove q n es s.2) (same_name n k) refl
  where
    gone : n ≡ k → (b : Bool) → same_name q n ≡ b → find q es ≡ cond b None (cond b (Some t) (find q es))
    gone one true e = find_below q es (subst (λ m. IsBelow m es) (sym (one_name q n e ∙ one)) s.0)
    gone one false e = refl

    go : find q (remove n es) ≡ cond (same_name q n) None (find q es) → (b : Bool) → same_name n k ≡ b → find q (cond b es (entry k t (remove n es)))
        ≡ cond (same_name q n) None (cond (same_name q k) (Some t) (find q es))
    go ih true e = let one = one_name n k e in
        subst (λ m. find q es ≡ cond (same_name q n) None (cond (same_name q m) (Some t) (find q es))) one (gone one (same_name q n) refl)
    go ih false e = ap (cond (same_name q k) (Some t)) ih ∙ swapped (same_name q k) (same_name q n) (Some t) None (find q es) (not_both q n k e)

-- ---- order
below-remove : (a n : List ℕ) (es : Entries) → IsBelow a es → IsBelow a (remove n es)
below-remove a n no_entries below = tt
below-remove a n (entry k t es) below = grind (arith, below-remove a n es below.1)

pub ordered-remove : (n : List ℕ) (es : Entries) → AreOrdered es → AreOrdered (remove n es)
ordered-remove n no_entries s = tt
ordered-remove n (entry k t es) s = grind (arith, ordered-remove n es s.2, below-remove)

pub ordered-set : (n : List ℕ) (x : Tree) (es : Entries) → AreOrdered es → IsOrdered x → AreOrdered (set n x es)
ordered-set n x es s o = grind (arith, ordered-replace, ordered-insert)

-- ---- ordered entries are what is found in them
pub find_first : (n : List ℕ) (t : Tree) (es : Entries) → find n (entry n t es) ≡ Some t
find_first n t es = ap (λ b. cond b (Some t) (find n es)) (same_itself n)

missed : (n m : List ℕ) (t u : Tree) (es fs : Entries) {P : Type 0} → slice_cmp nat_cmp n m ≡ Less → IsBelow m fs →
    find n (entry n t es) ≡ find n (entry m u fs) → P
missed n m t u es fs less below h = grind (arith, find_below, below_trans, find_first)

tails : (q n : List ℕ) (t u : Tree) (es fs : Entries) → IsBelow n es → IsBelow n fs → find q (entry n t es) ≡ find q (entry n u fs) → find q es ≡ find q fs
tails q n t u es fs a b h = go (same_name q n) refl h
  where
    go : (c : Bool) → same_name q n ≡ c → cond c (Some t) (find q es) ≡ cond c (Some u) (find q fs) → find q es ≡ find q fs
    go true e f = let one = one_name q n e in
        find_below q es (subst (λ m. IsBelow m es) (sym one) a) ∙ sym (find_below q fs (subst (λ m. IsBelow m fs) (sym one) b))
    go false e f = f

pub same_entries : (es fs : Entries) → AreOrdered es → AreOrdered fs → ((q : List ℕ) → find q es ≡ find q fs) → es ≡ fs
same_entries no_entries no_entries s o h = refl
same_entries no_entries (entry m u fs) s o h = let none = h m ∙ find_first m u fs in cc
same_entries (entry n t es) no_entries s o h = let none = sym (h n) ∙ find_first n t es in cc
same_entries (entry n t es) (entry m u fs) s o h =
    elim (cases_ordering (slice_cmp nat_cmp n m)) [
      | inl less ↦ missed n m t u es fs less o.0 (h n)
      | inr more ↦ elim more [
        | inl tie ↦
            let one : n ≡ m = exact_bytes n m tie in
            let here : ((q : List ℕ) → find q (entry n t es) ≡ find q (entry n u fs)) =
            grind arith in
            let below : IsBelow n fs = subst (λ k. IsBelow k fs) (sym one) o.0 in
            let trees : Some t ≡ Some u = sym (find_first n t es) ∙ here n ∙ find_first n u fs in
            let rest : es ≡ fs = same_entries es fs s.2 o.2 (λ q. tails q n t u es fs s.0 below (here q)) in
            cc
        | inr above ↦
            let less : slice_cmp nat_cmp m n ≡ Less = nat_list_cmp_total.antisymm m n ∙ ap ordering_reverse above in
            missed m n u t fs es less s.0 (sym (h m))
      ]
    ]
