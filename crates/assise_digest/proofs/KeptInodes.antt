-- What is kept of inodes beside the area, inode by inode.
use Rattle.assise_digest.proofs.Common.{◌≡◌, ◌≢◌, ◌⊎◌, ◌||◌, ◌==◌, ◌+◌, ◌<◌, ℕ, zero, suc, length, drop, slice_index_or, arith, true, false, cond}
use Rattle.assise_digest.proofs.Common.{if◌then◌else◌, List, [], ◌∷◌, Option, Some, None, IsSome, refl, sym, ap, subst, ◌∙◌, inl, inr, is_some, cond_both}
use Rattle.assise_digest.proofs.Common.{eq-eqb, ne_eqb, at_drop_more, nat_cmp_total, nat_cmp, option_map_or, Effect, touched_by, Content, InodeMap, contains}
use Rattle.assise_digest.proofs.Common.{touched, with_value, get-with_value, same_number, remove-absent, HasAllNumbers, IsNew, KeepsNoMore, all_held, forgotten}
use Rattle.assise_digest.proofs.Common.{held, loaded_in_turn, let_go, last_noted, Pending}
use Rattle.std.specs.FinMap as map

-- ---- finite maps of numbers

pub get-set : (l : map.FinMap nat_cmp ℕ) (i n q : ℕ) → map.get (map.insert l i n) q ≡ (if i == q then Some n else map.get l q)
get-set l i n q = map.get-insert nat_cmp_total l i n q ∙ ap (λ b. cond b (Some n) (map.get l q)) (same_number q i)

pub get-cut : {X : Type 0} (l : map.FinMap nat_cmp X) (i q : ℕ) → map.get (map.remove l i) q ≡ (if i == q then None else map.get l q)
get-cut l i q = map.get-remove nat_cmp_total l i q ∙ ap (λ b. cond b None (map.get l q)) (same_number q i)

-- ---- what is kept of one inode: the number of a record, and the value

abbrev pub point : Pending → ℕ → Option ℕ × Option Content
point p q = (map.get p.last q, map.get p.inodes q)

pub same_pending : (p r : Pending) → ((q : ℕ) → point p q ≡ point r q) → p ≡ r
same_pending p r same =
    ap (λ m. record { inodes = m; last = p.last }) (map.same_map nat_cmp_total map.nat_cmp-IsAntisymmetric p.inodes r.inodes (λ q. ap (λ x. x.1) (same q)))
    ∙ ap (λ l. record { inodes = r.inodes; last = l }) (map.same_map nat_cmp_total map.nat_cmp-IsAntisymmetric p.last r.last (λ q. ap (λ x. x.0) (same q)))

-- a step at each inode of a list, of which a second one at the same inode changes nothing more
module _ (step : Pending → ℕ → Pending) (f : ℕ → Option ℕ × Option Content → Option ℕ × Option Content)
    (stepped : (p : Pending) (i q : ℕ) → point (step p i) q ≡ (if i == q then f q (point p q) else point p q))
    (once : (q : ℕ) (x : Option ℕ × Option Content) → f q (f q x) ≡ f q x) where
  pub points : (p : Pending) (is : List ℕ) (q : ℕ) → point (loaded_in_turn step p is) q ≡ (if contains is q then f q (point p q) else point p q)
  points p [] q = refl
  points p (i ∷ is) q = grind (arith, points (step p i) is q, contains)

-- ---- an inode is kept as it is

abbrev pub kept_at : InodeMap → ℕ → ℕ → Option ℕ × Option Content → Option ℕ × Option Content
kept_at m n q x = if is_some x.0 then x else (Some n, map.get m q)

kept_once : (m : InodeMap) (n q : ℕ) (x : Option ℕ × Option Content) → kept_at m n q (kept_at m n q x) ≡ kept_at m n q x
kept_once m n q (None, v) = refl
kept_once m n q (Some k, v) = refl

pub held_point : (m : InodeMap) (n : ℕ) (p : Pending) (i q : ℕ) → point (held p m n i) q ≡ (if i == q then kept_at m n q (point p q) else point p q)
held_point m n p i q = grind (arith, get-set, get-with_value)

pub all_held_point : (m : InodeMap) (n : ℕ) (p : Pending) (es : List Effect) (q : ℕ) → point (all_held p m n es) q
    ≡ (if contains (touched es) q then kept_at m n q (point p q) else point p q)
all_held_point m n p es q = points (λ r i. held r m n i) (kept_at m n) (held_point m n) (kept_once m n) p (touched es) q

-- ---- an inode goes that no other record touches

abbrev pub left_at : ℕ → Option ℕ × Option Content → Option ℕ × Option Content
left_at n x = if option_map_or (λ k. k == n) x.0 false then (None, None) else x

left_once : (n q : ℕ) (x : Option ℕ × Option Content) → left_at n (left_at n x) ≡ left_at n x
left_once n q (None, v) = refl
left_once n q (Some k, v) = grind arith

pub let_go_point : (n : ℕ) (p : Pending) (i q : ℕ) → point (let_go p n i) q ≡ (if i == q then left_at n (point p q) else point p q)
let_go_point n p i q = grind (arith, get-cut)

pub forgotten_point : (n : ℕ) (p : Pending) (es : List Effect) (q : ℕ) → point (forgotten p n es) q
    ≡ (if contains (touched es) q then left_at n (point p q) else point p q)
forgotten_point n p es q = points (λ r i. let_go r n i) (λ q. left_at n) (let_go_point n) (left_once n) p (touched es) q

-- ---- what was kept is let go again

-- nothing goes where no inode has the number
pub nothing_forgotten : (p : Pending) (n : ℕ) (es : List Effect) → IsNew p n → forgotten p n es ≡ p
nothing_forgotten p n es new = grind (arith, same_pending, forgotten_point)

-- an inode that is kept for an effect goes with the others
pub forgotten_again : (p : Pending) (m : InodeMap) (n i : ℕ) (es : List Effect) → KeepsNoMore p → contains (touched es) i ≡ true → forgotten (held p m n i) n es
    ≡ forgotten p n es
forgotten_again p m n i es no_more among = grind (arith, same_pending, forgotten_point, held_point)

pub held_no_more : (p : Pending) (m : InodeMap) (n i : ℕ) → KeepsNoMore p → KeepsNoMore (held p m n i)
held_no_more p m n i no_more q none = grind (arith, held_point)

-- ---- numbers

pub get-noted : (l : map.FinMap nat_cmp ℕ) (n : ℕ) (es : List Effect) (q : ℕ) → map.get (last_noted l n es) q
    ≡ (if contains (touched es) q then Some n else map.get l q)
get-noted l n [] q = refl
get-noted l n (e ∷ es) q = grind (arith, get-noted (map.insert l (touched_by e) n) n es q, get-set)

pub all_held_has : (p : Pending) (m : InodeMap) (n : ℕ) (es : List Effect) → HasAllNumbers (all_held p m n es).last es
all_held_has p m n es q among = grind (arith, all_held_point)

pub set_has : (l : map.FinMap nat_cmp ℕ) (i n : ℕ) (es : List Effect) → HasAllNumbers l es → HasAllNumbers (map.insert l i n) es
set_has l i n es has q among = subst IsSome (sym (get-set l i n q)) (cond_both (i == q) (Some n) (map.get l q) IsSome (λ _. refl) (λ _. has q among))

-- ---- an effect of a list

-- it is among those that are left
pub left_after : {X Y : Type 0} (F : List X → Y) (es : List X) (k : ℕ) (e : X) → k < length es → e ≡ slice_index_or es k e →
    F (e ∷ drop (k + 1) es) ≡ F (drop k es)
left_after F es k e h is = ap (λ x. F (x ∷ drop (k + 1) es)) is ∙ sym (at_drop_more F es k e h)

-- the inode that it touches is touched by the list
pub touched_item : (es : List Effect) (k : ℕ) (e : Effect) → k < length es → e ≡ slice_index_or es k e → contains (touched es) (touched_by e) ≡ true
touched_item [] k e h is = absurd (omega (arith, h))
touched_item (x ∷ es) zero e h is = ap (λ b. b || contains (touched es) (touched_by e)) (eq-eqb (touched_by x) (touched_by e) (ap touched_by (sym is)))
touched_item (x ∷ es) (suc k) e h is = grind (arith, touched_item es k e (omega (arith, h)) is)

-- an inode that was put in and is taken out again leaves what there was
pub put_and_removed : (m : InodeMap) (i : ℕ) (v : Option Content) → map.get m i ≡ None → map.remove (with_value m i v) i ≡ m
put_and_removed m i v none = map.same_map nat_cmp_total map.nat_cmp-IsAntisymmetric _ _ (grind (arith, get-cut, get-with_value))
  where
    go : (q : ℕ) → (i ≡ q) ⊎ (i ≢ q) → (if i == q then None else (if i == q then v else map.get m q)) ≡ map.get m q
    go q (inl same) = ap (λ b. if b then None else (if b then v else map.get m q)) (eq-eqb i q same) ∙ sym none ∙ ap (map.get m) same
    go q (inr other) = ap (λ b. if b then None else (if b then v else map.get m q)) (ne_eqb i q other)

-- where a number has no inode, taking it out changes nothing
pub nothing_removed : (m : InodeMap) (i : ℕ) → map.get m i ≡ None → m ≡ with_value m i None
nothing_removed m i none = remove-absent nat_cmp_total map.nat_cmp-IsAntisymmetric m i none
