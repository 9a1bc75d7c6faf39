-- The list that a failure has.
use Rattle.assise_model_history.proofs.Common.{◌≡◌, ◌≢◌, ◌↔◌, ℕ, zero, suc, ◌<◌, ◌≤◌, true, false, not, ◌==◌, List, [], ◌∷◌, ◌++◌, if◌then◌else◌, filter}
use Rattle.assise_model_history.proofs.Common.{Contains, refl, ap, sym, subst, ◌∙◌, inl, inr, arith, append-nil, eqb-true, eq-eqb, ne_eqb, cases_Bool, cases_eq}
use Rattle.assise_model_history.proofs.Common.{and_parts, and_from, both_ways, or_right, Contains-append_left, Contains-append_right, Contains-append_cases}
use Rattle.assise_model_history.proofs.Common.{Loss, ClientsAscend, cut_end, not_nil, contains, kept_at_failure, WorldInvariant, World, Full, least_of}
use Rattle.assise_model_history.proofs.Common.{end_of_log, call_at, least_of-is, least_of-below, least_of-above, is_cut, losses_to, losses_of, IsFirstLost}

-- ---- lists

none_in : {X : Type 0} (x : X) → Contains [] x → ⊥
none_in x h = omega (arith, h.1)

pub one_in : {X : Type 0} (x y : X) → Contains (x ∷ []) y → x ≡ y
one_in x y (zero, few, is) = is
one_in x y (suc k, few, is) = absurd (omega arith)

first_in : {X : Type 0} (xs : List X) (x : X) → Contains (x ∷ xs) x
first_in xs x = (0, omega arith, refl)

pub in_midst : {X : Type 0} (xs before behind : List X) (x : X) → xs ≡ before ++ x ∷ behind → Contains xs x
in_midst xs before behind x split = subst (λ ys. Contains ys x) (sym split) (Contains-append_right before (x ∷ behind) x (first_in behind x))

-- ---- who is listed

abbrev pub first_loss : World → ℕ → ℕ → Loss
first_loss w n c = record { client = c; first = call_at w c (kept_at_failure w n c) }

-- one of clients 1 to m of which records are cut, with the call of the first of these
pub record IsLossTo (w : World) (n m : ℕ) (l : Loss) : Type 0 where
  pub low : 1 ≤ l.client
  pub high : l.client ≤ m
  pub some : kept_at_failure w n l.client < end_of_log w l.client
  pub first : l.first ≡ call_at w l.client (kept_at_failure w n l.client)

pub listed_to : (w : World) (n m : ℕ) (l : Loss) → Contains (losses_to w n m) l → IsLossTo w n m l
listed_to w n zero l h = absurd (none_in l h)
listed_to w n (suc m) l h =
    elim (Contains-append_cases (losses_to w n m) _ l h) [
      | inl before ↦ grind (arith, listed_to w n m l before)
      | inr here ↦ grind arith
    ]

loss_to : (w : World) (n m c : ℕ) → 1 ≤ c → c ≤ m → kept_at_failure w n c < end_of_log w c → Contains (losses_to w n m) (first_loss w n c)
loss_to w n zero c low high some = absurd (omega (arith, low, high))
loss_to w n (suc m) c low high some =
    elim (cases_eq (suc m) c) [
      | inl own ↦
          let cut : is_cut w n (suc m) ≡ true = grind arith in
          subst (λ d. Contains (losses_to w n (suc m)) (first_loss w n d)) own
          (Contains-append_right (losses_to w n m) _ (first_loss w n (suc m)) (rw cut (first_in [] (first_loss w n (suc m)))))
      | inr other ↦ Contains-append_left (losses_to w n m) _ (first_loss w n c) (loss_to w n m c low (omega (arith, high, other)) some)
    ]

pub is_loss : (w : World) (n m : ℕ) (l : Loss) → IsLossTo w n m l → Contains (losses_to w n m) l
is_loss w n m l o = subst (λ f. Contains (losses_to w n m) (record l { first = f })) (sym o.first) (loss_to w n m l.client o.low o.high o.some)

-- ---- they ascend

ascending_push : (ls : List Loss) (e : Loss) → ClientsAscend ls → ((l : Loss) → Contains ls l → l.client < e.client) → ClientsAscend (ls ++ e ∷ [])
ascending_push ls e ascending low before between behind l m split =
    elim (cut_end ls e before l (between ++ m ∷ behind) split) [
      | inl p ↦ absurd (not_nil between behind m (sym p.more_is))
      | inr r ↦ elim (cut_end r.rest e between m behind (sym r.more_is)) [
        | inl q ↦ subst (λ k. l.client < k.client) q.last_is (low l (in_midst ls before r.rest l r.split))
        | inr q ↦ ascending before between q.rest l m (r.split ∙ ap (λ ks. before ++ l ∷ ks) q.split)
      ]
    ]

ascends_to : (w : World) (n m : ℕ) → ClientsAscend (losses_to w n m)
ascends_to w n zero = λ before between behind l k split. absurd (not_nil before (between ++ k ∷ behind) l split)
ascends_to w n (suc m) =
    elim (is_cut w n (suc m)) as (λ b. ClientsAscend (losses_to w n m ++ (if b then first_loss w n (suc m) ∷ [] else []))) [
      | true ↦ ascending_push (losses_to w n m) (first_loss w n (suc m)) (ascends_to w n m) (λ l h. grind (arith, listed_to w n m l h))
      | false ↦ subst ClientsAscend (sym (append-nil (losses_to w n m))) (ascends_to w n m)
    ]

pub losses_ascend : (w : World) (n : ℕ) → ClientsAscend (losses_of w n)
losses_ascend w n = ascends_to w n w.clients

-- ---- in words

left_of : (ns : List ℕ) (n m : ℕ) → contains (filter (λ k. not (k == n)) ns) m ≡ true → (contains ns m ≡ true) × (m ≢ n)
left_of [] n m h = cc
left_of (k ∷ ns) n m h =
    elim (cases_Bool (k == n)) [
      | inl e ↦ (let t : (contains ns m ≡ true) × (m ≢ n) = left_of ns n m (rw e at h) in (or_right (k == m) (contains ns m) t.0, t.1))
      | inr e ↦ elim (cases_Bool (k == m)) [
        | inl is ↦ (rw is refl, λ q. both_ways (k == n) e (eq-eqb k n (eqb-true k m is ∙ q)))
        | inr other ↦ (let t : (contains ns m ≡ true) × (m ≢ n) = left_of ns n m (rw (e, other) at h) in (or_right (k == m) (contains ns m) t.0, t.1))
      ]
    ]

pub is_left : (ns : List ℕ) (n m : ℕ) → contains ns m ≡ true → m ≢ n → contains (filter (λ k. not (k == n)) ns) m ≡ true
is_left [] n m h other = h
is_left (k ∷ ns) n m h other =
    elim (cases_Bool (k == n)) [
      | inl e ↦ rw e (is_left ns n m (rw (ne_eqb k m (λ is. other (sym is ∙ eqb-true k n e))) at h) other)
      | inr e ↦ rw e (elim (cases_Bool (k == m)) [
        | inl is ↦ rw is refl
        | inr differs ↦ rw differs (is_left ns n m (rw differs at h) other)
      ])
    ]

abbrev pub others_of : World → ℕ → List ℕ
others_of w n = filter (λ m. not (m == n)) w.full

abbrev pub least_kept : World → ℕ → ℕ → ℕ
least_kept w n c = least_of (others_of w n) (λ m. w.received m c) (end_of_log w c)

-- where records of a client are cut it lives there, and the cut is what all others have
cut_lives : (w : World) (n c : ℕ) → kept_at_failure w n c < end_of_log w c → (w.lives c ≡ true) × (w.home c ≡ n) × (kept_at_failure w n c ≡ least_kept w n c)
unfolding kept_at_failure
cut_lives w n c some = grind (arith, cases_Bool, and_parts, eqb-true)

pub cut_there : (w : World) (n c : ℕ) → w.lives c ≡ true → w.home c ≡ n → kept_at_failure w n c ≡ least_kept w n c
unfolding kept_at_failure
cut_there w n c lives home = grind (arith, and_from, eq-eqb)

-- some node that is left has no more
record HasLeast (w : World) (n c k : ℕ) : Type 0 where
  node : ℕ
  full : Full w node
  other : node ≢ n
  is : k ≡ w.received node c

least_has : (w : World) (n c : ℕ) → least_kept w n c < end_of_log w c → HasLeast w n c (least_kept w n c)
least_has w n c some =
    least_of-is (λ k. k < end_of_log w c → HasLeast w n c k) (others_of w n) (λ m. w.received m c) (end_of_log w c)
    (λ low. absurd (omega (arith, low)))
    (λ m h low. let p = left_of w.full n m h in record { node = m; full = p.0; other = p.1; is = refl }) some

first_lost : (w : World) (n : ℕ) (l : Loss) → IsLossTo w n w.clients l → IsFirstLost w n l
first_lost w n l o =
    let c : ℕ = l.client in
    let t = cut_lives w n c o.some in
    let at : kept_at_failure w n c ≡ least_kept w n c = t.2 in
    let some : least_kept w n c < end_of_log w c = (let h : kept_at_failure w n c < end_of_log w c = o.some in omega (arith, h, at)) in
    let least : HasLeast w n c (least_kept w n c) = least_has w n c some in
    record {
      lives = t.0;
      home = t.1;
      least = least.node;
      other = least.other;
      full = least.full;
      lacks = (let is : least_kept w n c ≡ w.received least.node c = least.is in omega (arith, some, is));
      all_have = λ m full other.
          let is : least_kept w n c ≡ w.received least.node c = least.is in
          let h : least_kept w n c ≤ w.received m c = least_of-below (others_of w n) (λ k. w.received k c) (end_of_log w c) m (is_left w.full n m full other) in
          omega (arith, is, h);
      first = o.first ∙ ap (call_at w c) (at ∙ least.is);
    }

lost_first : (w : World) (n : ℕ) (l : Loss) → WorldInvariant w → IsFirstLost w n l → IsLossTo w n w.clients l
lost_first w n l s f =
    let c : ℕ = l.client in
    let at : kept_at_failure w n c ≡ least_kept w n c = cut_there w n c f.lives f.home in
    let below : least_kept w n c ≤ w.received f.least c = grind (arith, least_of-below, is_left w.full n f.least f.full f.other) in
    let lacks : w.received f.least c < end_of_log w c = f.lacks in
    let above : w.received f.least c ≤ least_kept w n c = grind (arith, least_of-above, left_of) in
    let is : kept_at_failure w n c ≡ w.received f.least c = omega (arith, at, below, above) in
    let client = s.opened c f.lives in
    record { low = client.0; high = client.1; some = omega (arith, is, lacks); first = f.first ∙ ap (call_at w c) (sym is) }

pub exactly_lost : (w : World) (n : ℕ) (l : Loss) → WorldInvariant w → Contains (losses_of w n) l ↔ IsFirstLost w n l
exactly_lost w n l s = (λ h. first_lost w n l (listed_to w n w.clients l h), λ f. is_loss w n w.clients l (lost_first w n l s f))
