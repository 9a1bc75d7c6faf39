-- Leases that are ready can go, where clients hold no inode above some number.
use Rattle.assise_model_events.proofs.Common.{◌≡◌, ◌⊎◌, ℕ, zero, suc, ◌≤◌, inl, inr, true, false, List, [], ◌∷◌, None, refl, ap, sym, ◌∙◌, subst, arith, eq-eqb}
use Rattle.assise_model_events.proofs.Common.{and_parts, both_ways, cases_Bool, cases_eq, leb-true, ne_eqb, Among, without_holder, nodes_released}
use Rattle.assise_model_events.proofs.Common.{without_other, without_own, World, end_of_log, digested_by_all, ReleasesReady, Leases, client_lease, with_at}
use Rattle.assise_model_events.proofs.Common.{becomes, holding, holds_them, Gone, LetsGo, is_ready, leases_after}

-- ---- all pairs of numbers up to two others

abbrev row : ℕ → ℕ → List (ℕ × ℕ) → List (ℕ × ℕ)
row c zero rest = (c, zero) ∷ rest
row c (suc i) rest = (c, suc i) ∷ row c i rest

abbrev pub pairs : ℕ → ℕ → List (ℕ × ℕ)
pairs zero i = row zero i []
pairs (suc c) i = row (suc c) i (pairs c i)

in_rest : (c most : ℕ) (rest : List (ℕ × ℕ)) (x : ℕ × ℕ) → Among rest x → Among (row c most rest) x
in_rest c zero rest x h = inr h
in_rest c (suc i) rest x h = inr (in_rest c i rest x h)

in_row : (c most : ℕ) (rest : List (ℕ × ℕ)) (i : ℕ) → i ≤ most → Among (row c most rest) (c, i)
in_row c zero rest i low = (let is : i ≡ 0 = omega (arith, low) in inl (ap (λ j. (c, j)) is))
in_row c (suc most) rest i low =
    elim (cases_eq i (suc most)) [
      | inl is ↦ inl (ap (λ j. (c, j)) is)
      | inr other ↦ inr (in_row c most rest i (omega (arith, low, other)))
    ]

pub in_pairs : (b k c i : ℕ) → c ≤ b → i ≤ k → Among (pairs b k) (c, i)
in_pairs zero k c i few low = (let is : 0 ≡ c = omega (arith, few) in subst (λ d. Among (pairs zero k) (d, i)) is (in_row zero k [] i low))
in_pairs (suc b) k c i few low =
    elim (cases_eq c (suc b)) [
      | inl is ↦ subst (λ d. Among (row (suc b) k (pairs b k)) (d, i)) (sym is) (in_row (suc b) k (pairs b k) i low)
      | inr other ↦ in_rest (suc b) k (pairs b k) (c, i) (in_pairs b k c i (omega (arith, few, other)) low)
    ]

-- ---- one lease goes

abbrev let_go : World → Leases → ℕ → ℕ → Leases
let_go w l c i = record {
  levels = record {
    home = l.levels.home;
    clients = with_at l.levels.clients i (without_holder c (l.levels.clients i));
    nodes = with_at l.levels.nodes i (nodes_released l.levels.home (without_holder c (l.levels.clients i)) (w.home c) (l.levels.nodes i));
  };
  cut = l.cut;
}

module _ (w : World) (l : Leases) (c i : ℕ) where
  abbrev after : Leases
  after = let_go w l c i

  goes_now : is_ready w l c i ≡ true → ReleasesReady w l c i (holding w after) after
  goes_now ready = grind (arith, and_parts, leb-true, becomes, holds_them)

  one_gone : client_lease after c i ≡ None
  one_gone = rw (eq-eqb i i refl) (without_own (l.levels.clients i) c)

  others_same : (d j : ℕ) → (d ≡ c → j ≡ i → ⊥) → client_lease after d j ≡ client_lease l d j
  others_same d j differs = grind (arith, cases_eq, eq-eqb, without_other, ne_eqb)

  same_or_gone : (d j : ℕ) → (client_lease after d j ≡ client_lease l d j) ⊎ (client_lease after d j ≡ None)
  same_or_gone d j = grind (arith, cases_eq, one_gone, others_same)

  still_empty : (j : ℕ) → l.levels.clients j ≡ [] → after.levels.clients j ≡ []
  still_empty j none = grind (arith, cases_eq, eq-eqb, ne_eqb)

  same_digested : (d : ℕ) → digested_by_all (holding w after) d ≡ digested_by_all w d
  unfolding digested_by_all end_of_log
  same_digested d = refl

  still_ready : (d j : ℕ) → client_lease after d j ≡ client_lease l d j → is_ready w l d j ≡ true → is_ready (holding w after) after d j ≡ true
  still_ready d j same ready = grind (arith, holding, same_digested)

-- ---- these go that are ready

pub record LetOut (w : World) (l : Leases) (ps : List (ℕ × ℕ)) : Type 0 where
  pub gone : List Gone
  pub goes : LetsGo w l gone
  pub out : (c i : ℕ) → Among ps (c, i) → is_ready w l c i ≡ true → client_lease (leases_after l gone) c i ≡ None
  pub none : (c i : ℕ) → client_lease l c i ≡ None → client_lease (leases_after l gone) c i ≡ None
  pub empty : (i : ℕ) → l.levels.clients i ≡ [] → (leases_after l gone).levels.clients i ≡ []

stays : (w : World) (l : Leases) (c i : ℕ) (ps : List (ℕ × ℕ)) → is_ready w l c i ≡ false → LetOut w l ps → LetOut w l ((c, i) ∷ ps)
stays w l c i ps early r = grind (arith, both_ways, is_ready)

goes_first : (w : World) (l : Leases) (c i : ℕ) (ps : List (ℕ × ℕ)) → is_ready w l c i ≡ true → LetOut (holding w (let_go w l c i)) (let_go w l c i) ps →
    LetOut w l ((c, i) ∷ ps)
goes_first w l c i ps now r = record {
  gone = record { client = c; inode = i; world = holding w (let_go w l c i); leases = let_go w l c i } ∷ r.gone;
  goes = (goes_now w l c i now, λ k j away. refl, r.goes);
  out = λ d j there ready. elim (same_or_gone w l c i d j) [
    | inl same ↦ grind (arith, client_lease, one_gone w l c i, still_ready w l c i d j same ready)
    | inr out ↦ r.none d j out
  ];
  none = λ d j is. elim (same_or_gone w l c i d j) [
    | inl same ↦ r.none d j (same ∙ is)
    | inr out ↦ r.none d j out
  ];
  empty = λ j is. r.empty j (still_empty w l c i j is);
}

pub let_out : (w : World) (l : Leases) (ps : List (ℕ × ℕ)) → LetOut w l ps
let_out w l [] = record { gone = []; goes = tt; out = λ c i there ready. absurd there; none = λ c i is. is; empty = λ i is. is }
let_out w l ((c, i) ∷ ps) = grind
    (arith, let_out (holding w (let_go w l c i)) (let_go w l c i) ps, let_out w l ps, cases_Bool, is_ready, goes_first, holding, stays)
