-- A node that is raised: the invariant between events stays.
use Rattle.assise_machine.proofs.Common.{⊤, ◌≡◌, ℕ, None, Some, Option, Result, Ok, Err, IsSome, true, false, true≢false, OnErr, OnOk, ◌↔◌, IsOk, refl, ap, sym}
use Rattle.assise_machine.proofs.Common.{subst, ◌∙◌, append-nil, arith, ∥∥₁_map, Refusal, raise_fault, with_raised, Phase, Membership, Standing, phase_of}
use Rattle.assise_machine.proofs.Common.{standing_of, raised, MachineInvariant, IsRaised, Raising, is_raised, log_in, region_in, observed, own_seen, world_of}
use Rattle.assise_machine.proofs.Common.{CutsInvariant, ShapeInvariant, StateValue, leases_of, raising_answer}
use Rattle.assise_model_events.specs.MemberEvents.{is_refused}
use Rattle.assise_model_events.proofs.Shared.Raised.{raise_holds}

-- what is to be shown of the state then
pub record Raises (s : StateValue) (n : ℕ) (r : Result ⊤ Refusal) (t : StateValue) : Type 0 where
  pub holds : ∥ MachineInvariant (observed t) ∥₁
  pub shape : ShapeInvariant t
  pub noted : CutsInvariant t
  pub happens : Raising (observed s) n (raising_answer r) (observed t)

module _ (s : StateValue) (n : ℕ) where
  abbrev after_raise : StateValue
  after_raise = record s { members = with_raised s.members n }

  shape_kept : ShapeInvariant s → ShapeInvariant after_raise
  unfolding own_seen log_in region_in
  shape_kept shape = assumption

  notes_kept : CutsInvariant s → CutsInvariant after_raise
  notes_kept noted = assumption

  is_raised_now : IsRaised (observed s) n (observed after_raise)
  unfolding observed world_of leases_of own_seen
  is_raised_now = record { members = refl; world = refl; leases = refl; adds = record { history = sym (append-nil s.history); limit = refl; hot = refl } }

  pub members_as : (observed s).members ≡ s.members
  unfolding observed
  members_as = refl

  pub raises : ∥ MachineInvariant (observed s) ∥₁ → ShapeInvariant s → CutsInvariant s → (r : Result ⊤ Refusal) (o : Membership)
      → ((e : Refusal) → raise_fault s.members n ≡ Some e → r ≡ Err e) → IsOk r ↔ (raise_fault s.members n ≡ None)
      → OnOk r (o ≡ with_raised s.members n) → OnErr r (o ≡ s.members) → Raises s n r (record s { members = o })
  raises holds shape noted (Ok u) o fault ok done kept =
      let fine : raise_fault (observed s).members n ≡ None = ap (λ m. raise_fault m n) members_as ∙ ok.0 refl in
      let now : Raising (observed s) n raised (observed after_raise) = is_raised fine refl is_raised_now in
      subst (λ m. Raises s n (Ok u) (record s { members = m })) (sym done) (record {
        holds = ∥∥₁_map holds (λ h. raise_holds (observed s) (observed after_raise) n raised h now);
        shape = shape_kept shape;
        noted = notes_kept noted;
        happens = now;
      })
  raises holds shape noted (Err e) o fault ok done kept =
      subst (λ m. Raises s n (Err e) (record s { members = m })) (sym kept) (record {
        holds = holds;
        shape = shape;
        noted = noted;
        happens = is_refused e (why (raise_fault s.members n) refl) refl refl;
      })
    where
      why : (o : Option Refusal) → raise_fault s.members n ≡ o → raise_fault (observed s).members n ≡ Some e
      why None none = absurd (true≢false (sym (ok.1 none)))
      why (Some other) is = ap (λ m. raise_fault m n) members_as ∙ is ∙ (let both : Err e ≡ Err other = fault other is in ap Some cc)

  -- ---- whether there is such a node

  some_phase : (o : Option Standing) (r : Result Phase Refusal) (p : Phase) → r ≡ phase_of o → r ≡ Ok p → IsSome o
  some_phase o r p is ok = grind arith

  no_phase : (o : Option Standing) (r : Result Phase Refusal) (e : Refusal) → r ≡ phase_of o → r ≡ Err e → IsSome o → ⊥
  no_phase o r e is err some = grind arith

  abbrev There : Type 0
  There = IsSome (standing_of (observed s).members.nodes n)

  pub node_there : (r : Result Phase Refusal) (p : Phase) → r ≡ phase_of (standing_of s.members.nodes n) → r ≡ Ok p →
      (true ≡ true → There) × (There → true ≡ true)
  node_there r p is ok = (λ _. subst (λ m. IsSome (standing_of m.nodes n)) (sym members_as) (some_phase (standing_of s.members.nodes n) r p is ok), λ _. refl)

  pub node_none : (r : Result Phase Refusal) (e : Refusal) → r ≡ phase_of (standing_of s.members.nodes n) → r ≡ Err e →
      (false ≡ true → There) × (There → false ≡ true)
  node_none r e is err = grind (arith, members_as)
