-- A client that crashed, as the laws have it.
use Rattle.assise_machine_calls.proofs.Common.{◌≡◌, ℕ, ◌==◌, List, [], ◌∷◌, ◌++◌, None, refl, sym, subst, ∥∥₁_map, EntryValue, crashes, Asked, IsRevoked}
use Rattle.assise_machine_calls.proofs.Common.{TwoLevels, end_of_log, Crashing, is_crashed, crash_event, crashed, client_fault, MachineInvariant, event_keeps}
use Rattle.assise_machine_calls.proofs.Common.{client_runs, after_crash, ClientValue, client_in, crashed_at, with_client, observed, world_of, AreLeft}
use Rattle.assise_machine_calls.proofs.Common.{CutsInvariant, ShapeInvariant, StateValue, crash_noted, noted_known, areas_stay}
use Rattle.assise_machine_state.proofs.Shared.CrashObserved.{crash_seen, crash_shaped}

-- the event, with the invariant after it
pub record Gives (s : StateValue) (c : ℕ) (s' : StateValue) : Type 0 where
  pub happens : Crashing (observed s) c crashed (observed s')
  pub holds : ∥ MachineInvariant (observed s') ∥₁
  pub shape : ShapeInvariant s'
  pub noted : CutsInvariant s'

-- the clients, the leases, the cuts and the history once client c crashed, in a state where all invariants held
pub record HasCrashed (s : StateValue) (c : ℕ) (cs : List ClientValue) (levels : TwoLevels) (cut : List Asked) (told : List EntryValue) : Type 0 where
  pub holds : ∥ MachineInvariant (observed s) ∥₁
  pub shape : ShapeInvariant s
  pub noted : CutsInvariant s
  pub fine : client_fault (observed s) c ≡ None
  pub asked : List Asked
  pub revoked : IsRevoked s.levels levels c
  pub left : AreLeft s (λ d. d == c) asked
  pub clients : cs ≡ with_client s.clients c (crashed_at (end_of_log (world_of s) c) (client_in s.clients c))
  pub cuts : cut ≡ s.cuts ++ asked
  pub history : told ≡ s.history ++ crashes c ∷ []

module _ {s : StateValue} {c : ℕ} {cs : List ClientValue} {levels : TwoLevels} {cut : List Asked} {told : List EntryValue}
    (after : HasCrashed s c cs levels cut told) where
  abbrev t : StateValue
  t = after_crash s c levels after.asked

  is_event : Crashing (observed s) c crashed (observed t)
  unfolding observed
  is_event =
      let runs = client_runs (observed s) c after.fine in
      is_crashed after.fine refl (record {
        crash = crash_seen s c levels after.asked runs.0 runs.1 after.revoked after.left;
        adds = record { history = refl; limit = refl; hot = refl };
        keeps = record { members = refl; others = areas_stay s t refl };
      })

  noted_after : MachineInvariant (observed s) → CutsInvariant t
  unfolding observed
  noted_after h = crash_noted s c levels after.asked after.noted h.leases after.revoked after.left

  all_given : Gives s c t
  all_given = record {
    happens = is_event;
    holds = ∥∥₁_map after.holds (λ h. event_keeps (observed s) (observed t) (crash_event c) crashed h is_event);
    shape = crash_shaped s c levels after.asked after.shape;
    noted = noted_known t (∥∥₁_map after.holds noted_after);
  }

  -- what the code makes of the state
  pub given : Gives s c (record s { clients = cs; levels = levels; cuts = cut; history = told })
  given =
      subst (Gives s c) (λ i. record s { clients = sym after.clients i; levels = levels; cuts = sym after.cuts i; history = sym after.history i }) all_given
