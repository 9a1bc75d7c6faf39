-- Whatever happens.
use Rattle.assise_model_history.proofs.Common.{◌≡◌, ℕ, zero, suc, ◌<◌, ◌≤◌, true, false, if◌then◌else◌, List, [], ◌∷◌, ◌++◌, filter, map, Contains, refl, ap}
use Rattle.assise_model_history.proofs.Common.{sym, subst, ◌∙◌, inl, inr, arith, append_assoc, append-nil, eqb-true, ◌==◌, cases_Bool, cases_eq, or_left}
use Rattle.assise_model_history.proofs.Common.{or_right, Contains-append_right, Contains-append_cases, opening_tree, AreAnswered, Call, EntryValue, calls}
use Rattle.assise_model_history.proofs.Common.{fails, IsFair, legal-nil, follows_in, not_nil, down-nil, contains, NumberedCall, exchanges, below, Moves}
use Rattle.assise_model_history.proofs.Common.{NoneFalls, StayReplicated, Runs, last, opens_client, makes_call, crashes_client, fails_node, joins_node}
use Rattle.assise_model_history.proofs.Common.{rests_all, WorldInvariant, World, first_unreplicated, calls_replicated, every_run, step_sound, run_falls}
use Rattle.assise_model_history.proofs.Common.{run_stays, EntryHappens, opening, call, crash, failure, failure_again, comeback, quiet, IsTrace, last_of}
use Rattle.assise_model_history.proofs.Common.{numbered_replicated, WasSynced, IsSafe, IsLasting, plain_call, kept_numbered, State, IsRecorded, down_from}
use Rattle.assise_model_history.proofs.Common.{begun_with}
use Rattle.std.proofs.lemmas.Bool.{eq-eqb}
use Rattle.assise_model_world.proofs.Shared.RegionAlone.{rebuilds_tree, rebuilds_run}
use Rattle.assise_model_history.proofs.Shared.FailureKeeps.{failure_recorded, failure_again_recorded, return_recorded}
use Rattle.assise_model_history.proofs.Synced.{synced_kept}
use Rattle.assise_model_history.proofs.Shared.NumberedCalls.{kept_plain}
use Rattle.assise_model_history.proofs.Shared.RecordKeeps.{untold_moves, opening_recorded, call_recorded, crash_recorded, quiet_recorded}

-- ---- one thing that happens

pub happens_moves : (s s' : State) → EntryHappens s s' → Moves s.world s'.world
happens_moves s s' (opening n u e) = opens_client n e.world
happens_moves s s' (call x e) = makes_call x e.world
happens_moves s s' (crash c e) = crashes_client c e.world
happens_moves s s' (failure n e) = fails_node n e.world
happens_moves s s' (failure_again n e) = rests_all e.world
happens_moves s s' (comeback n donor e) = joins_node n donor e.world
happens_moves s s' (quiet e) = untold_moves s.world s'.world e.world

pub happens_sound : (s s' : State) → WorldInvariant s.world → EntryHappens s s' → WorldInvariant s'.world
happens_sound s s' sound m = step_sound s.world s'.world sound (happens_moves s s' m)

-- the nodes stay
happens_nodes : (s s' : State) → EntryHappens s s' → s'.nodes ≡ s.nodes
happens_nodes s s' h = grind arith

-- the history grows
happens_grows : (s s' : State) → EntryHappens s s' → (more : List EntryValue) × (s'.history ≡ s.history ++ more)
happens_grows s s' h = grind (arith, append-nil)

pub happens_recorded : (s s' : State) → WorldInvariant s.world → IsRecorded s → EntryHappens s s' → IsRecorded s'
happens_recorded s s' sound r (opening n u e) = opening_recorded s n u s' sound r e
happens_recorded s s' sound r (call x e) = call_recorded s x s' sound r e
happens_recorded s s' sound r (crash c e) = crash_recorded s c s' sound r e
happens_recorded s s' sound r (failure n e) = failure_recorded s n s' sound r e
happens_recorded s s' sound r (failure_again n e) = failure_again_recorded s n s' sound r e
happens_recorded s s' sound r (comeback n donor e) = return_recorded s n donor s' sound r e
happens_recorded s s' sound r (quiet e) = quiet_recorded s s' sound r e

-- ---- one after another

pub trace_sound : (s : State) (ts : List State) → WorldInvariant s.world → IsTrace s ts → WorldInvariant (last_of s ts).world
trace_sound s [] sound m = sound
trace_sound s (t ∷ ts) sound m = trace_sound t ts (happens_sound s t sound m.0) m.1

pub trace_recorded : (s : State) (ts : List State) → WorldInvariant s.world → IsRecorded s → IsTrace s ts → IsRecorded (last_of s ts)
trace_recorded s [] sound r m = r
trace_recorded s (t ∷ ts) sound r m = trace_recorded t ts (happens_sound s t sound m.0) (happens_recorded s t sound r m.0) m.1

-- a trace is a run of the machine
worlds : List State → List World
worlds [] = []
worlds (t ∷ ts) = t.world ∷ worlds ts

trace_runs : (s : State) (ts : List State) → IsTrace s ts → Runs s.world (worlds ts)
unfolding worlds
trace_runs s [] m = tt
trace_runs s (t ∷ ts) m = (happens_moves s t m.0, trace_runs t ts m.1)

last_world : (s : State) (ts : List State) → last s.world (worlds ts) ≡ (last_of s ts).world
unfolding worlds
last_world s [] = refl
last_world s (t ∷ ts) = last_world t ts

trace_falls : (s : State) (ts : List State) → WorldInvariant s.world → IsTrace s ts → NoneFalls s.world (last_of s ts).world
trace_falls s ts sound m = subst (NoneFalls s.world) (last_world s ts) (run_falls s.world (worlds ts) sound (trace_runs s ts m))

trace_stays : (s : State) (ts : List State) → WorldInvariant s.world → IsTrace s ts → StayReplicated s.world (last_of s ts).world
trace_stays s ts sound m = subst (StayReplicated s.world) (last_world s ts) (run_stays s.world (worlds ts) sound (trace_runs s ts m))

trace_nodes : (s : State) (ts : List State) → IsTrace s ts → (last_of s ts).nodes ≡ s.nodes
trace_nodes s [] m = refl
trace_nodes s (t ∷ ts) m = trace_nodes t ts m.1 ∙ happens_nodes s t m.0

trace_grows : (s : State) (ts : List State) → IsTrace s ts → (more : List EntryValue) × ((last_of s ts).history ≡ s.history ++ more)
trace_grows s [] m = ([], sym (append-nil s.history))
trace_grows s (t ∷ ts) m = grind (arith, trace_grows t ts m.1, append_assoc)

-- ---- what follows of it

replicated_same : (s : State) → IsRecorded s → calls_replicated s.world ≡ numbered_replicated s
unfolding calls_replicated
replicated_same s r = ap (λ xs. filter (below (first_unreplicated s.world)) xs) r.calls

-- a call of a list that passes a test on its number
first_of : (xs : List Call) (y x : Call) → x ≡ y → Contains (x ∷ xs) y
first_of xs y x same = (0, omega arith, same)

among_low : (a : ℕ → ℕ) (xs : List NumberedCall) (y : Call) → y.number < a y.client → Contains (map plain_call xs) y →
    Contains (map plain_call (filter (below a) xs)) y
among_low a [] y low h = absurd (omega (arith, h.1))
among_low a (x ∷ xs) y low h =
    elim (Contains-append_cases (plain_call x ∷ []) (map plain_call xs) y h) [
      | inl first ↦
          grind arith
      | inr there ↦
          let rest : Contains (map plain_call (filter (below a) xs)) y = among_low a xs y low there in
          elim (below a x) as (λ b. Contains (map plain_call (if b then x ∷ filter (below a) xs else filter (below a) xs)) y) [
            | true ↦ Contains-append_right (plain_call x ∷ []) (map plain_call (filter (below a) xs)) y rest
            | false ↦ rest
          ]
    ]

synced_replicated : (s : State) (before since : List EntryValue) (y : Call) → IsRecorded s → s.history ≡ before ++ calls y ∷ since → WasSynced s.history y →
    Contains (map plain_call (numbered_replicated s)) y
synced_replicated s before since y r split f = grind (arith, among_low, kept_plain, synced_kept)

pub kept_of : (s : State) → WorldInvariant s.world → IsRecorded s → IsSafe s
kept_of s sound r = record {
  legal = r.legal;
  rebuilt = grind (arith, replicated_same, rebuilds_tree);
  run = subst (λ xs. AreAnswered opening_tree (exchanges xs)) (replicated_same s r) (rebuilds_run s.world sound);
  synced = λ before since y split f. synced_replicated s before since y r split f;
  fair = λ before later n lower higher l split.
      let fair : IsFair before n (lower ++ l ∷ higher) = follows_in s.history before later (fails n (lower ++ l ∷ higher)) r.legal split in
      (fair.each lower higher l refl).past;
}

stays_replicated : (s t : State) → IsRecorded s → IsRecorded t → StayReplicated s.world t.world →
    filter (below (first_unreplicated s.world)) (kept_numbered t.history) ≡ numbered_replicated s
unfolding StayReplicated
stays_replicated s t r q stay = ap (λ xs. filter (below (first_unreplicated s.world)) xs) (sym q.calls) ∙ stay ∙ replicated_same s r

pub trace_lasts : (s : State) (ts : List State) → WorldInvariant s.world → IsRecorded s → IsTrace s ts → IsLasting s (last_of s ts)
trace_lasts s ts sound r m = grind (arith, trace_grows, trace_nodes, stays_replicated, trace_recorded, trace_stays, trace_falls)

-- ---- the start

pub begun_sound : (nodes : ℕ) → WorldInvariant (begun_with nodes).world
begun_sound nodes = every_run (down_from nodes) [] tt

pub node_of : (k n : ℕ) → contains (down_from k) n ≡ true → (1 ≤ n) × (n ≤ k)
node_of zero n h = cc
node_of (suc k) n h =
    elim (cases_Bool (suc k == n)) [
      | inl is ↦ (let same : suc k ≡ n = eqb-true (suc k) n is in (omega (arith, same), omega (arith, same)))
      | inr other ↦ (let rest : (1 ≤ n) × (n ≤ k) = node_of k n (rw other at h) in (rest.0, omega (arith, rest.1)))
    ]

pub of_node : (k n : ℕ) → 1 ≤ n → n ≤ k → contains (down_from k) n ≡ true
of_node zero n low high = absurd (omega (arith, low, high))
of_node (suc k) n low high =
    elim (cases_eq (suc k) n) [
      | inl is ↦ or_left (suc k == n) (contains (down_from k) n) (eq-eqb (suc k) n is)
      | inr other ↦ or_right (suc k == n) (contains (down_from k) n) (of_node k n low (omega (arith, high, other)))
    ]

pub begun_recorded : (nodes : ℕ) → IsRecorded (begun_with nodes)
begun_recorded nodes = grind (arith, legal-nil, node_of, down-nil, of_node, not_nil)

pub whatever_recorded : (nodes : ℕ) (ts : List State) → IsTrace (begun_with nodes) ts → IsRecorded (last_of (begun_with nodes) ts)
whatever_recorded nodes ts m = trace_recorded (begun_with nodes) ts (begun_sound nodes) (begun_recorded nodes) m

pub whatever_sound : (nodes : ℕ) (ts : List State) → IsTrace (begun_with nodes) ts → WorldInvariant (last_of (begun_with nodes) ts).world
whatever_sound nodes ts m = trace_sound (begun_with nodes) ts (begun_sound nodes) m

pub whatever_kept : (nodes : ℕ) (ts : List State) → IsTrace (begun_with nodes) ts → IsSafe (last_of (begun_with nodes) ts)
whatever_kept nodes ts m = kept_of (last_of (begun_with nodes) ts) (whatever_sound nodes ts m) (whatever_recorded nodes ts m)
