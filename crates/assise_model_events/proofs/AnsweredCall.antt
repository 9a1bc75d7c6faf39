-- A call is answered: the step that its entry tells of, and the length of its client's log.
use Rattle.assise_model_events.proofs.Common.{◌≡◌, ℕ, ◌+◌, ◌<◌, ◌≤◌, true, [], ◌∷◌, ◌++◌, length, ap, arith, length-append, cases_eq, calls, syncs, has_some}
use Rattle.assise_model_events.proofs.Common.{NumberedCall, MakesCall, World, end_of_log, received_by_all, step_at_home, EntryHappens, call, plain_call}
use Rattle.assise_model_events.proofs.Common.{call_entry, Machine, MachineInvariant, Adds, state_of}
use Rattle.assise_model_events.proofs.Shared.EventTraces.{with_world}

-- the entry has the number that the client's next call has
entry_of : (m m' : Machine) (x : NumberedCall) → MachineInvariant m → x.number ≡ m.world.next x.client → Adds m (call_entry m.history x.client x.op x.reply) m'
    →
    m'.history ≡ m.history ++ calls (plain_call x) ∷ []
entry_of m m' x h number adds = grind (arith, calls)

-- the call is made in a world that the machine came to
pub call_happens : (m m' : Machine) (w : World) (x : NumberedCall) → MachineInvariant m → x.number ≡ m.world.next x.client → MakesCall w x m'.world →
    (syncs m.history (plain_call x) ≡ true → received_by_all w x.client ≡ end_of_log w x.client) → Adds m (call_entry m.history x.client x.op x.reply) m' →
    m'.members ≡ m.members →
    EntryHappens (with_world m w) (state_of m')
call_happens m m' w x h number e replicated adds members =
    call x (record { adds = record { nodes = ap (λ o. length o.nodes) members; entry = entry_of m m' x h number adds }; world = e; replicated = replicated })

-- ---- the client's log

pub logs_answered : (m m' : Machine) (w : World) (x : NumberedCall) → MachineInvariant m → ((c : ℕ) → w.records c ≡ m.world.records c) →
    MakesCall w x m'.world →
    (has_some (step_at_home w x).effects ≡ true → length (m.world.records x.client) < m.limit) → m'.limit ≡ m.limit →
    (c : ℕ) → length (m'.world.records c) ≤ m'.limit
logs_answered m m' w x h same e room limit c = grind (arith, cases_eq, length-append)
