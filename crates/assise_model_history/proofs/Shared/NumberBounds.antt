-- How high numbers of calls and records can be.
use Rattle.assise_model_history.proofs.Common.{ℕ, ◌≤◌, arith, length, is_call_of, WorldInvariant, end_of_log, State, IsRecorded}
use Rattle.std.proofs.lemmas.List.Sums.{length-filter, count_by-le-length}

pub calls_below : (s : State) (c : ℕ) → IsRecorded s → s.world.next c ≤ length s.history
calls_below s c r = omega (arith, r.next c, length-filter (is_call_of c) s.history, count_by-le-length (is_call_of c) s.history)

pub records_below : (s : State) (c : ℕ) → WorldInvariant s.world → IsRecorded s → end_of_log s.world c ≤ length s.history
records_below s c sound r = omega (arith, sound.few_records c, calls_below s c r)
