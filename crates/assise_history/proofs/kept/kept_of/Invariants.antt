use Rattle.assise_history.proofs.Common.{◌≡◌, map, take, kept}
use Rattle.assise_history.proofs.kept.kept_of.Given as goal

abbrev pub invariant-loop-entry : goal.invariant-loop-entry
invariant-loop-entry l = map (λ call. call.now) l.calls.items ≡ kept (take l.entry-index l.entries)
