use Rattle.assise_threads.proofs.Common.{◌≡◌, None, take, outcomes_of, untold}
use Rattle.assise_threads.proofs.outcomes.next_outcome.Given as goal

-- none so far is the client's
abbrev pub invariant-loop-one : goal.invariant-loop-one
invariant-loop-one l = record {
  same : l.outcomes ≡ l.initial.outcomes;
  before : outcomes_of l.client (untold (take l.one-index l.outcomes)) ≡ None;
}
