use Rattle.assise_history.proofs.Common.{◌≡◌, map, take, opening, IsRun, tree_after}
use Rattle.assise_history.proofs.replay.replay.Given as goal

abbrev pub invariant-loop-call : goal.invariant-loop-call
invariant-loop-call l = record {
  run : IsRun opening (map (λ x. x.now) (take l.call-index l.calls));
  is : l.tree ≡ tree_after opening (map (λ x. x.now) (take l.call-index l.calls));
}
