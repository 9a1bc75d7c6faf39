use Rattle.assise_machine_failures.proofs.Common.{◌≡◌, length, ◌∙◌, arith, value_of}
use Rattle.assise_machine_failures.proofs.FailedFull.{lose_all, lose_next}
use Rattle.assise_machine_failures.proofs.LostCopies.{next_returning, some_shaped}
use Rattle.assise_machine_failures.proofs.fail.drop_filled.Goals as goal

pub drop_copies-requires-clause-returning : goal.drop_copies-requires-clause-returning
drop_copies-requires-clause-returning g c =
    next_returning (value_of c.args.state.now) (value_of c.loop-node.state) c.args.filled.now c.loop-node.node-index c.requires.shape c.requires.returning
    c.loop-node.invariant.copies c.loop-node.node-index
    c.loop-node-test.true

pub drop_copies-requires-clause-shape : goal.drop_copies-requires-clause-shape
drop_copies-requires-clause-shape g c =
    some_shaped (value_of c.args.state.now) (value_of c.loop-node.state) c.args.filled.now c.loop-node.node-index c.requires.shape c.requires.returning
    c.loop-node.invariant.copies

pub loop-node-preserved : goal.loop-node-preserved
loop-node-preserved g c = record {
  copies =
      lose_next (value_of c.args.state.now) (value_of c.loop-node.state) (value_of c.drop_copies.new.state) c.args.filled.now c.loop-node.node-index
      c.loop-node-test.true
      c.loop-node.invariant.copies c.drop_copies.ensures.copies;
  leases = c.drop_copies.ensures.leases ∙ c.loop-node.invariant.leases;
}

pub returns-clause-copies : goal.returns-clause-copies
returns-clause-copies g c =
    let all : c.loop-node.node-index ≡ length c.args.filled.now = omega (arith, c.loop-node-test.false, c.loop-node.auto) in
    lose_all (value_of c.args.state.now) (value_of c.loop-node.state) c.args.filled.now c.loop-node.node-index all c.loop-node.invariant.copies
