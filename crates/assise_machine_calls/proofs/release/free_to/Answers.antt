use Rattle.assise_machine_calls.proofs.Common.{◌≡◌, ◌+◌, ◌-◌, refl, subst, ◌∙◌, arith, value_of, FreesAmong}
use Rattle.assise_machine_calls.proofs.NodeFreed.{freed_next, none_freed}
use Rattle.assise_machine_calls.proofs.release.free_to.Goals as goal

pub loop-node-init : goal.loop-node-init
loop-node-init g c = record {
  frees = none_freed (value_of c.args.state.now) 0 refl;
  shape = c.requires.shape;
  noted = c.requires.noted;
  revokers = λ d. refl;
  low = omega arith;
}

pub loop-node-preserved : goal.loop-node-preserved
loop-node-preserved g c =
    let next : c.loop-node.node ≡ c.loop-node.node + 1 - 1 = omega arith in
    record {
      frees =
          subst (λ m. FreesAmong (value_of c.args.state.now) 1 m (value_of c.free.new.state)) next
          (freed_next (value_of c.args.state.now) (value_of c.loop-node.state) (value_of c.free.new.state) c.loop-node.node c.loop-node.auto.node
          c.loop-node.invariant.frees c.free.ensures.frees);
      shape = c.free.ensures.shape;
      noted = c.free.ensures.noted;
      revokers = λ d. c.free.ensures.revokers d ∙ c.loop-node.invariant.revokers d;
      low = omega (arith, c.loop-node-test.true);
    }

pub returns-2-clause-frees : goal.returns-2-clause-frees
returns-2-clause-frees g c =
    let last : c.loop-node.node ≡ c.args.last = omega (arith, c.loop-node-test.true) in
    subst (λ m. FreesAmong (value_of c.args.state.now) 1 m (value_of c.free.new.state)) last
    (freed_next (value_of c.args.state.now) (value_of c.loop-node.state) (value_of c.free.new.state) c.loop-node.node c.loop-node.auto.node
    c.loop-node.invariant.frees c.free.ensures.frees)
