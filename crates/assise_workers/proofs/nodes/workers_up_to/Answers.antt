use Rattle.assise_workers.proofs.Common.{rules, ◌≡◌, ◌∙◌, ◌+◌, ◌-◌, map, arith, subst, node_at, nodes_up_to}
use Rattle.assise_workers.proofs.NodesInOrder.{one_more}
use Rattle.assise_workers.proofs.nodes.workers_up_to.Goals as goal
use Rattle.assise_workers.proofs.nodes.workers_up_to.Goals.{else-loop-node-test, then-loop-node-test+in_ok-push+else-node-last}

pub loop-node-preserved : goal.loop-node-preserved
loop-node-preserved g c =
    let before = c.loop-node.invariant in
    let n = c.loop-node.node in
    let next : n ≡ n + 1 - 1 = omega arith in
    record {
      free = c.new.ensures.free;
      same = (c.new.ensures.same.0 ∙ before.same.0, c.new.ensures.same.1 ∙ before.same.1);
      right = c.new.ensures.right ∙ before.right;
      kept = c.new.ensures.last ∙ before.kept;
      made = subst (λ z. map node_at c.push.new.self.items ≡ nodes_up_to z) next
          (one_more c.loop-node.nodes.items c.push.new.self.items c.new.result n c.loop-node.auto.node c.in_ok-push.ensures.items c.new.ensures.node
          before.made);
      low = omega (arith, c.loop-node-test.true);
    }

pub returns-clause-nodes : goal.returns-clause-nodes
returns-clause-nodes g c = elim c.loop-node-test.branch [
  | else-loop-node-test w ↦
      let last : c.loop-node.node - 1 ≡ c.args.last = omega (arith, w.loop-node-test.false, c.loop-node.invariant.low, c.loop-node.auto.node) in
      rw w.nodes-is (subst (λ z. map node_at c.loop-node.nodes.items ≡ nodes_up_to z) last c.loop-node.invariant.made)
  | then-loop-node-test+in_ok-push+else-node-last w ↦
      let last : c.loop-node.node ≡ c.args.last = search rules in
      rw w.nodes-is (subst (λ z. map node_at w.push.new.self.items ≡ nodes_up_to z) last
      (one_more c.loop-node.nodes.items w.push.new.self.items w.new.result c.loop-node.node c.loop-node.auto.node w.in_ok-push.ensures.items
      w.new.ensures.node c.loop-node.invariant.made))
]
