use Rattle.assise_rounds.proofs.Common.{map, ◌≡◌, ◌-◌, [], refl, sym, subst, ◌∙◌, arith, ◌≤◌, ℕ, false, is_none, MOST_NODES, node_fault, machine, Told}
use Rattle.assise_rounds.proofs.Common.{FaithfulAt, EachFull, TakesTurn, WithWork}
use Rattle.assise_rounds.proofs.Faithful.{turn_over}
use Rattle.assise_rounds.proofs.Shared.NodeLinks.{at_node, set_same, still}
use Rattle.assise_rounds.proofs.LastNode.{none_there}
use Rattle.assise_rounds.proofs.RoundSteps.{faulty_next, full_next, none_behind}
use Rattle.assise_rounds.proofs.rounds.replicate_all.Goals as goal
use Rattle.assise_rounds.proofs.rounds.replicate_all.Goals.{else-full, then-full}

pub loop-node-init : goal.loop-node-init
loop-node-init g c = record { each = ([], record { does = record { told = refl; stays = refl }; work = refl }); stay = refl }

pub loop-node-preserved : goal.loop-node-preserved
loop-node-preserved g c =
    let F = g.L.Link.kind in
    let links = c.loop-node.links in
    let m = machine c.args.cluster.now in
    let v = machine c.loop-node.cluster in
    let k = c.loop-node.node in
    let before = c.loop-node.invariant in
    elim c.if-full.branch [
      | then-full w ↦
          let u = machine w.take_turn-busy.new.cluster in
          let full = sym c.in-Some.ensures.full ∙ w.if-full.true in
          let link = w.index-links-node.result in
          let turn = turn_over (FaithfulAt (map F c.args.links.now) k) _ (λ faithful. at_node F links k link (still _ _ k before.stay faithful)) k
          w.take_turn-busy.result v u w.take_turn-busy.ensures.turn in
          rw w.cluster-is (rw w.busy-is (rw w.links-is (record {
            each = full_next (λ n. TakesTurn (FaithfulAt (map F c.args.links.now) n) n) k m v u c.loop-node.busy w.take_turn-busy.result c.loop-node.auto.node
                full before.each turn;
            stay = set_same F links (k - 1) link w.take_turn-busy.new.link w.take_turn-busy.ensures.stays ∙ before.stay;
          })))
      | else-full w ↦
          let faulty = sym c.in-Some.ensures.full ∙ w.if-full.false in
          rw w.cluster-is (rw w.busy-is (rw w.links-is (record {
            each = faulty_next (λ n. TakesTurn (FaithfulAt (map F c.args.links.now) n) n) k m v c.loop-node.busy c.loop-node.auto.node faulty before.each;
            stay = before.stay;
          })))
    ]

pub returns-in_default-clause-each : goal.returns-in_default-clause-each
returns-in_default-clause-each g c =
    let v = machine c.loop-node.cluster in
    let k = c.loop-node.node in
    let some = c.loop-node.auto.node in
    let none : (j : ℕ) → k ≤ j → is_none (node_fault v j) ≡ false = λ j far. none_there v k j some c.in_default.ensures.none far in
    none_behind (λ n. TakesTurn (FaithfulAt (map g.L.Link.kind c.args.links.now) n) n) k MOST_NODES (machine c.args.cluster.now) v c.loop-node.busy some
    (omega (arith, c.loop-node.auto.node-end)) none c.loop-node.invariant.each

pub returns-clause-each : goal.returns-clause-each
returns-clause-each g c =
    let last : c.loop-node.node - 1 ≡ MOST_NODES = omega (arith, c.loop-node-test.false, c.loop-node.auto.node-end) in
    subst (λ n. (es : Told) × WithWork (EachFull (λ k. TakesTurn (FaithfulAt (map g.L.Link.kind c.args.links.now) k) k) n) c.loop-node.busy
    (machine c.args.cluster.now) es (machine c.loop-node.cluster)) last c.loop-node.invariant.each
