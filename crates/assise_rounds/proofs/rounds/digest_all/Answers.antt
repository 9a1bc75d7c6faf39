use Rattle.assise_rounds.proofs.Common.{◌≡◌, ◌-◌, [], refl, sym, subst, ◌∙◌, arith, ◌≤◌, ℕ, false, is_none, MOST_NODES, node_fault, machine, Told, EachFull}
use Rattle.assise_rounds.proofs.Common.{DigestsOnce, WithWork}
use Rattle.assise_rounds.proofs.LastNode.{none_there}
use Rattle.assise_rounds.proofs.RoundSteps.{faulty_next, full_next, none_behind}
use Rattle.assise_rounds.proofs.rounds.digest_all.Goals as goal
use Rattle.assise_rounds.proofs.rounds.digest_all.Goals.{else-full, then-full}

pub loop-node-init : goal.loop-node-init
loop-node-init g c = ([], record { does = record { told = refl; stays = refl }; work = refl })

pub loop-node-preserved : goal.loop-node-preserved
loop-node-preserved g c =
    let m = machine c.args.cluster.now in
    let v = machine c.loop-node.cluster in
    let k = c.loop-node.node in
    elim c.if-full.branch [
      | then-full w ↦
          let u = machine w.digest-busy.new.cluster in
          let full = sym c.in-Some.ensures.full ∙ w.if-full.true in
          rw w.cluster-is (rw w.busy-is
          (full_next DigestsOnce k m v u c.loop-node.busy w.digest-busy.result c.loop-node.auto.node full c.loop-node.invariant w.digest-busy.ensures))
      | else-full w ↦
          let faulty = sym c.in-Some.ensures.full ∙ w.if-full.false in
          rw w.cluster-is (rw w.busy-is (faulty_next DigestsOnce k m v c.loop-node.busy c.loop-node.auto.node faulty c.loop-node.invariant))
    ]

pub returns-in_default : goal.returns-in_default
returns-in_default g c =
    let v = machine c.loop-node.cluster in
    let k = c.loop-node.node in
    let some = c.loop-node.auto.node in
    let none : (j : ℕ) → k ≤ j → is_none (node_fault v j) ≡ false = λ j far. none_there v k j some c.in_default.ensures.none far in
    none_behind DigestsOnce k MOST_NODES (machine c.args.cluster.now) v c.loop-node.busy some (omega (arith, c.loop-node.auto.node-end)) none
    c.loop-node.invariant

pub returns : goal.returns
returns g c =
    let last : c.loop-node.node - 1 ≡ MOST_NODES = omega (arith, c.loop-node-test.false, c.loop-node.auto.node-end) in
    subst (λ n. (es : Told) × WithWork (EachFull DigestsOnce n) c.loop-node.busy (machine c.args.cluster.now) es (machine c.loop-node.cluster)) last
    c.loop-node.invariant
