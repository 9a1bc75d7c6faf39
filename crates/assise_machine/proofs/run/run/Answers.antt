use Rattle.assise_machine.proofs.Common.{◌≡◌, ◌≤◌, ◌++◌, ◌∙◌, ℕ, Contains, length, subst, sym, take, arith, take_all, observed, machine, revokers, history_of}
use Rattle.assise_machine.proofs.Common.{all_opened, answer_seen, event_seen, last_first, stocked, told}
use Rattle.assise_machine.proofs.Opened.{gets_on, opened_anew, opened_now, others_on}
use Rattle.assise_machine.proofs.Shared.Replicated.{bounds_stay, calls_stay, nodes_stay}
use Rattle.assise_machine.proofs.Shared.EventLists.{all_last, applied_on, count_on, prefix_on, left_on, served_on, told_all}
use Rattle.assise_machine.proofs.ToldEntries.{history_told}
use Rattle.assise_machine.proofs.run.run.Goals as goal

pub loop-event-preserved : goal.loop-event-preserved
loop-event-preserved g c =
    let k = length c.args.stock.now.items in
    let j = length c.loop-event.stock.items in
    let m = machine c.args.cluster.now in
    let v = machine c.loop-event.cluster in
    let u = machine c.apply_event-answer.new.cluster in
    let es = c.args.events.now in
    let bs = c.loop-event.answers.items in
    let ds = c.push_reserved.new.self.items in
    let i = c.loop-event.event-index in
    let e = c.event-item.result in
    let a = c.apply_event-answer.result in
    let before = c.loop-event.invariant in
    let step = c.apply_event-answer.ensures in
    let pushed = c.push_reserved.ensures in
    let ts = told (take i es) bs in
    let grown = opened_now k j m v u es bs ds i e a before.count c.loop-event-test.true c.event-item.is pushed.items before.stock in
    let f = revokers c.loop-event.cluster in
    let f' = revokers c.apply_event-answer.new.cluster in
    record {
      served = served_on k j m v u es bs ds i e a before.count c.loop-event-test.true c.event-item.is pushed.items before.stock before.served step.served;
      applied =
          applied_on k j m v u es bs ds i e a before.count c.loop-event-test.true c.event-item.is pushed.items before.stock
          g.C.Revokes.answers (stocked c.args.cluster.now c.args.stock.now.items) (stocked c.loop-event.cluster c.loop-event.stock.items)
          (stocked c.apply_event-answer.new.cluster c.apply_event-answer.new.stock.items)
          before.applied (assumption step);
      stock = step.stock ∙ left_on k j m v u es bs ds i e a before.count c.loop-event-test.true c.event-item.is pushed.items before.stock;
      prefix = prefix_on c.args.stock.now.items c.loop-event.stock.items c.apply_event-answer.new.stock.items before.prefix step.prefix;
      count = count_on k j m v u es bs ds i e a before.count c.loop-event-test.true c.event-item.is pushed.items before.stock;
      gets = subst (λ cs. c.args.stock.now.items ≡ c.apply_event-answer.new.stock.items ++ last_first f' cs) (sym grown)
          (gets_on f f' c.args.stock.now.items c.loop-event.stock.items c.apply_event-answer.new.stock.items (all_opened ts) (answer_seen a) before.gets
          (opened_anew k j m v u ts (event_seen e) (answer_seen a) c.args.cluster.now.sound.invariant.holds before.served step.served) step.gets step.others
          step.stock step.prefix);
      others = subst (λ cs. (d : ℕ) → (Contains cs d → ⊥) → f' d ≡ revokers c.args.cluster.now d) (sym grown)
          (others_on (revokers c.args.cluster.now) f f' (all_opened ts) (answer_seen a) before.others step.others);
      room = omega (arith, before.room, pushed.capacity);
    }

pub returns-clause-extends : goal.returns-clause-extends
returns-clause-extends g c =
    let past : length c.args.events.now ≤ c.loop-event.event-index = omega (arith, c.loop-event-test.false) in
    told_all (length c.args.stock.now.items) (machine c.args.cluster.now) (machine c.loop-event.cluster) c.args.events.now c.loop-event.answers.items
    c.loop-event.event-index past c.loop-event.invariant.served

pub returns-clause-grows : goal.returns-clause-grows
unfolding observed
returns-clause-grows g c =
    let past : length c.args.events.now ≤ c.loop-event.event-index = omega (arith, c.loop-event-test.false) in
    told_all (length c.args.stock.now.items) (machine c.args.cluster.now) (machine c.loop-event.cluster) c.args.events.now c.loop-event.answers.items
    c.loop-event.event-index past c.loop-event.invariant.served
    ∙ sym (history_told (history_of c.args.cluster.now) c.args.events.now c.loop-event.answers.items)

pub returns-clause-never_falls : goal.returns-clause-never_falls
returns-clause-never_falls g c =
    let es = told (take c.loop-event.event-index c.args.events.now) c.loop-event.answers.items in
    bounds_stay c.args.cluster.now c.loop-event.cluster
    (λ h. all_last (length c.args.stock.now.items) (machine c.args.cluster.now) (machine c.loop-event.cluster) es h c.loop-event.invariant.served)

pub returns-clause-lasting : goal.returns-clause-lasting
returns-clause-lasting g c =
    let es = told (take c.loop-event.event-index c.args.events.now) c.loop-event.answers.items in
    calls_stay c.args.cluster.now c.loop-event.cluster
    (λ h. all_last (length c.args.stock.now.items) (machine c.args.cluster.now) (machine c.loop-event.cluster) es h c.loop-event.invariant.served)

pub returns-clause-nodes : goal.returns-clause-nodes
returns-clause-nodes g c =
    let es = told (take c.loop-event.event-index c.args.events.now) c.loop-event.answers.items in
    nodes_stay c.args.cluster.now c.loop-event.cluster
    (λ h. all_last (length c.args.stock.now.items) (machine c.args.cluster.now) (machine c.loop-event.cluster) es h c.loop-event.invariant.served)

pub returns-clause-gets : goal.returns-clause-gets
returns-clause-gets g c =
    let past : length c.args.events.now ≤ c.loop-event.event-index = omega (arith, c.loop-event-test.false) in
    subst (λ es. c.args.stock.now.items ≡ c.loop-event.stock.items ++ last_first (revokers c.loop-event.cluster)
    (all_opened (told es c.loop-event.answers.items)))
    (take_all c.loop-event.event-index c.args.events.now past) c.loop-event.invariant.gets

pub returns-clause-others : goal.returns-clause-others
returns-clause-others g c =
    let past : length c.args.events.now ≤ c.loop-event.event-index = omega (arith, c.loop-event-test.false) in
    subst (λ es. (d : ℕ) → (Contains (all_opened (told es c.loop-event.answers.items)) d → ⊥) → revokers c.loop-event.cluster d ≡ revokers c.args.cluster.now d)
    (take_all c.loop-event.event-index c.args.events.now past) c.loop-event.invariant.others
