use Rattle.assise_machine.proofs.Common.{◌∙◌, refl, sym, value_of}
use Rattle.assise_model_events.specs.NodeEvents.SettingHot.{is_refused}
use Rattle.assise_machine.proofs.HotSet.{hot_keeps, node_there, set_now}
use Rattle.assise_machine.proofs.hot.set_hot.Goals as goal

pub returns-in-Some-clause-happens : goal.returns-in-Some-clause-happens
returns-in-Some-clause-happens g c = is_refused c.in-Some.refusal (sym c.node_refusal.ensures ∙ c.in-Some.is) refl refl

pub set_hot_capacity-requires-clause-node : goal.set_hot_capacity-requires-clause-node
set_hot_capacity-requires-clause-node g c =
    node_there (value_of c.args.sound.now.state) c.args.node c.args.capacity c.args.sound.now.invariant.shape (sym c.node_refusal.ensures ∙ c.in_default.is)

pub invariant_of-sound-2 : goal.invariant_of-sound-2
invariant_of-sound-2 g c =
    let kept =
    hot_keeps (value_of c.args.sound.now.state) c.args.node c.args.capacity c.args.sound.now.invariant.shape (sym c.node_refusal.ensures ∙ c.in_default.is)
    c.args.sound.now.invariant.holds c.args.sound.now.invariant.noted c.set_hot_capacity.result c.set_hot_capacity.new.self
    c.set_hot_capacity.ensures.ok c.set_hot_capacity.ensures.err in
    record { invariant = record { holds = kept.holds; shape = kept.shape; noted = kept.noted } }

pub returns-clause-happens : goal.returns-clause-happens
returns-clause-happens g c =
    set_now (value_of c.args.sound.now.state) c.args.node c.args.capacity c.args.sound.now.invariant.shape (sym c.node_refusal.ensures ∙ c.in_default.is)
    c.set_hot_capacity.new.self c.in_ok-set_hot_capacity.ensures.ok
