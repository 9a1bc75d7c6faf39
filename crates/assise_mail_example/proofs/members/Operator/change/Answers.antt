use Rattle.assise_mail_example.proofs.Common.{rules, ◌≡◌, ◌∙◌, sym}
use Rattle.assise_keeper.proofs.Shared.LedStates.{led_from}
use Rattle.assise_keeper.specs.declared.view.Opens.TheVariants.{AmongOthers, Never}
use Rattle.assise_keeper.specs.Passes.{taken}
use Rattle.assise_mail_example.proofs.Changes.{may_give}
use Rattle.assise_mail_example.proofs.members.Operator.change.Goals as goal

pub give-requires-clause-grows : goal.give-requires-clause-grows
give-requires-clause-grows g c =
    let is : taken c.take-held.new.pass ≡ g.S.Growing.history c.state.result.now = search rules in
    may_give _ _ _ _ _ is c.change-changed.ensures.gives

pub give-requires-clause-leads : goal.give-requires-clause-leads
give-requires-clause-leads g c =
    let leads = rw c.state.ensures.value at c.change-changed.ensures.leads in
    led_from g.S.Growing.leads _ c.take-held.result c.change-changed.new.self c.take-held.ensures.state leads

pub give-requires-clause-works : goal.give-requires-clause-works
give-requires-clause-works g c = λ never. absurd (let x : AmongOthers ≡ Never = sym (c.take-held.ensures.right ∙ c.args.self.now.right) ∙ never in cc)
