use Rattle.assise_libfs.proofs.Common.{rules, ◌≡◌, ◌∙◌, sym, subst, IfOk, calls_made, MayOpenClients, seen, led_from}
use Rattle.assise_libfs.proofs.Openings.{no_other_opened, none_opened}
use Rattle.assise_libfs.proofs.Shared.Tries.{none_of_opened}
use Rattle.assise_libfs.proofs.turns.open_turn.Goals as goal

pub returns-clause-no_calls : goal.returns-clause-no_calls
returns-clause-no_calls g c =
    let given : seen c.give.new.pass ≡ g.S.Growing.history c.open-opened.new.self = search rules in
    let none = none_of_opened _ _ c.args.node c.args.durability c.open-opened.result c.open-opened.ensures.opened (g.met.S.Served.legal c.open-opened.new.self)
    in
    subst (λ h. IfOk c.open-opened.result (λ client. calls_made client h ≡ 0)) (sym given) none

pub returns-clause-alone : goal.returns-clause-alone
returns-clause-alone g c =
    let given : seen c.give.new.pass ≡ g.S.Growing.history c.open-opened.new.self = search rules in
    let opened = rw c.state.ensures.value at c.open-opened.ensures.opened in
    no_other_opened (seen c.args.pass.now) (g.S.Growing.history c.take-held.result) (g.S.Growing.history c.open-opened.new.self) (seen c.give.new.pass)
    c.args.node c.args.durability c.open-opened.result c.take-held.ensures.alone opened given

pub returns-clause-no_opening : goal.returns-clause-no_opening
returns-clause-no_opening g c =
    let given : seen c.give.new.pass ≡ g.S.Growing.history c.open-opened.new.self = search rules in
    let unchanged = rw c.state.ensures.value at c.open-opened.ensures.unchanged in
    none_opened (seen c.args.pass.now) (g.S.Growing.history c.take-held.result) (g.S.Growing.history c.open-opened.new.self) (seen c.give.new.pass)
    c.open-opened.result c.take-held.ensures.alone unchanged given

pub give-requires-clause-leads : goal.give-requires-clause-leads
give-requires-clause-leads g c =
    let acts = rw c.state.ensures.value at c.open-opened.ensures.acts in
    led_from g.S.Growing.leads _ c.take-held.result c.open-opened.new.self c.take-held.ensures.state (g.met.S.Served.acts_lead _ _ _ _ acts)

pub give-requires-clause-works : goal.give-requires-clause-works
give-requires-clause-works g c = λ never. absurd (subst MayOpenClients (sym c.take-held.ensures.right ∙ never) c.requires.right)

pub returns-clause-turn : goal.returns-clause-turn
returns-clause-turn g c = record {
  before = c.take-held.result;
  after = c.open-opened.new.self;
  led = c.take-held.ensures.led;
  worked = c.take-held.ensures.worked;
  extends = c.take-held.ensures.extends;
  does = rw c.state.ensures.value at c.open-opened.ensures.acts;
  is_last = search rules;
  is_seen = search rules;
}
