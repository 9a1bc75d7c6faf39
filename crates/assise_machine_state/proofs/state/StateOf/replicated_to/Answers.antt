use Rattle.assise_machine_state.proofs.Common.{◌≡◌, [], ◌∷◌, ap, sym, ◌∙◌, call_of, records_from, client_in, value_of}
use Rattle.assise_machine_state.proofs.Unreplicated.{first_behind}
use Rattle.assise_machine_state.proofs.state.StateOf.replicated_to.Goals as goal

pub returns-in-Some : goal.returns-in-Some
returns-in-Some g c =
    let s = value_of c.args.self.now in
    let rest : records_from c.own_log-log.result.now c.acked.result ≡ c.in-Some.record.now ∷ c.next.new.self =
    sym c.since.ensures.rest ∙ c.in-Some.ensures.steps in
    c.call.ensures
    ∙ ap (λ rs. call_of rs 0 (client_in s.clients c.args.client).next) (sym rest)
    ∙ first_behind s c.args.client c.requires.shape c.requires.client c.args.self.now.members.lawful.some_full c.own_log-log.result.now
    c.own_log-log.ensures.log c.acked.result c.acked.ensures

pub returns-in-None : goal.returns-in-None
returns-in-None g c =
    let s = value_of c.args.self.now in
    let rest : records_from c.own_log-log.result.now c.acked.result ≡ [] = sym c.since.ensures.rest ∙ c.in-None.ensures.steps.0 in
    c.next-in-None.ensures
    ∙ ap (λ x. x.next) c.get.ensures
    ∙ ap (λ rs. call_of rs 0 (client_in s.clients c.args.client).next) (sym rest)
    ∙ first_behind s c.args.client c.requires.shape c.requires.client c.args.self.now.members.lawful.some_full c.own_log-log.result.now
    c.own_log-log.ensures.log c.acked.result c.acked.ensures
