use Rattle.assise_workers.proofs.Common.{rules, ◌≡◌, Extends, led_from, seen, seen_at}
use Rattle.assise_keeper.specs.Working.{pass_of}
use Rattle.assise_workers.proofs.Shared.Lists.{both_ok}
use Rattle.assise_workers.proofs.worker.Worker.take_outgoing.Goals as goal

pub returns-clause-sent : goal.returns-clause-sent
returns-clause-sent g c =
    let state = c.state.result.now in let letters = c.letters_of-letters in
    let extends : Extends (g.S.Growing.history state) (seen_at c.args.self.now) = search rules in
    let seen_now : seen (pass_of c.give.new.self) ≡ g.S.Growing.history state = search rules in
    both_ok _ _ _ letters.result
    (λ ls went read. record { taken = record { before = state; after = state; extends = extends; does = went; seen = seen_now }; read = read })
    letters.ensures.sent letters.ensures.read

pub give-requires-clause-leads : goal.give-requires-clause-leads
give-requires-clause-leads g c = led_from g.S.Growing.leads _ c.take-held.result c.state.result.now c.take-held.ensures.state
    (rw c.state.ensures.value (g.S.Growing.stays c.take-held.result))

pub give-requires-clause-works : goal.give-requires-clause-works
give-requires-clause-works g c = led_from g.S.Growing.works _ c.take-held.result c.state.result.now c.take-held.ensures.state
    (rw c.state.ensures.value (g.S.Growing.rests c.take-held.result))
