use Rattle.assise_threads.proofs.Common.{subst, sym, AreAt, HaveTurns}
use Rattle.assise_threads.proofs.crew.Crew.run_calls.Goals as goal

pub returns-clause-at : goal.returns-clause-at
returns-clause-at g c =
    let turns = c.args.self.now.turns in
    let after = c.in_ok-clients.field-0.items in (
      subst (λ k. AreAt k after) (sym c.serve.ensures.keeper) c.in_ok-clients.ensures.at,
      c.in_ok-clients.ensures.turns turns (subst (λ v. HaveTurns turns v.items) (sym c.replace-before.ensures.value) c.requires.at.1),
    )
