use Rattle.assise_workers.proofs.Common.{◌∙◌, ◌∷◌, seen_at}
use Rattle.assise_workers.proofs.Shared.Lists.{extends-on}
use Rattle.assise_workers.proofs.worker.Worker.digest_loop.Goals as goal

pub returns-then-not-rest-clause-turns : goal.returns-then-not-rest-clause-turns
returns-then-not-rest-clause-turns g c =
    let turns = c.loop.invariant.turns in (c.digest_turn-end.result ∷ turns.0, (seen_at c.loop.self, (turns.1, c.digest_turn-end.ensures.turn)))

pub loop-preserved : goal.loop-preserved
loop-preserved g c = let before = c.loop.invariant in let now = c.digest_turn-end.ensures in
    record {
      goes = record {
        keeper = now.goes_on.keeper ∙ before.goes.keeper;
        seen = extends-on (seen_at c.digest_turn-end.new.self) (seen_at c.loop.self)
            (seen_at c.args.self.now) now.goes_on.seen before.goes.seen;
      };
      turns = (c.digest_turn-end.result ∷ before.turns.0, (seen_at c.loop.self, (before.turns.1, now.turn)));
    }
