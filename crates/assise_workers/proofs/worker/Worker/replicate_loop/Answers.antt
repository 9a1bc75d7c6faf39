use Rattle.assise_workers.proofs.Common.{◌≡◌, ◌∙◌, ◌∷◌, subst, perfect, Replicates, seen_at}
use Rattle.assise_workers.proofs.Shared.Lists.{extends-on}
use Rattle.assise_workers.proofs.worker.Worker.replicate_loop.Goals as goal

pub returns-then-not-rest-clause-turns : goal.returns-then-not-rest-clause-turns
returns-then-not-rest-clause-turns g c = let before = c.loop.invariant in let turn = c.replicate_turn-end in (
  turn.result ∷ before.turns.0,
  (
    seen_at c.loop.self,
    (
      before.turns.1,
      subst (λ kind. Replicates g.S.Growing.history g.S.Replicated.acts (kind ≡ perfect) g.S.Replicated.reads c.args.node turn.result (seen_at c.loop.self)
          (seen_at turn.new.self)) before.stays turn.ensures.turn,
    ),
  ),
)

pub loop-preserved : goal.loop-preserved
loop-preserved g c = let before = c.loop.invariant in let turn = c.replicate_turn-end in let now = turn.ensures in
    record {
      goes = record {
        keeper = now.goes_on.keeper ∙ before.goes.keeper;
        seen = extends-on (seen_at turn.new.self) (seen_at c.loop.self)
            (seen_at c.args.self.now) now.goes_on.seen before.goes.seen;
      };
      stays = now.stays ∙ before.stays;
      turns = (
        turn.result ∷ before.turns.0,
        (
          seen_at c.loop.self,
          (
            before.turns.1,
            subst (λ kind. Replicates g.S.Growing.history g.S.Replicated.acts (kind ≡ perfect) g.S.Replicated.reads c.args.node turn.result
                (seen_at c.loop.self)
                (seen_at turn.new.self)) before.stays now.turn,
          ),
        ),
      );
    }
