use Rattle.assise_threads.proofs.Common.{rules, ◌≡◌, ◌<◌, ◌∙◌, ap, refl, MOST_NODES, is_nowhere, machine_seen, main_seen}
use Rattle.assise_workers.specs.Working.{seen_at}
use Rattle.assise_threads.proofs.MachineTurns.{carried_by, refused_by}
use Rattle.assise_threads.proofs.main_thread.MainThreadOf.carry.Goals as goal

pub returns-in_default-clause-carries : goal.returns-in_default-clause-carries
returns-in_default-clause-carries g c = let far : MOST_NODES < c.args.node = search rules in is_nowhere refl far refl

pub returns-in-Did-clause-carries : goal.returns-in-Did-clause-carries
returns-in-Did-clause-carries g c =
    let same : c.in-Ok.node ≡ c.args.node = search rules in
    carried_by _ _ refl c.in-Ok.node c.args.node c.in-Did.count _ (main_seen c.args.self.now) _ (seen_at c.new-worker.result)
    (seen_at c.replicate_turn.new.self) same c.in-Did.is (c.new-worker.ensures.seen ∙ c.args.self.now.known) (ap machine_seen c.new-worker.ensures.last)
    c.replicate_turn.ensures.turn

pub returns-in-Refused-clause-carries : goal.returns-in-Refused-clause-carries
returns-in-Refused-clause-carries g c =
    let same : c.in-Ok.node ≡ c.args.node = search rules in
    refused_by _ _ refl c.in-Ok.node c.args.node c.in-Refused.refusal _ (main_seen c.args.self.now) _ (seen_at c.new-worker.result)
    (seen_at c.replicate_turn.new.self) same c.in-Refused.is (c.new-worker.ensures.seen ∙ c.args.self.now.known) (ap machine_seen c.new-worker.ensures.last)
    c.replicate_turn.ensures.turn
