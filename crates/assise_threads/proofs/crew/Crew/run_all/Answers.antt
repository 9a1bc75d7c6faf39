use Rattle.assise_threads.proofs.Common.{arith, ap, refl, subst, sym, take, ◌∙◌, AreSaidNext, AreClients, sights, main_keeper, main_seen}
use Rattle.assise_threads.proofs.RunOn.{goes_further, nothing_yet}
use Rattle.assise_threads.proofs.crew.Crew.run_all.Goals as goal

pub loop-done-init : goal.loop-done-init
loop-done-init g c = record {
  few = omega arith;
  turns = refl;
  at = subst (AreClients (main_keeper c.args.self.now.main) c.args.self.now.turns) (sym c.requires.no_clients) (tt, tt);
  said = nothing_yet c.args.self.now.turns (main_seen c.args.self.now.main) (main_seen c.args.self.now.main) (sights c.args.clients.now.items)
      (g.W.Write.contents c.args.writer.now) c.requires.nothing_seen refl (ap sights c.requires.no_clients);
}

pub loop-done-preserved : goal.loop-done-preserved
loop-done-preserved g c =
    let more = c.in_ok-done.ensures in
    let rest = c.split_at.ensures in
    record {
      few = omega (arith, rest.back_len, more.some.1);
      turns = more.turns ∙ c.loop-done.invariant.turns;
      at = more.at;
      said = goes_further c.args.self.now.turns (main_seen c.args.self.now.main) c.args.commands.now c.split_at.result.1.now c.loop-done.done
          c.in_ok-done.field-0 _ _ _ _ _ _ _ rest.back c.loop-done.invariant.said
          (subst (λ z. AreSaidNext z (take c.in_ok-done.field-0 c.split_at.result.1.now) (main_seen c.loop-done.self.main) (sights c.loop-done.clients.items)
          (main_seen c.run_next.new.self.main) (sights c.run_next.new.clients.items) (g.W.Write.contents c.loop-done.writer)
          (g.W.Write.contents c.run_next.new.writer)) c.loop-done.invariant.turns more.said);
    }
