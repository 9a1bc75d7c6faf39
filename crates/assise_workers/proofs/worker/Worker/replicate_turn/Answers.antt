use Rattle.assise_workers.proofs.Common.{inl, refl, sent, letters_seen, seen_at}
use Rattle.assise_workers.proofs.worker.Worker.replicate_turn.Goals as goal

pub returns-in-Ok-clause-turn : goal.returns-in-Ok-clause-turn
returns-in-Ok-clause-turn g c =
    let out = c.in-Ok.ensures.sent in
    let letters = letters_seen c.in-Ok.letters.items in
    record {
      answer = sent letters;
      mid = seen_at c.take_outgoing.new.self;
      sent = out.taken;
      went =
          inl (letters, (refl, c.send_all.ensures.turn (g.S.Replicated.reads out.taken.before) out.read));
    }
