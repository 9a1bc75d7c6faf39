use Rattle.assise_digest.proofs.Common.{subst, sym, LogInvariant}
use Rattle.assise_digest.proofs.ReceivedLogs.{sound_tail}
use Rattle.assise_digest.proofs.received.Received.cut_tail.Goals as goal

pub returns-clause-sound : goal.returns-clause-sound
returns-clause-sound c = λ m s.
    let x = c.args.self.now in
    subst (λ l. LogInvariant m (record { log = l; digested = x.digested; pending = x.pending })) (sym c.cut_tail.ensures)
    (sound_tail m x c.args.from s c.requires.elsewhere c.requires.digested)
