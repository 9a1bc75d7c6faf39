use Rattle.assise_digest.proofs.Common.{◌≡◌, ◌∙◌, ap, arith, subst, sym, nearest, without_prefix, LogInvariant}
use Rattle.assise_digest.proofs.ReceivedLogs.{sound_prefix}
use Rattle.assise_digest.proofs.received.Received.drop_front.Goals as goal

pub returns-clause-sound : goal.returns-clause-sound
returns-clause-sound c = λ m s.
    let x = c.args.self.now in
    let there : nearest x.log c.args.to ≡ c.args.to = omega (arith, c.requires.from_first, c.requires.digested, c.requires.begun.to_end) in
    let dropped = c.drop_front.ensures ∙ ap (without_prefix x.log) there in
    subst (λ l. LogInvariant m (record { log = l; digested = x.digested; pending = x.pending })) (sym dropped)
    (sound_prefix m x c.args.to s c.requires.from_first c.requires.digested)
