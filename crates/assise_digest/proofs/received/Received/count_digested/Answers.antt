use Rattle.assise_digest.proofs.Common.{◌+◌, ◌∙◌, ap, sym, subst, all_applied, next_effects, LogInvariant, seen_log}
use Rattle.assise_digest.proofs.ReceivedLogs.{sound_counted_next}
use Rattle.assise_digest.proofs.received.Received.count_digested.Goals as goal

pub returns-clause-sound : goal.returns-clause-sound
returns-clause-sound c = λ m s.
    let x = c.args.self.now in
    let n = c.forget_next.new.self in
    let log = c.forget_next.ensures.log in
    subst (LogInvariant (all_applied m (next_effects (seen_log x))))
    (sym (ap (λ l. record { log = l; digested = n.digested + 1; pending = n.pending }) c.forget_next.ensures.log
    ∙ ap (λ d. record { log = x.log; digested = d + 1; pending = n.pending }) c.forget_next.ensures.digested
    ∙ ap (λ p. record { log = x.log; digested = x.digested + 1; pending = p }) c.forget_next.ensures.pending))
    (sound_counted_next m x s c.requires.more)
