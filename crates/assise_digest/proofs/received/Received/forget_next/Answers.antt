use Rattle.assise_digest.proofs.Common.{◌≡◌, Some, option_map, ◌∙◌, ap, sym, forgotten, first_effects, next_effects, seen_log}
use Rattle.assise_digest.proofs.ReceivedLogs.{ahead_next}
use Rattle.assise_digest.proofs.received.Received.forget_next.Goals as goal

pub returns-in-Some-pending-clause-pending : goal.returns-in-Some-pending-clause-pending
returns-in-Some-pending-clause-pending c =
    let x = c.args.self.now in
    let next : next_effects (seen_log x) ≡ c.in-Some.next.now.effects =
    ap first_effects (ahead_next (seen_log x) c.in-Some.next.now c.requires.begun c.in-Some.ensures) in
    ap Some (c.forget.ensures ∙ ap (forgotten c.in-Some-pending.pending x.digested) (c.effects.ensures.effects ∙ sym next))
    ∙ sym (ap (option_map (λ p. forgotten p x.digested (next_effects (seen_log x)))) c.in-Some-pending.is)
