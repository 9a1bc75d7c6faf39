use Rattle.assise_digest.proofs.Common.{◌≡◌, ◌++◌, suc, ◌∷◌, take, ap, sym, ◌∙◌, append_assoc, arith, LogRecord, all_effects}
use Rattle.assise_digest.proofs.received.Received.effects_ahead.Goals as goal

pub loop-record-preserved : goal.loop-record-preserved
loop-record-preserved c =
    let had = c.loop-record.record-iterator in
    let left = c.next.new.self in
    let came : LogRecord = c.in-Some.record.now in
    let fewer : had.n ≡ suc left.n = omega (arith, c.in-Some.ensures.steps.1) in
    let one : take had.n had.iter ≡ came ∷ take left.n left.iter = ap (λ k. take k had.iter) fewer ∙ ap (take (suc left.n)) c.in-Some.ensures.steps.0 in
    ap (λ es. es ++ all_effects (take left.n left.iter))
    (c.in_ok-push_copies.ensures.ok ∙ ap (λ es. c.loop-record.effects.items ++ es) c.effects.ensures.effects)
    ∙ append_assoc c.loop-record.effects.items came.effects (all_effects (take left.n left.iter))
    ∙ ap (λ rs. c.loop-record.effects.items ++ all_effects rs) (sym one)
    ∙ c.loop-record.invariant
