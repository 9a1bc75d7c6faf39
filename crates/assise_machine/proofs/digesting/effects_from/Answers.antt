use Rattle.assise_machine.proofs.Common.{◌≡◌, ◌+◌, ◌≤◌, length, take, ap, ◌∙◌, arith, LogRecord, all_effects}
use Rattle.std.proofs.lemmas.List.{length-append}
use Rattle.assise_machine_state.proofs.Shared.TouchedFrom.{taken_first}
use Rattle.assise_machine.proofs.digesting.effects_from.Goals as goal

pub loop-record-preserved : goal.loop-record-preserved
loop-record-preserved c =
    let had = c.loop-record.record-iterator in
    let left = c.next.new.self in
    let came : LogRecord = c.in-Some.record.now in
    let one = taken_first had.n left.n had.iter left.iter came c.in-Some.ensures.steps.1 c.in-Some.ensures.steps.0 in
    let both : length (all_effects (take had.n had.iter)) ≡ length came.effects + length (all_effects (take left.n left.iter)) =
    ap (λ rs. length (all_effects rs)) one ∙ length-append came.effects (all_effects (take left.n left.iter)) in
    let same = ap length c.effects.ensures.effects in
    let few : length came.effects ≤ 4 = c.effects.ensures.few in
    let next = c.in-Some.ensures.steps.1 in
    let was = c.loop-record.invariant.0 in
    let low = c.loop-record.invariant.1 in
    (omega (arith, both, same, was), omega (arith, same, few, next, low))
