use Rattle.assise_threads.proofs.Common.{◌<◌, ◌≤◌, length, untold}
use Rattle.assise_threads.proofs.CallLines.{calls_left, line_said, none_said, stretch_said}
use Rattle.assise_threads.proofs.stretch.write_calls.Goals as goal

pub loop-line-init : goal.loop-line-init
loop-line-init g c = record {
  calls = c.requires.calls;
  said = λ turns seen. none_said turns c.args.stretch.now seen (untold c.args.outcomes.now) (g.W.Write.contents c.args.writer.now) c.requires.all;
}

pub write_call-requires : goal.write_call-requires
write_call-requires g c =
    let within : c.loop-line.line-index < length c.args.stretch.now = c.loop-line-test.true in
    (calls_left c.args.stretch.now c.loop-line.line-index c.line-item.result within c.line-item.is c.loop-line.invariant.calls).0

pub loop-line-preserved : goal.loop-line-preserved
loop-line-preserved g c =
    let before = c.loop-line.invariant in
    let stretch = c.args.stretch.now in
    let line = c.line-item.result in
    let within : c.loop-line.line-index < length stretch = c.loop-line-test.true in
    let calls = calls_left stretch c.loop-line.line-index line within c.line-item.is before.calls in
    record {
      calls = calls.1;
      said = λ turns seen. line_said stretch c.loop-line.line-index line within c.line-item.is turns seen _ _ _ _ _ _ (before.said turns seen) calls.0
          c.in_ok-write_call.ensures.said;
    }

pub returns-clause-said : goal.returns-clause-said
returns-clause-said g c =
    let done : length c.args.stretch.now ≤ c.loop-line.line-index = c.loop-line-test.false in
    λ turns seen. stretch_said turns c.args.stretch.now c.loop-line.line-index seen _ _ _ _ done (c.loop-line.invariant.said turns seen)
