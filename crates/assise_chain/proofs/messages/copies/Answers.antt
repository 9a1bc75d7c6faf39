use Rattle.assise_chain.proofs.Common.{List, [], ◌∷◌, take, append_assoc, LogRecord}
use Rattle.assise_chain.proofs.RecordPrefixes.{taken_first}
use Rattle.assise_chain.proofs.messages.copies.Goals as goal

pub loop-record-preserved : goal.loop-record-preserved
loop-record-preserved c =
    let had = c.loop-record.record-iterator in
    let left = c.next.new.self in
    let came : LogRecord = c.in-Some.record.now in
    let one = taken_first had.n left.n had.iter left.iter came c.in-Some.ensures.steps.1 c.in-Some.ensures.steps.0 in
    let copied : List LogRecord = c.loop-record.copied.items in
    let grouped = append_assoc copied (came ∷ []) (take left.n left.iter) in
    cc (c.in_ok-push.ensures.items, c.in_ok-copy.ensures.equal)
