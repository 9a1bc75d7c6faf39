use Rattle.assise_mail.proofs.Common.{take, IsSameClient, client_of, seen_by, SeesAll, AnyTurns, replies_of, ops_of}
use Rattle.assise_mail.proofs.due_call.make_all.Given as goal

-- the calls so far came to what they had to
abbrev pub invariant-loop-wanted : goal.invariant-loop-wanted
invariant-loop-wanted g l = record {
  same : IsSameClient l.fn.files l.files;
  sees : SeesAll AnyTurns (client_of l.fn.files) (ops_of (take l.wanted-index l.calls)) (seen_by l.fn.files) (replies_of (take l.wanted-index l.calls))
      (seen_by l.files);
}
