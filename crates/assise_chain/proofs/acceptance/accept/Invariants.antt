use Rattle.assise_chain.proofs.Common.{◌≡◌, ◌++◌, map, true}
use Rattle.assise_chain.proofs.acceptance.accept.Given as goal

-- what the log had, and then what came so far
abbrev pub invariant-loop-record : goal.invariant-loop-record
invariant-loop-record l = record {
  first : l.log.first ≡ l.fn.log.first;
  limit : l.log.limit ≡ l.fn.log.limit;
  records : l.log.records ≡ l.fn.log.records ++ l.yielded;
  begins : l.log.begins ≡ l.fn.log.begins ++ map (λ r. true) l.yielded;
}
