use Rattle.assise_digest.proofs.Common.{◌≡◌, ◌+◌, ◌-◌, ◌<◌, ◌≤◌, true, is_border, digested_by, log_of}
use Rattle.assise_digest.proofs.region.Region.digest_some.Given as goal

-- whole groups were digested
abbrev pub invariant-loop-count : goal.invariant-loop-count
invariant-loop-count l = record {
  digested : l.self ≡ digested_by l.fn.self l.client l.count;
  within : l.count ≤ l.most;
  groups : 0 < l.count → is_border (log_of l.fn.self l.client).log ((log_of l.fn.self l.client).digested + l.count) ≡ true;
}

abbrev pub decreases-loop-count : goal.decreases-loop-count
decreases-loop-count l = l.most - l.count
