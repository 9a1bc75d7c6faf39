use Rattle.assise_digest.proofs.Common.{◌≡◌, ◌++◌, drop, linked}
use Rattle.assise_digest.proofs.spelled.push_linked.Given as goal

-- what is pending, and what the names that are left link to
abbrev pub invariant-loop-name : goal.invariant-loop-name
invariant-loop-name l = l.pending.items ++ linked l.directory (drop l.name-index l.names) ≡ l.fn.pending.items ++ linked l.directory l.names
