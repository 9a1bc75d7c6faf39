use Rattle.assise_digest.proofs.Common.{◌≡◌, ◌&&◌, ℕ, not, is_some}
use Rattle.std.specs.FinMap as map
use Rattle.assise_digest.proofs.MovedInodes.{found_or_left}
use Rattle.assise_digest.proofs.numbers.Numbers.beyond.Given as goal

-- those that were found, with those that are left, are all
abbrev pub invariant-loop-inode : goal.invariant-loop-inode
invariant-loop-inode l = (i : ℕ) →
    found_or_left (λ k. not (is_some (map.get l.inodes k))) l.beyond.items l.inode-iterator i
    ≡ (is_some (map.get l.self i) && not (is_some (map.get l.inodes i)))
