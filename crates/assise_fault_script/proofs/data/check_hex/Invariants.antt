use Rattle.assise_fault_script.proofs.Common.{◌≡◌, ℕ, List, length, hex_bytes}
use Rattle.assise_fault_script.proofs.Hex.{with_prefix}
use Rattle.assise_fault_script.proofs.data.check_hex.Given as goal

-- some bytes stand in front of those that are left
abbrev pub invariant-loop-rest : goal.invariant-loop-rest
invariant-loop-rest l = (prefix : List ℕ) × (with_prefix prefix (hex_bytes l.rest) ≡ hex_bytes l.fn.digits)

abbrev pub decreases-loop-rest : goal.decreases-loop-rest
decreases-loop-rest l = length l.rest
