use Rattle.assise_fault_script.proofs.Common.{◌≡◌, ◌≤◌, ◌+◌, ◌*◌, length, vec_len, vec_capacity, hex_bytes}
use Rattle.assise_fault_script.proofs.Hex.{with_prefix}
use Rattle.assise_fault_script.proofs.data.hex.Given as goal

abbrev pub invariant-loop-rest : goal.invariant-loop-rest
invariant-loop-rest l = record {
  read : with_prefix l.bytes.items (hex_bytes l.rest) ≡ hex_bytes l.fn.digits;
  room : 2 * vec_len l.bytes + length l.rest ≤ 2 * vec_capacity l.bytes + 1;
}

abbrev pub decreases-loop-rest : goal.decreases-loop-rest
decreases-loop-rest l = length l.rest
