use Rattle.assise_history.proofs.Common.{◌≡◌, ◌-◌, ◌^◌, min, take, name_bytes}
use Rattle.assise_history.proofs.payload.listed.Given as goal

-- the names in front were counted
abbrev pub invariant-loop-name : goal.invariant-loop-name
invariant-loop-name l = l.bytes ≡ min (name_bytes (take l.name-index l.names)) (2 ^ 64 - 1)
