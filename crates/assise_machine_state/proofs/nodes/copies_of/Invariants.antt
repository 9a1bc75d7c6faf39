use Rattle.assise_machine_state.proofs.Common.{◌≡◌, map, take, AreTaken, away, copied}
use Rattle.assise_machine_state.proofs.nodes.copies_of.Given as goal

-- the first logs are copied
abbrev pub invariant-loop-place : goal.invariant-loop-place
invariant-loop-place l = record {
  copies : map copied l.copies.items ≡ map away (take l.place l.region.logs);
  sound : AreTaken l.copies.items;
}
