use Rattle.assise_machine_state.proofs.Common.{◌≡◌, ◌++◌, take, touched}
use Rattle.assise_machine_state.proofs.touching.push_touched.Given as goal

-- the inodes of the first effects were added
abbrev pub invariant-loop-effect : goal.invariant-loop-effect
invariant-loop-effect l = l.inodes.items ≡ l.fn.inodes.items ++ touched (take l.effect-index l.effects)
