use Rattle.assise_machine.proofs.Common.{◌≡◌, ◌+◌, ◌-◌, ◌≤◌, length, frames_to, machine_of}
use Rattle.assise_machine.proofs.sending.outgoing.Given as goal

-- the frames of the first clients
abbrev pub invariant-loop-client : goal.invariant-loop-client
invariant-loop-client g l = record {
  frames : l.frames.items ≡ frames_to (machine_of l.sound.state) l.node (l.client - 1);
  last : l.client ≤ length l.sound.state.clients + 1;
}
