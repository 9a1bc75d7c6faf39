use Rattle.assise_machine_state.proofs.Shared.DigestSeen.{digest_noted, digest_shaped}
use Rattle.assise_machine_state.proofs.seen_nodes.a_digest_is_observed.Goals as goal

pub returns : goal.returns
returns r = record { digests = digest_noted; shape = λ s n c k inodes shape client full. digest_shaped s n c k inodes shape }
