use Rattle.assise_model_members.proofs.Shared.DigestNoted.{members_begin}
use Rattle.assise_model_members.proofs.failures.all_nodes_begin_full.Goals as goal

pub returns : goal.returns
returns c = members_begin
