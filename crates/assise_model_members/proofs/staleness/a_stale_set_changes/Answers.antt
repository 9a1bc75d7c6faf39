use Rattle.assise_model_members.proofs.Shared.StaleInodes.{refilled_stale, digested_stale, digested_else}
use Rattle.assise_model_members.proofs.staleness.a_stale_set_changes.Goals as goal

pub returns : goal.returns
returns c = record {
  refilled = refilled_stale;
  digested = λ w u m o n d k x since inodes stale g at. digested_stale w u m o n d k inodes g x since stale at;
  elsewhere = λ w u m o n d k x since donor inodes stale g at differs. digested_else w u m o n d k inodes g x since donor stale at differs;
}
