use Rattle.assise_model_members.proofs.Shared.NodesFail.{fail_over}
use Rattle.assise_model_members.proofs.Shared.StaleInodes.{back_stale, again_down}
use Rattle.assise_model_members.proofs.staleness.a_stale_set_begins_as_what_was_written.Goals as goal

pub returns : goal.returns
returns c = record {
  back = back_stale;
  over = λ w v u m o n k since inodes stale s a g at. fail_over w v u m o n inodes s a g k since stale at;
  again = again_down;
}
