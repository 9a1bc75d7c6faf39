use Rattle.assise_model_world.proofs.Common.{end_of_log, digested_by_all}
use Rattle.assise_model_world.proofs.Shared.Replicated.{guarded_between, touch_disjoint, unseen_unreplicated}
use Rattle.assise_model_world.proofs.replication.nobody_has_seen_what_some_node_may_lack.Goals as goal

pub returns : goal.returns
returns c = record {
  guarded = λ w d i s h. guarded_between w d (digested_by_all w d) (end_of_log w d) i s h;
  disjoint = touch_disjoint;
  unseen = unseen_unreplicated;
}
