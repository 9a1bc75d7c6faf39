-- What can come, from the start.
use Rattle.std.specs.Prelude.{ℕ, List}
use Rattle.assise_model_events.specs.Events.{ClusterEvent, Answer}
use Rattle.assise_model_events.specs.Happenings.{AllHappen}
use Rattle.assise_model_events.specs.Machine.{Machine, begun_as}

-- two nodes, whose clients' logs have this limit and at each of which one inode may be hot, come to this state
pub record IsReached (limit : ℕ) (m : Machine) : Type 0 where
  pub happened : List (ClusterEvent × Answer)
  pub trace : AllHappen (begun_as 2 limit 1) happened m

-- in a state that two nodes come to, what is asked for can come
pub record Comes (Outcome : Machine → Machine → Type 0) : Type 0 where
  pub limit : ℕ
  pub before : Machine
  pub reached : IsReached limit before
  pub after : Machine
  pub outcome : Outcome before after
