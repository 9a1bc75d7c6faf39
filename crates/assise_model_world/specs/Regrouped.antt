-- A client's last records are cut into groups, each of which is coalesced.
-- Assise (OSDI 2020), section 3 (CC-NVM: in optimistic mode update logs are coalesced before they are replicated).
use Rattle.std.specs.Prelude.{◌≡◌, ℕ, ◌+◌, ◌≤◌, List, length}
use Rattle.assise_record.specs.Groups.{AreGroups, all_records, all_coalesced, are_whole}
use Rattle.assise_record.specs.LogRecord.{LogRecord}
use Rattle.assise_model_world.specs.Coalescing.{GetsTail}
use Rattle.assise_model_world.specs.World.{World, end_of_log, records_between}

-- client c's records from s on, which no other full node has and which weren't to be replicated yet, become these groups, coalesced; all
-- of its log is to be replicated then
pub record Regroups (w : World) (c s : ℕ) (gs : List (List LogRecord)) (w' : World) : Type 0 where
  pub tail : GetsTail w c s (all_coalesced gs) w'
  pub groups : AreGroups gs
  pub cut : all_records gs ≡ records_between w c s (end_of_log w c)
  pub border_new : (k : ℕ) → k ≤ length (all_coalesced gs) → w'.border c (s + k) ≡ are_whole gs k
  pub goal : w.goal c ≤ s
