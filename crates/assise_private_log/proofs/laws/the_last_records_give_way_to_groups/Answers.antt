use Rattle.assise_private_log.proofs.Shared.LogGroups.{regrouped_among, regrouped_before, regrouped_records, regrouped_shorter}
use Rattle.assise_private_log.proofs.laws.the_last_records_give_way_to_groups.Goals as goal

pub returns : goal.returns
returns c = record { records = regrouped_records; shorter = regrouped_shorter; before = regrouped_before; among = regrouped_among }
