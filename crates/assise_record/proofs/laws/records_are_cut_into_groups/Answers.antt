use Rattle.assise_record.proofs.Shared.GroupMarks.{groups-all, groups-are, marked}
use Rattle.assise_record.proofs.Shared.WholeGroups.{calls_same}
use Rattle.assise_record.proofs.laws.records_are_cut_into_groups.Goals as goal

pub returns-clause-all : goal.returns-clause-all
returns-clause-all c = groups-all

pub returns-clause-groups : goal.returns-clause-groups
returns-clause-groups c = groups-are

pub returns-clause-marks : goal.returns-clause-marks
returns-clause-marks c = marked

pub returns-clause-calls : goal.returns-clause-calls
returns-clause-calls c = calls_same
