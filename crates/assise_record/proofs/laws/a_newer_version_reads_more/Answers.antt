use Rattle.assise_record.proofs.Shared.Versions.{above, later_reads, later_spells}
use Rattle.assise_record.proofs.laws.a_newer_version_reads_more.Goals as goal

pub returns-clause-above : goal.returns-clause-above
returns-clause-above c = above

pub returns-clause-read : goal.returns-clause-read
returns-clause-read c = later_reads

pub returns-clause-spelled : goal.returns-clause-spelled
returns-clause-spelled c = later_spells
