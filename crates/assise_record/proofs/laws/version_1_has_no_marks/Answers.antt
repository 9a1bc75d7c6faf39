use Rattle.assise_record.proofs.Shared.Versions.{no_marks_in_1, spelled_in_1}
use Rattle.assise_record.proofs.laws.version_1_has_no_marks.Goals as goal

pub returns-clause-marks : goal.returns-clause-marks
returns-clause-marks c = no_marks_in_1

pub returns-clause-spelling : goal.returns-clause-spelling
returns-clause-spelling c = spelled_in_1
