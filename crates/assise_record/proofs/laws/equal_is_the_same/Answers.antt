use Rattle.assise_record.proofs.Shared.Equality.{effects_decided, records_decided}
use Rattle.assise_record.proofs.laws.equal_is_the_same.Goals as goal

pub returns-clause-effects : goal.returns-clause-effects
returns-clause-effects c = effects_decided

pub returns-clause-records : goal.returns-clause-records
returns-clause-records c = records_decided
