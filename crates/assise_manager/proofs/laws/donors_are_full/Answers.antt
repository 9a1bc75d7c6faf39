use Rattle.assise_manager.proofs.Shared.Lawful.{donor_full}
use Rattle.assise_manager.proofs.laws.donors_are_full.Goals as goal

pub returns : goal.returns
returns c = donor_full
