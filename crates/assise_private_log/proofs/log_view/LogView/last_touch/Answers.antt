use Rattle.assise_private_log.proofs.Common.{rules}
use Rattle.assise_private_log.proofs.TouchedNumbers.{last_of_place, no_last}
use Rattle.assise_private_log.proofs.log_view.LogView.last_touch.Goals as goal

pub returns-in_err-place-clause-last : goal.returns-in_err-place-clause-last
returns-in_err-place-clause-last c = no_last c.args.self.now c.args.inode _ c.from_residual.ensures (search rules)

pub returns-clause-last : goal.returns-clause-last
returns-clause-last c = last_of_place c.args.self.now c.args.inode c.in_ok-place.place _ (search rules) (search rules) (search rules) (search rules)

pub returns-in_err-place-clause-lawful : goal.returns-in_err-place-clause-lawful
returns-in_err-place-clause-lawful c = c.last_place.ensures.lawful
