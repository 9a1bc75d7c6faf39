use Rattle.assise_private_log.proofs.Common.{true, refl}
use Rattle.assise_private_log.proofs.Shared.Borders.{border_prefix, border_grouped, border_tail}
use Rattle.assise_private_log.proofs.laws.borders_stay.Goals as goal

pub returns : goal.returns
returns c = record {
  prefix = border_prefix;
  tail = border_tail;
  appended = λ l r number law. border_grouped l r true number law.marks (λ e. refl);
}
