use Rattle.assise_history.proofs.Common.{not, rules, ◌==◌, filter_same}
use Rattle.assise_history.proofs.prefix.note_return.Goals as goal

pub returns : goal.returns
returns c = filter_same _ (λ m. not (m == c.args.node)) _ (λ x b q h. search rules) _ _ c.retain.ensures.filtered
