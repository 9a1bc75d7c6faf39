use Rattle.assise_seq_tree.proofs.Common.{file}
use Rattle.assise_seq_tree.proofs.Shared.TreePut.{swapped_ok, swapped_err}
use Rattle.assise_seq_tree.proofs.tree.Tree.resize_at.Goals as goal

pub returns-clause-ok : goal.returns-clause-ok
returns-clause-ok c = λ bytes h. swapped_ok c.resize-outcome.result c.args.names.now c.args.self.now _ _ h (c.swap.ensures.there (file bytes) h)
    c.swap-2.ensures.there _ (c.resize-outcome.ensures.ok bytes)

pub returns-clause-err : goal.returns-clause-err
returns-clause-err c = λ bytes h. swapped_err c.resize-outcome.result c.args.names.now c.args.self.now _ _ h (c.swap.ensures.there (file bytes) h)
    c.swap-2.ensures.there c.resize-outcome.ensures.err
