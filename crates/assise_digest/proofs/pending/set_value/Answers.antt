use Rattle.assise_digest.proofs.Common.{◌∙◌, ap, sym, with_value}
use Rattle.assise_digest.proofs.KeptInodes.{nothing_removed}
use Rattle.assise_digest.proofs.pending.set_value.Goals as goal

pub returns-in-None-clause-ok : goal.returns-in-None-clause-ok
returns-in-None-clause-ok c = nothing_removed c.args.inodes.now c.args.inode c.requires.none ∙ ap (with_value c.args.inodes.now c.args.inode) (sym c.in-None.is)
