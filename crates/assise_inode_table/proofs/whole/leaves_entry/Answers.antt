use Rattle.assise_inode_table.proofs.Common.{◌&&◌, not, ◌∙◌, ap, sym, eq-eqb, texts_ties, same_name, leaves_entry}
use Rattle.assise_inode_table.proofs.whole.leaves_entry.Goals as goal

pub returns-else-changed-directory : goal.returns-else-changed-directory
returns-else-changed-directory c =
    c.ne.ensures ∙ ap not (texts_ties c.in-Unlink.gone c.args.name.now)
    ∙ sym (ap (λ here. not (here && same_name c.in-Unlink.gone c.args.name.now)) (eq-eqb c.in-Unlink.changed c.args.directory c.if-changed-directory.false))
    ∙ sym (ap (leaves_entry c.args.directory c.args.name.now) c.in-Unlink.is)
