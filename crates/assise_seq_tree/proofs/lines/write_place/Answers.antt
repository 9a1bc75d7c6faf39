use Rattle.assise_seq_tree.proofs.Common.{rules, has_written_append, has_written_of_eq}
use Rattle.assise_seq_tree.proofs.TreePrinted.{spelled}
use Rattle.assise_seq_tree.proofs.lines.write_place.Goals as goal

pub returns : goal.returns
returns g c plain ok = has_written_of_eq _ _ _ _ _ (spelled c.args.path.now c.args.name.now)
    (has_written_append _ _ _ _ _ _ (c.in_ok-write_path.ensures plain (search rules)) (search rules))
