use Rattle.assise_inode_table.proofs.Common.{◌∙◌, ap, with_value}
use Rattle.std.specs.Option.{is_some}
use Rattle.std.specs.FinMap as map
use Rattle.assise_inode_table.proofs.Shared.EffectLists.{given_back, inserted_there}
use Rattle.assise_inode_table.proofs.whole.apply_making.Goals as goal

pub put_value-requires : goal.put_value-requires
put_value-requires g c =
    record {
      there = ap (λ m. is_some (map.get m c.args.inode)) (c.in-Err.ensures.err ∙ c.in_ok-had.ensures.ok)
          ∙ inserted_there (g.S.Inodes.contents c.args.store.now) c.args.inode c.args.made;
    }

pub returns-in-Err-clause-err : goal.returns-in-Err-clause-err
returns-in-Err-clause-err g c =
    c.put_value.ensures.value ∙ ap (λ m. with_value m c.args.inode c.in_ok-had.had) (c.in-Err.ensures.err ∙ c.in_ok-had.ensures.ok)
    ∙ given_back (g.S.Inodes.contents c.args.store.now) c.args.inode c.args.made c.in_ok-had.had c.in_ok-had.ensures.replaced
