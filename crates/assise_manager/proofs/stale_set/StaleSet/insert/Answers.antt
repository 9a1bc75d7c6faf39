use Rattle.assise_manager.proofs.Common.{◌∙◌, ap, arith, rules}
use Rattle.std.specs.FinSet as set
use Rattle.assise_manager.proofs.AscendingSets.{found_there, placed_ascending, searchable, insert_set, either_ascends}
use Rattle.assise_manager.proofs.stale_set.StaleSet.insert.Goals as goal

pub returns-in_default-clause-inodes : goal.returns-in_default-clause-inodes
returns-in_default-clause-inodes c = found_there c.args.self.now.inodes.items c.in_default.field-0 c.args.inode (search (arith, rules)) (search rules)

pub invariant_of-self : goal.invariant_of-self
invariant_of-self c = record {
  ascending = either_ascends c.insert.result c.args.self.now.inodes.items _ _ _ c.insert.ensures.items c.insert.ensures.unchanged c.args.self.now.ascending
      (placed_ascending c.args.self.now.inodes.items c.in-Err.place c.args.inode c.args.self.now.ascending
      (let b = c.in-Err.ensures.bound in let e = c.args.self.now.inodes.ok.0 in omega arith)
      (c.in-Err.ensures.position (searchable c.args.self.now.inodes.items c.args.inode c.args.self.now.ascending)));
}

pub returns-clause-inodes : goal.returns-clause-inodes
returns-clause-inodes c = ap set.from_list c.in-Ok.ensures.items ∙ insert_set c.args.self.now.inodes.items c.in-Err.place c.args.inode
    (let b = c.in-Err.ensures.bound in let e = c.args.self.now.inodes.ok.0 in omega arith)
