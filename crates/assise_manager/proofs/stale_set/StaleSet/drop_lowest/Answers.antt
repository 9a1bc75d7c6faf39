use Rattle.assise_manager.proofs.Common.{◌∙◌, sym, ap, subst, nat_cmp, IsStrictlySortedBy}
use Rattle.std.specs.FinSet as set
use Rattle.assise_manager.proofs.AscendingSets.{drop_ascending, drop_taken, drop_none}
use Rattle.assise_manager.proofs.stale_set.StaleSet.drop_lowest.Goals as goal

pub invariant_of-self : goal.invariant_of-self
invariant_of-self c = record
    { ascending = subst (IsStrictlySortedBy nat_cmp) (sym c.pop_front.ensures.rest) (drop_ascending c.args.self.now.inodes.items c.args.self.now.ascending) }

pub returns-clause-taken : goal.returns-clause-taken
returns-clause-taken c inode low = ap set.from_list c.pop_front.ensures.rest ∙ drop_taken c.args.self.now.inodes.items c.args.self.now.ascending inode low

pub returns-clause-none : goal.returns-clause-none
returns-clause-none c none = ap set.from_list c.pop_front.ensures.rest ∙ drop_none c.args.self.now.inodes.items none
