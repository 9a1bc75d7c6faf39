use Rattle.assise_manager.proofs.Common.{◌∙◌, sym}
use Rattle.assise_manager.proofs.AscendingSets.{lowest_of, none_lowest, prefix_is}
use Rattle.assise_manager.proofs.stale_set.StaleSet.lowest.Goals as goal

pub returns-clause-lowest : goal.returns-clause-lowest
returns-clause-lowest c = lowest_of c.args.self.now.inodes.items _ c.args.self.now.ascending
    (c.copied.ensures ∙ prefix_is c.args.self.now.inodes.items _ c.front.result c.args.self.now.inodes.ok.0 c.front.ensures.variant.0 c.front.ensures.variant.1
    c.front.ensures.lookup)

pub returns-clause-none : goal.returns-clause-none
returns-clause-none c none =
    none_lowest c.args.self.now.inodes.items
    (sym (c.copied.ensures ∙ prefix_is c.args.self.now.inodes.items _ c.front.result c.args.self.now.inodes.ok.0 c.front.ensures.variant.0
    c.front.ensures.variant.1 c.front.ensures.lookup) ∙ none)
