use Rattle.assise_manager.proofs.Common.{◌∙◌, sym}
use Rattle.assise_manager.proofs.AscendingSets.{len_ascending}
use Rattle.assise_manager.proofs.stale_set.StaleSet.len.Goals as goal

-- src/stale_set.rt:51:5
pub returns : goal.returns
returns c = c.len.ensures ∙ sym (len_ascending c.args.self.now.inodes.items c.args.self.now.ascending ∙ sym c.args.self.now.inodes.ok.0)
