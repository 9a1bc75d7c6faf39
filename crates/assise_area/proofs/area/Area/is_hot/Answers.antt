use Rattle.assise_area.proofs.Common.{◌∙◌, sym}
use Rattle.assise_area.proofs.Shared.Seen.{hot_now}
use Rattle.assise_area.proofs.area.Area.is_hot.Goals as goal

pub returns : goal.returns
returns c = c.contains.ensures ∙ sym (hot_now c.args.self.now c.self.inside.hot c.self.inside.cold.entries c.args.inode c.self.view_is)
