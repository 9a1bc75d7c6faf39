use Rattle.assise_digest.proofs.Common.{◌∙◌, ap, subst, sym, values, SpellsFrom, overlaid}
use Rattle.assise_digest.proofs.RebuiltInodes.{alone_over}
use Rattle.assise_digest.proofs.region.Region.rebuild.Goals as goal

pub tree-requires : goal.tree-requires
tree-requires g c =
    let p = c.in_ok-ahead.ahead in
    let r = c.args.self.now in
    let made = c.new.ensures ∙ ap (λ s. overlaid s.inodes p) c.self.view_is in
    (subst (λ v. SpellsFrom v 0 g.t) (sym (ap values made ∙ alone_over p r c.args.acked.now c.in_ok-ahead.ensures.lays)) c.requires.tree)
