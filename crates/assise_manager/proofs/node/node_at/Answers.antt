use Rattle.assise_manager.proofs.Common.{◌∙◌, sym, ap, slice_get, option_map, standing}
use Rattle.assise_manager.proofs.Places.{standing_at, item_is}
use Rattle.assise_manager.proofs.node.node_at.Goals as goal

pub returns : goal.returns
returns c =
    ap (option_map standing) (item_is c.args.nodes.now _ c.get.result c.get.ensures.lookup.0 c.get.ensures.lookup.1)
    ∙ ap (λ n. option_map standing (slice_get c.args.nodes.now n)) c.in_ok-checked_sub.ensures.1
    ∙ sym (standing_at c.args.nodes.now c.args.node c.in_ok-checked_sub.ensures.0)
