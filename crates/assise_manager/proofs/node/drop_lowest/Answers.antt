use Rattle.assise_manager.proofs.Common.{◌≡◌, ◌∙◌, sym, ap, subst, map, Some, None, true, map-set, option_map, is_returning, stale_of, IsLowestOf, copied_as}
use Rattle.assise_manager.proofs.Common.{standing_of, with_standing, full_nodes, standing}
use Rattle.std.specs.FinSet as set
use Rattle.assise_manager.proofs.Places.{back_at, some_of, stands_now, same_standing, full_away, away_back}
use Rattle.assise_manager.proofs.node.drop_lowest.Goals as goal

pub drop_lowest-requires : goal.drop_lowest-requires
drop_lowest-requires c = record {
  returning = subst (λ o. is_returning o ≡ true) (back_at c.args.nodes.now c.args.node c.index-nodes-node.result c.requires.returning) c.requires.returning;
}

pub returns-clause-copied : goal.returns-clause-copied
returns-clause-copied c inode low =
    let at = back_at c.args.nodes.now c.args.node c.index-nodes-node.result c.requires.returning in
    map-set standing c.args.nodes.now _ c.drop_lowest.new.self
    ∙ ap (with_standing (map standing c.args.nodes.now) c.args.node)
    (c.drop_lowest.ensures.copied inode (subst (λ o. IsLowestOf (stale_of o) (Some inode)) at low))
    ∙ ap (copied_as (map standing c.args.nodes.now) c.args.node inode) (sym at)

pub returns-clause-none : goal.returns-clause-none
returns-clause-none c none =
    let at = back_at c.args.nodes.now c.args.node c.index-nodes-node.result c.requires.returning in
    map-set standing c.args.nodes.now _ c.drop_lowest.new.self
    ∙ ap (with_standing (map standing c.args.nodes.now) c.args.node) (c.drop_lowest.ensures.none (subst (λ o. IsLowestOf (stale_of o) None) at none))
    ∙ same_standing (map standing c.args.nodes.now) c.args.node _ at

pub returns-clause-away : goal.returns-clause-away
returns-clause-away c =
    let at = back_at c.args.nodes.now c.args.node c.index-nodes-node.result c.requires.returning in
    ap full_nodes (map-set standing c.args.nodes.now _ c.drop_lowest.new.self)
    ∙ full_away (map standing c.args.nodes.now) c.args.node (standing c.drop_lowest.new.self) (away_back _ c.requires.returning)
    (away_back (Some (standing c.drop_lowest.new.self)) c.drop_lowest.ensures.returning)

pub returns-clause-count : goal.returns-clause-count
returns-clause-count c =
    ap (λ ns. option_map set.len (stale_of (standing_of ns c.args.node))) (map-set standing c.args.nodes.now _ c.drop_lowest.new.self)
    ∙ ap (λ o. option_map set.len (stale_of o))
    (stands_now (map standing c.args.nodes.now) c.args.node (standing c.drop_lowest.new.self) (some_of _ c.requires.returning))
    ∙ c.drop_lowest.ensures.count
