use Rattle.assise_console.proofs.Common.{rules, ◌≡◌, ◌-◌, ◌<◌, length, refl, subst, sym, MOST_NODES, console_seen}
use Rattle.assise_console.proofs.SmallNumbers.{no_node_so_large}
use Rattle.assise_console.proofs.Links.{below_most, links_nowhere, sets_link}
use Rattle.assise_console.proofs.console.ConsoleOf.link.Goals as goal

pub returns-in_default : goal.returns-in_default
returns-in_default g c =
    links_nowhere (console_seen c.args.self.now) c.args.node c.args.kind (no_node_so_large c.args.self.now.cluster (c.number_of.ensures.none c.in_default.is))

pub listed : goal.listed
listed g c =
    let most : length c.args.self.now.links ≡ MOST_NODES = search rules in
    subst (λ n. c.in-Some.node - 1 < n) (sym most) (below_most c.args.self.now.cluster c.in-Some.node (c.has_node.ensures.yes c.if-not-has_node.false))

pub way_replace-drop : goal.way_replace-drop
way_replace-drop g c = below_most c.args.self.now.cluster c.in-Some.node (c.has_node.ensures.yes c.if-not-has_node.false)

pub returns : goal.returns
returns g c =
    sets_link (console_seen c.args.self.now) c.args.node c.in-Some.node c.args.kind c.args.self.now.links c.link_of.result c.in-Some.ensures.some
    (c.has_node.ensures.yes c.if-not-has_node.false) refl c.link_of.ensures.kind
