use Rattle.assise_console.proofs.Common.{rules, ◌≡◌, ◌-◌, ◌<◌, Some, length, subst, sym, BadNode, MOST_NODES, kind_of_link, node_fault, machine, console_seen}
use Rattle.assise_rounds.proofs.Shared.NodeLinks.{at_node, set_same}
use Rattle.assise_console.proofs.SmallNumbers.{no_node_so_large}
use Rattle.assise_console.proofs.Links.{below_most}
use Rattle.assise_console.proofs.OneCommand.{carries_none, carries_nowhere, carries_refused, carries_some}
use Rattle.assise_console.proofs.console.ConsoleOf.carry.Goals as goal

pub returns-in_default : goal.returns-in_default
returns-in_default g c =
    carries_none (console_seen c.args.self.now) c.args.node (no_node_so_large c.args.self.now.cluster (c.number_of.ensures.none c.in_default.is))

pub returns-then-not-has_node : goal.returns-then-not-has_node
returns-then-not-has_node g c =
    let nowhere = c.has_node.ensures.no c.if-not-has_node.true in
    carries_nowhere (console_seen c.args.self.now) c.args.node
    (subst (λ n. node_fault (machine c.args.self.now.cluster) n ≡ Some BadNode) c.in-Some.ensures.some nowhere)

pub listed : goal.listed
listed g c =
    let most : length c.args.self.now.links ≡ MOST_NODES = search rules in
    subst (λ n. c.in-Some.node - 1 < n) (sym most) (below_most c.args.self.now.cluster c.in-Some.node (c.has_node.ensures.yes c.if-not-has_node.false))

pub bounds-self-node : goal.bounds-self-node
bounds-self-node g c = below_most c.args.self.now.cluster c.in-Some.node (c.has_node.ensures.yes c.if-not-has_node.false)

pub returns-in-Ok : goal.returns-in-Ok
returns-in-Ok g c =
    let links = c.args.self.now.links in
    let k = c.in-Some.node in
    let link = c.index-self-node.result in
    carries_some (console_seen c.args.self.now) c.args.node k c.in-Ok.taken (machine c.replicate.new.cluster) _ _ c.in-Some.ensures.some
    (λ faithful. at_node kind_of_link links k link faithful)
    (set_same kind_of_link links (k - 1) link c.replicate.new.link c.in-Ok.ensures.stays) c.in-Ok.ensures.ok

pub returns-in-Err : goal.returns-in-Err
returns-in-Err g c =
    let links = c.args.self.now.links in
    let k = c.in-Some.node in
    carries_refused (console_seen c.args.self.now) c.args.node k c.in-Err.refusal (machine c.replicate.new.cluster) _ c.in-Some.ensures.some
    (set_same kind_of_link links (k - 1) c.index-self-node.result c.replicate.new.link c.in-Err.ensures.stays) c.in-Err.ensures.err
