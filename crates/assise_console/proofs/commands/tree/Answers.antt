use Rattle.assise_console.proofs.Common.{machine}
use Rattle.assise_console.proofs.SmallNumbers.{no_node_so_large}
use Rattle.assise_console.proofs.OneCommand.{shows_nothing, shows_refusal, shows_tree}
use Rattle.assise_console.proofs.commands.tree.Goals as goal

pub returns-in_default : goal.returns-in_default
returns-in_default g c = shows_nothing (machine c.args.cluster.now) c.args.node (no_node_so_large c.args.cluster.now (c.number_of.ensures.none c.in_default.is))

pub returns-in-Ok : goal.returns-in-Ok
returns-in-Ok g c = shows_tree (machine c.args.cluster.now) c.args.node c.in-Some.node c.in-Ok.tree c.in-Some.ensures.some c.in-Ok.ensures.fine
    c.in-Ok.ensures.tree

pub returns-in-Err : goal.returns-in-Err
returns-in-Err g c = shows_refusal (machine c.args.cluster.now) c.args.node c.in-Some.node c.in-Err.refusal c.tree_at.result c.in-Some.ensures.some c.in-Err.is
    c.tree_at.ensures.fault c.in-Err.ensures.only_memory
