use Rattle.assise_machine_calls.proofs.Common.{sym, ◌∙◌, levels_of, value_of, leases_shaped}
use Rattle.assise_machine_calls.proofs.NodeFreed.{busy_kept, freed_as, freed_noted, full_kept}
use Rattle.assise_machine_calls.proofs.release.free.Goals as goal

pub returns-then-is_full-clause-frees : goal.returns-then-is_full-clause-frees
returns-then-is_full-clause-frees g c = full_kept (value_of c.args.state.now) c.args.node (sym c.is_full.ensures ∙ c.if-is_full.true)

pub returns-then-is_idle-clause-frees : goal.returns-then-is_idle-clause-frees
returns-then-is_idle-clause-frees g c =
    freed_as (value_of c.args.state.now) c.args.node (levels_of c.free_node.new.self) c.free_node.ensures.freed (sym c.is_full.ensures ∙ c.if-is_full.false)
    (c.is_idle.ensures.idle c.if-is_idle.true)

pub returns-then-is_idle-clause-noted : goal.returns-then-is_idle-clause-noted
returns-then-is_idle-clause-noted g c =
    freed_noted (value_of c.args.state.now) c.args.node (levels_of c.free_node.new.self) c.free_node.ensures.freed c.requires.noted

pub returns-else-is_idle-clause-frees : goal.returns-else-is_idle-clause-frees
returns-else-is_idle-clause-frees g c =
    (let found = c.is_idle.ensures.busy c.if-is_idle.false in busy_kept (value_of c.args.state.now) c.args.node found.0 found.1)

pub returns-then-is_idle-clause-shape : goal.returns-then-is_idle-clause-shape
returns-then-is_idle-clause-shape g c = leases_shaped (value_of c.args.state.now) (levels_of c.free_node.new.self) c.requires.shape
