use Rattle.assise_lease_table.proofs.Common.{sym, ◌∙◌, not-true}
use Rattle.assise_lease_table.proofs.Shared.Compatibles.{no_rivals}
use Rattle.assise_lease_table.proofs.holders.may_be_held.Goals as goal

pub returns-then-may_raise-clause-free : goal.returns-then-may_raise-clause-free
returns-then-may_raise-clause-free c nobody =
    no_rivals c.args.leases.now c.args.holder c.args.mode (sym c.is_any_chosen.ensures ∙ not-true c.is_any_chosen.result nobody)
