use Rattle.assise_lease_table.proofs.Common.{ap, sym, ◌∙◌, list_any, leases_at, is_rival}
use Rattle.assise_lease_table.proofs.Shared.LeaseChanges.{Fits, becomes_each}
use Rattle.assise_lease_table.proofs.Shared.Compatibles.{no_rivals, raise_compatible}
use Rattle.assise_lease_table.proofs.node_table.NodeTable.raise.Goals as goal

pub invariant_of-self : goal.invariant_of-self
invariant_of-self c =
    let ls = leases_at c.args.self.now.leases c.args.inode in
    let fits = c.args.self.now.compatible_leases in
    let none = sym (c.is_any_chosen.ensures ∙ ap (list_any (is_rival c.args.node c.args.mode)) c.leases.ensures) ∙ c.if-not-is_any_chosen.true in
    record {
      compatible_leases =
          becomes_each Fits c.raise.ensures (raise_compatible c.args.node c.args.mode ls (fits c.args.inode) (no_rivals ls c.args.node c.args.mode none)) fits;
    }
