use Rattle.std.specs.Map.{lookup}
use Rattle.assise_lease_tree.proofs.Common.{◌≡◌, ◌≢◌, ℕ, nat_eq, is_some, refl, sym, ap, ◌∙◌, Some, arith, ne_eqb, get, Updates, clients_at, nodes_at}
use Rattle.assise_lease_tree.proofs.Common.{levels_of}
use Rattle.assise_lease_tree.proofs.CallsOnLevels.{tree_lawful, known_after, on_ok}
use Rattle.assise_lease_tree.proofs.Lawful.{same_lawful}
use Rattle.assise_lease_tree.proofs.Shared.Steps.{enrolled_lawful}
use Rattle.assise_lease_tree.proofs.lease_tree.LeaseTreeOf.enrol.Goals as goal

pub invariant_of-self-in-Break-1 : goal.invariant_of-self-in-Break-1
invariant_of-self-in-Break-1 g c =
    let homes : (d : ℕ) → get nat_eq c.reserve.new.self d ≡ get nat_eq c.args.self.now.homes d = λ d. ap (λ es. lookup (nat_eq d) es) c.reserve.ensures.entries
    in
    let lawful = same_lawful {old = (levels_of c.args.self.now)}
    {new = (record { home = get nat_eq c.reserve.new.self; clients = clients_at c.args.self.now.leases; nodes = nodes_at c.args.self.now.leases })}
    (record { home = homes; clients = λ i. refl; nodes = λ i. refl }) (tree_lawful c.args.self.now) in
    record {
      compatible_clients = lawful.clients_compatible;
      compatible_nodes = lawful.nodes_compatible;
      under = lawful.under;
      asked_below = lawful.asked;
      known = λ d. ap is_some (homes d) ∙ c.args.self.now.known d ∙ ap is_some (sym (c.in_err-store.ensures.err d));
    }

pub invariant_of-self-2 : goal.invariant_of-self-2
invariant_of-self-2 g c =
    let made : Updates nat_eq c.reserve.new.self c.insert.new.self c.args.client (Some c.args.node) =
    on_ok c.insert.result _ (c.insert.ensures.succeeds (omega (arith, c.in-Ok.ensures.ok))) c.insert.ensures.updates in
    let rest : (d : ℕ) → d ≢ c.args.client → get nat_eq c.insert.new.self d ≡ get nat_eq c.args.self.now.homes d =
    λ d other. made.2 d (ne_eqb c.args.client d (λ same. other (sym same))) ∙ ap (λ es. lookup (nat_eq d) es) c.reserve.ensures.entries in
    let told = c.in_ok-store.ensures.ok in
    let lawful = enrolled_lawful (levels_of c.args.self.now) (tree_lawful c.args.self.now)
    (record { home = get nat_eq c.insert.new.self; clients = clients_at c.args.self.now.leases; nodes = nodes_at c.args.self.now.leases }) c.args.client
    c.args.node c.requires.new
    (record { home = record { here = made.1; elsewhere = rest }; clients = λ i. refl; nodes = λ i. refl }) in
    record {
      compatible_clients = lawful.clients_compatible;
      compatible_nodes = lawful.nodes_compatible;
      under = lawful.under;
      asked_below = lawful.asked;
      known = known_after (get nat_eq c.args.self.now.homes) (get nat_eq c.insert.new.self) (get nat_eq c.args.self.now.revokers)
          (get nat_eq c.store.new.revokers) c.args.client c.args.node c.args.revoker c.args.self.now.known made.1 rest told.here told.elsewhere;
    }
