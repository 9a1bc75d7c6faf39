use Rattle.assise_libfs_tests.proofs.Common.{rules, ◌≡◌, ◌+◌, [], ◌∷◌, ◌++◌, ◌∙◌, arith, opens}
use Rattle.assise_libfs_tests.proofs.Grown.{none_down, opened, opened_so_many}
use Rattle.assise_libfs_tests.proofs.ledger.LedgerServed.open.Goals as goal

pub returns-then-self-eq-MOST_CLIENTS-clause-refused : goal.returns-then-self-eq-MOST_CLIENTS-clause-refused
returns-then-self-eq-MOST_CLIENTS-clause-refused c =
    let l = c.args.self.now in (
      none_down l.clients l.history.events l.kept c.args.node,
      opened_so_many l.clients l.history.events l.kept ∙ c.if-self-eq-MOST_CLIENTS.true,
    )

pub invariant_of-self-2 : goal.invariant_of-self-2
invariant_of-self-2 c =
    let l = c.args.self.now in
    let less = c.if-self-eq-MOST_CLIENTS.false in
    let few = l.few in
    let grown : c.push.new.self.events ≡ l.history.events ++ opens (l.clients + 1) 1 c.args.durability ∷ [] = search rules in
    record { few = omega (arith, less, few); kept = opened l.clients c.args.durability l.history.events c.push.new.self.events l.kept grown }
