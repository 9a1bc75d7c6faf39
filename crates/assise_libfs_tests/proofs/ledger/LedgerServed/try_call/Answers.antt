use Rattle.assise_libfs_tests.proofs.Common.{rules, arith, ◌≡◌, [], ◌∷◌, ◌++◌, Fsync, Done, told_call}
use Rattle.assise_libfs_tests.proofs.Grown.{called, may_call, no_other}
use Rattle.assise_libfs_tests.proofs.ledger.LedgerServed.try_call.Goals as goal
use Rattle.assise_libfs_tests.proofs.ledger.LedgerServed.try_call.Goals.{then-client-eq0-via-then-client-eq0}
use Rattle.assise_libfs_tests.proofs.ledger.LedgerServed.try_call.Goals.{then-client-eq0-via-else-client-eq0+then-client-self}

pub returns-then-client-eq0-clause-refused : goal.returns-then-client-eq0-clause-refused
returns-then-client-eq0-clause-refused c =
    let l = c.args.self.now in
    elim c.then-client-eq0.branch [
      | then-client-eq0-via-then-client-eq0 w ↦ no_other l.clients l.history.events c.args.client l.kept (λ lo hi. let zero = w.if-client-eq0 in omega arith)
      | then-client-eq0-via-else-client-eq0+then-client-self w ↦
          no_other l.clients l.history.events c.args.client l.kept (λ lo hi. let over = w.if-client-self in omega arith)
    ]

pub returns-then-self-clause-refused : goal.returns-then-self-clause-refused
returns-then-self-clause-refused c =
    let l = c.args.self.now in
    let some = c.if-client-eq0.false in
    let known = c.if-client-self.false in
    may_call l.clients l.history.events c.args.client l.kept (omega (arith, some)) (omega (arith, known))

pub invariant_of-self-2 : goal.invariant_of-self-2
invariant_of-self-2 c =
    let l = c.args.self.now in
    let some = c.if-client-eq0.false in
    let known = c.if-client-self.false in
    let grown : c.push.new.self.events ≡ l.history.events ++ told_call c.args.client l.history.events Fsync Done ∷ [] = search rules in
    record { few = l.few; kept = called l.clients l.history.events c.push.new.self.events c.args.client (omega arith) (omega arith) l.kept grown }
