use Rattle.assise_keeper_tests.proofs.Common.{rules, arith, ◌≡◌, ◌+◌, List, [], ◌∷◌, ◌++◌, sym, subst, EntryValue, opens, OpensOnce, openings}
use Rattle.assise_names.specs.declared.durability.Durability.TheVariants.{Pessimistic}
use Rattle.assise_keeper_tests.proofs.Books.{once_opened, unused_opened}
use Rattle.assise_keeper_tests.proofs.book.Book.open.Goals as goal

pub invariant_of-self : goal.invariant_of-self
invariant_of-self c = let b = c.args.self.now in record {
  once = subst OpensOnce (sym c.reserve.ensures.same) b.once;
  unused = λ d le. subst (λ (z : List EntryValue). openings d z ≡ 0) (sym c.reserve.ensures.same) (b.unused d le);
}

pub invariant_of-self-2 : goal.invariant_of-self-2
invariant_of-self-2 c = let b = c.args.self.now in let next : c.in-Some.next ≡ b.next_client + 1 = search rules in
    let grown : c.push.new.self.events ≡ b.history.events ++ opens b.next_client 1 Pessimistic ∷ [] = search rules in record {
      once = subst OpensOnce (sym grown) (once_opened b.history.events b.next_client 1 Pessimistic (b.unused b.next_client (omega arith)) b.once);
      unused = λ d le. subst (λ (z : List EntryValue). openings d z ≡ 0) (sym grown)
          (unused_opened b.history.events b.next_client 1 Pessimistic b.unused d (omega arith));
    }
