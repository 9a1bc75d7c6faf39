use Rattle.assise_keeper_tests.proofs.Common.{rules, ◌≡◌, List, [], ◌∷◌, ◌++◌, sym, subst, EntryValue, OpensOnce, openings, made}
use Rattle.assise_keeper_tests.proofs.Books.{once_called, unused_called}
use Rattle.assise_keeper_tests.proofs.book.Book.call.Goals as goal

pub invariant_of-self : goal.invariant_of-self
invariant_of-self c = let b = c.args.self.now in record {
  once = subst OpensOnce (sym c.reserve.ensures.same) b.once;
  unused = λ d le. subst (λ (z : List EntryValue). openings d z ≡ 0) (sym c.reserve.ensures.same) (b.unused d le);
}

pub invariant_of-self-2 : goal.invariant_of-self-2
invariant_of-self-2 c = let b = c.args.self.now in
    let grown : c.push.new.self.events ≡ b.history.events ++ made c.args.client b.calls ∷ [] = search rules in record {
      once = subst OpensOnce (sym grown) (once_called b.history.events _ b.once);
      unused = λ d le. subst (λ (z : List EntryValue). openings d z ≡ 0) (sym grown) (unused_called b.history.events b.next_client _ b.unused d le);
    }
