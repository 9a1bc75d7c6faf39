-- What changes a node opens no client and answers no call, so that any pass may give it.
use Rattle.assise_mail_example.proofs.Common.{◌≡◌, ◌∙◌, ℕ, List, [], ◌∷◌, sym, subst, ap, append-nil, Option, Answer}
use Rattle.assise_history.specs.Entries.{EntryValue, returns}
use Rattle.assise_keeper.specs.declared.view.Opens.{Opens}
use Rattle.assise_keeper.specs.Clients.{MayGive}
use Rattle.assise_model_events.specs.Machine.{Machine}
use Rattle.assise_model_events.specs.MemberEvents.{Failing, Returning, Refilling, Joining, is_back, is_failed, is_failed_again, is_joined, is_refilled}
use Rattle.assise_model_events.specs.MemberEvents.{is_refused, is_whole, lacks_memory}

pub may_give : (c : Option ℕ) (o : Opens) (taken old new : List EntryValue) → taken ≡ old →
    ((client : Option ℕ) (right : Opens) → MayGive client right old new) → MayGive c o taken new
may_give c o taken old new is gives = subst (λ h. MayGive c o h new) (sym is) (gives c o)

module _ (c : Option ℕ) (o : Opens) (m m' : Machine) where
  same_gives : m' ≡ m → MayGive c o m.history m'.history
  same_gives same = ([], ap (λ x. x.history) same ∙ sym (append-nil m.history), tt)

  pub failure_gives : (n : ℕ) (a : Answer) → Failing m n a m' → MayGive c o m.history m'.history
  failure_gives n a (is_failed fine is e) = (_, e.adds.history, (tt, tt))
  failure_gives n a (is_failed_again fine is e) = (_, e.adds.history, (tt, tt))
  failure_gives n a (lacks_memory fine is same) = same_gives same
  failure_gives n a (is_refused r fault is same) = same_gives same

  pub return_gives : (n : ℕ) (a : Answer) → Returning m n a m' → MayGive c o m.history m'.history
  return_gives n a (is_back fine is e) = ([], e.adds.history, tt)
  return_gives n a (lacks_memory fine is same) = same_gives same
  return_gives n a (is_refused r fault is same) = same_gives same

  pub refill_gives : (n : ℕ) (a : Answer) → Refilling m n a m' → MayGive c o m.history m'.history
  refill_gives n a (is_refilled fine is e) = ([], e.adds.history, tt)
  refill_gives n a (is_whole fine none is same) = same_gives same
  refill_gives n a (lacks_memory fine some is same) = same_gives same
  refill_gives n a (is_refused r fault is same) = same_gives same

  pub join_gives : (n : ℕ) (a : Answer) → Joining m n a m' → MayGive c o m.history m'.history
  join_gives n a (is_joined fine is e) = (returns n ∷ [], e.adds.history, (tt, tt))
  join_gives n a (lacks_memory fine is same) = same_gives same
  join_gives n a (is_refused r fault is same) = same_gives same
