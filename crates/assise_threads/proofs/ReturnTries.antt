-- How often a node that comes back was filled and tried to join.
use Rattle.assise_threads.proofs.Common.{◌≡◌, ℕ, zero, suc, ◌+◌, sym, subst, arith, Busy, Extends, IsOneAt, Response, Refused, extends-same, back, join, refill}
use Rattle.assise_threads.proofs.Common.{Machine, extends-on, HasFilled, HasTried, IsNoRefusal, InOneTake}

-- once more
pub tried_more : (n k : ℕ) (a : Response) (old tried filled new : Machine) → HasTried n k old tried → IsNoRefusal a →
    InOneTake (IsOneAt refill n a) tried filled → InOneTake (IsOneAt join n (Refused Busy)) filled new → HasTried n (k + 1) old new
tried_more n k a old tried filled new before done take joins =
    let next : suc k ≡ k + 1 = omega arith in
    record {
      begun = before.begun;
      begins = before.begins;
      tries = subst (λ j. HasFilled n j before.begun new) next (tried, (before.tries, (filled, (record { answer = a; done = done; take = take }, joins))));
    }

-- ---- what is seen goes on

filled_on : (n k : ℕ) (old new : Machine) → HasFilled n k old new → Extends new.history old.history
filled_on n zero old new same = subst (λ z. Extends z.history old.history) (sym same) (extends-same old.history)
filled_on n (suc k) old new (mid, (before, (filled, (once, last)))) =
    extends-on new.history mid.history old.history (extends-on new.history filled.history mid.history last.grows once.take.grows) (filled_on n k old mid before)

pub tried_on : (n k : ℕ) (old new : Machine) → HasTried n k old new → Extends new.history old.history
tried_on n k old new t = extends-on new.history t.begun.history old.history (filled_on n k t.begun new t.tries) t.begins.take.grows
