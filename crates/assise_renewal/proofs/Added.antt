-- What calls of one sort add to a history, with rounds between them.
use Rattle.assise_renewal.proofs.Common.{◌≡◌, ◌⊎◌, ℕ, List, [], inl, inr, refl, Op, Reply, EntryValue, Answer, ClusterEvent, back, call_entry, crash, deliver}
use Rattle.assise_renewal.proofs.Common.{digest, entries_of, fail, join, open_client, outgoing, raise, refill, release_ready, replied, set_hot, try_call}
use Rattle.assise_renewal.proofs.Common.{try_fsync, IsOfSort}

-- it is the entry of an answered call of the sort
pub record IsEntryOf (Sort : ℕ → Op → Type 0) (h added : List EntryValue) : Type 0 where
  pub client : ℕ
  pub op : Op
  pub reply : Reply
  pub sorted : Sort client op
  pub is : added ≡ call_entry h client op reply

-- an event of the sort adds nothing, or such an entry
pub added : (Sort : ℕ → Op → Type 0) (h : List EntryValue) (e : ClusterEvent) (a : Answer) → IsOfSort Sort e →
    (entries_of h e a ≡ []) ⊎ IsEntryOf Sort h (entries_of h e a)
added Sort h (try_call c op) (replied reply) is = inr record { client = c; op = op; reply = reply; sorted = is; is = refl }
added Sort h (try_call c op) a is = inl refl
added Sort h (outgoing n) a is = inl refl
added Sort h (deliver f n) a is = inl refl
added Sort h (digest n) a is = inl refl
added Sort h release_ready a is = inl refl
added Sort h (open_client n u) a is = absurd is
added Sort h (try_fsync c) a is = absurd is
added Sort h (set_hot n capacity) a is = absurd is
added Sort h (crash c) a is = absurd is
added Sort h (fail n) a is = absurd is
added Sort h (back n) a is = absurd is
added Sort h (refill n) a is = absurd is
added Sort h (join n) a is = absurd is
added Sort h (raise n) a is = absurd is
