-- The inodes that a region alone gives.
use Rattle.assise_digest.proofs.Common.{◌≡◌, ◌≤◌, ◌<◌, ◌+◌, ℕ, zero, suc, List, [], ◌∷◌, ◌++◌, length, take, slice_index_or, refl, sym, ap, ◌∙◌, append_assoc}
use Rattle.assise_digest.proofs.Common.{append-nil, min, arith, LogRecord, all_effects, InodeMap, values, all_applied, get-all_applied, same_inodes}
use Rattle.assise_digest.proofs.Common.{values-all_applied, Lays, StandsFor, overlaid, ReceivedLog, RegionValue, ahead_below, all_ahead, alone, no_log, Pending}
use Rattle.assise_digest.proofs.InodesUnderRecords.{get-overlaid, laid_over}
use Rattle.assise_digest.proofs.Shared.KeptStands.{seen_after}

-- what stands for records gives the map after them
pub stood_over : (p : Pending) (m : InodeMap) (n : ℕ) (rs : List LogRecord) → StandsFor p m n rs → overlaid m p ≡ all_applied m (all_effects rs)
stood_over p m n rs s = same_inodes _ _ (λ i. get-overlaid m p i ∙ seen_after p m n rs s i ∙ sym (get-all_applied m (all_effects rs) i))

-- and what lays them gives the inodes of the region alone
pub alone_over : (p : Pending) (r : RegionValue) (acked : List ℕ) → Lays p r.inodes (all_ahead r.logs acked) → values (overlaid r.inodes p) ≡ alone r acked
alone_over p r acked l = ap values (laid_over r.inodes p (all_ahead r.logs acked) l) ∙ values-all_applied r.inodes (all_ahead r.logs acked)

-- ---- client by client

pub one_more_client : (ls : List ReceivedLog) (acked : List ℕ) (k : ℕ) → k < length ls → k < length acked
    → all_ahead (take (k + 1) ls) acked ≡ all_ahead (take k ls) acked ++ all_effects (ahead_below (slice_index_or ls k no_log) (slice_index_or acked k 0))
one_more_client [] acked k h g = absurd (omega (arith, h))
one_more_client (l ∷ ls) [] k h g = absurd (omega (arith, g))
one_more_client (l ∷ ls) (b ∷ acked) zero h g = append-nil (all_effects (ahead_below l b))
one_more_client (l ∷ ls) (b ∷ acked) (suc k) h g =
    ap (λ n. all_ahead (take n (l ∷ ls)) (b ∷ acked)) next
    ∙ ap (λ es. all_effects (ahead_below l b) ++ es) (one_more_client ls acked k (omega (arith, h)) (omega (arith, g)))
    ∙ sym (grind (arith, append_assoc))
  where
    next : suc k + 1 ≡ suc (k + 1)
    next = omega arith

-- behind the last number nothing is replicated, and behind the last log there is nothing
pub all_clients : (ls : List ReceivedLog) (acked : List ℕ) (k : ℕ) → min (length ls) (length acked) ≤ k → all_ahead (take k ls) acked ≡ all_ahead ls acked
all_clients [] acked zero h = refl
all_clients [] acked (suc k) h = refl
all_clients (l ∷ ls) [] zero h = refl
all_clients (l ∷ ls) [] (suc k) h = refl
all_clients (l ∷ ls) (a ∷ acked) zero h = absurd (omega (arith, h))
all_clients (l ∷ ls) (a ∷ acked) (suc k) h = ap (λ es. all_effects (ahead_below l a) ++ es) (all_clients ls acked k (omega (arith, h)))
