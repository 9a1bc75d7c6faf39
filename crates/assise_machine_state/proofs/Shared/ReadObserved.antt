-- What a client reads at its home, and what a full node's region alone gives, as the laws observe it.
use Rattle.assise_machine_state.proofs.Common.{◌≡◌, ℕ, zero, suc, ◌<◌, ◌≤◌, true, List, [], ◌∷◌, ◌++◌, ◌-◌, length, get_or, drop, take, slice_index_or, refl}
use Rattle.assise_machine_state.proofs.Common.{ap, sym, ◌∙◌, arith, append_assoc, take_all, all_effects, get-all_applied, values, value_after, ReceivedLog}
use Rattle.assise_machine_state.proofs.Common.{ahead, ahead_below, all_ahead, alone, no_log, WorldInvariant, Full, World, ahead_observed, below_observed}
use Rattle.assise_machine_state.proofs.Common.{all_observed, alone_observed, received_by_all, view, log_in, region_in, inodes_read, world_of, item_at}
use Rattle.assise_machine_state.proofs.Common.{ShapeInvariant, StateValue}
use Rattle.std.proofs.lemmas.List.{append-nil}
use Rattle.std.specs.FinMap as map
use Rattle.assise_machine_state.proofs.Shared.Fullness.{full_seen, same_first}

-- ---- what a full node has ahead of a client

pub ahead_first : (s : StateValue) (n c : ℕ) → (log_in s.nodes n c).log.first ≡ (world_of s).first c →
    ahead_observed (world_of s) n c ≡ ahead (log_in s.nodes n c)
unfolding ahead_observed world_of
ahead_first s n c first = ap (λ k. drop ((log_in s.nodes n c).digested - k) (log_in s.nodes n c).log.records) (sym first)

ahead_is : (s : StateValue) (n c : ℕ) → WorldInvariant (world_of s) → Full (world_of s) n → ahead_observed (world_of s) n c ≡ ahead (log_in s.nodes n c)
ahead_is s n c sound f = ahead_first s n c (same_first s n c sound f)

-- ---- by a client at its home

pub read_at_home : (s : StateValue) (c i : ℕ) → ShapeInvariant s → WorldInvariant (world_of s) → (world_of s).lives c ≡ true → map.get (inodes_read s c) i
    ≡ view (world_of s) ((world_of s).home c) c i
unfolding view world_of
read_at_home s c i shape sound lives = grind (arith, get-all_applied, ahead_is)

-- ---- of a full node's region alone

-- one more log, and what is replicated of it
one_more : (ls : List ReceivedLog) (acked : List ℕ) (m : ℕ) → m < length ls → m < length acked →
    all_ahead (take (suc m) ls) (take (suc m) acked) ≡ all_ahead (take m ls) (take m acked) ++ all_effects (ahead_below (get_or ls m no_log) (get_or acked m 0))
one_more [] acked m low few = absurd (omega (arith, low))
one_more (l ∷ ls) [] m low few = absurd (omega (arith, few))
one_more (l ∷ ls) (a ∷ acked) zero low few = append-nil (all_effects (ahead_below l a))
one_more (l ∷ ls) (a ∷ acked) (suc m) low few = grind (arith, append_assoc, (one_more ls acked m))

module _ (s : StateValue) (n : ℕ) (acked : List ℕ) (shape : ShapeInvariant s) (sound : WorldInvariant (world_of s)) (full : Full (world_of s) n)
    (count : length acked ≡ length s.clients)
    (received : (c : ℕ) → c < length s.clients → slice_index_or acked c 0 ≡ received_by_all (world_of s) (suc c)) where
  abbrev w : World
  w = world_of s

  abbrev ls : List ReceivedLog
  ls = (region_in s.nodes n).logs

  all_logs : length ls ≡ length s.clients
  all_logs = shape.logs n (full_seen s n full)

  same_below : (m : ℕ) → m < length s.clients → ahead_below (get_or ls m no_log) (get_or acked m 0) ≡ below_observed w n (suc m) (received_by_all w (suc m))
  unfolding below_observed world_of log_in item_at
  same_below m low = grind (arith, ahead_is)

  -- the first m clients' records give the same
  same_ahead : (m : ℕ) → m ≤ length s.clients → all_ahead (take m ls) (take m acked) ≡ all_observed w n m
  same_ahead zero few = refl
  same_ahead (suc m) few = grind (arith, all_logs, one_more, same_below, (same_ahead m))

  all_same : all_ahead ls acked ≡ all_observed w n (length s.clients)
  all_same =
      let logs : take (length s.clients) ls ≡ ls = take_all (length s.clients) ls (omega (arith, all_logs)) in
      let numbers : take (length s.clients) acked ≡ acked = take_all (length s.clients) acked (omega (arith, count)) in
      sym (λ i. all_ahead (logs i) (numbers i)) ∙ same_ahead (length s.clients) (omega arith)

  pub alone_same : (i : ℕ) → alone (region_in s.nodes n) acked i ≡ alone_observed w n i
  unfolding alone_observed world_of
  alone_same i = ap (value_after i (values (region_in s.nodes n).inodes i)) all_same
