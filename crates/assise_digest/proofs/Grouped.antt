-- The next `count` records of a client are digested together.
use Rattle.assise_digest.proofs.Common.{◌≡◌, ◌≢◌, ◌<◌, ◌+◌, ◌-◌, ℕ, true, false, List, [], ◌∷◌, ◌++◌, length, take, slice_index_or, slice_set, refl, sym, ap}
use Rattle.assise_digest.proofs.Common.{◌∙◌, take-add, append-nil, arith, get_or-map, LogRecord, InodeMap, all_applied, contains, touched, append_applied}
use Rattle.assise_digest.proofs.Common.{get-all_applied, untouched, IsNumberedLog, end, all_effects, all_effects-append, HasClient, IsBegun, IsNextGroup}
use Rattle.assise_digest.proofs.Common.{ReceivedLog, RegionValue, TouchDisjoint, ahead, digested_by, digested_further, first_effects, log_at, next_effects}
use Rattle.assise_digest.proofs.Common.{no_log, LogsInvariant, LogInvariant, seen_log, Received}
use Rattle.std.specs.FinMap as map
use Rattle.assise_private_log.specs.Borders.{group_end, whole_count}
use Rattle.assise_private_log.proofs.Shared.Borders.{border_end, is_whole, next_border}
use Rattle.assise_digest.proofs.DigestKeepsReads.{ahead_further, begun_further, quiet_prefix}
use Rattle.assise_digest.proofs.RegionLogs.{log_there, region, sound_beside, sound_others, with_one}
use Rattle.assise_digest.proofs.ReceivedLogs.{count_ahead}

-- ---- one after another

pub first_alone : (rs : List LogRecord) → all_effects (take 1 rs) ≡ first_effects rs
first_alone [] = refl
first_alone (r ∷ rs) = append-nil r.effects

-- the effects of one record more
pub effects_next : (l : ReceivedLog) (n : ℕ) → IsBegun l → all_effects (take (n + 1) (ahead l)) ≡ all_effects (take n (ahead l)) ++ next_effects
    (digested_further l n)
effects_next l n b = grind (arith, take-add, all_effects-append, first_alone, ahead_further)

-- what is left to count
pub record HasNext (l now : ReceivedLog) : Type 0 where
  pub begun : IsBegun now
  pub more : now.digested < end now.log

pub has_next : (l now : ReceivedLog) (n : ℕ) → IsBegun l → now ≡ digested_further l n → n < length (ahead l) → HasNext l now
has_next l now n b is h = grind (arith, begun_further)

pub further_none : (l : ReceivedLog) → l ≡ digested_further l 0
further_none l = let same : l.digested ≡ l.digested + 0 = omega arith in ap (λ d. record { log = l.log; digested = d; at_home = l.at_home }) same

pub further_next : (l now new : ReceivedLog) (n : ℕ) → now ≡ digested_further l n → new ≡ digested_further now 1 → new ≡ digested_further l (n + 1)
further_next l now new n is next = grind arith

pub applied_next : (m : InodeMap) (l now : ReceivedLog) (n : ℕ) → IsBegun l → now ≡ digested_further l n
    → all_applied (all_applied m (all_effects (take n (ahead l)))) (next_effects now) ≡ all_applied m (all_effects (take (n + 1) (ahead l)))
applied_next m l now n b is = grind (arith, append_applied, effects_next)

-- ---- in the region

pub digested_view_all : {hot : ℕ} (m w : InodeMap) (kept : ℕ) (xs : List Received) (r : RegionValue) (c n : ℕ) (x y : Received) → region m hot xs ≡ r →
    HasClient r c → x ≡ slice_index_or xs (c - 1) x
    → w ≡ all_applied m (all_effects (take n (ahead (seen_log x)))) → kept ≡ hot → seen_log y ≡ digested_further (seen_log x) n →
    region w kept (slice_set xs (c - 1) y) ≡ digested_by r c n
digested_view_all m w kept xs r c n x y view has at applied same step = grind (arith, log_there m xs r c x view has at, with_one m w xs r c y view)

pub digested_sound_all : {hot : ℕ} (m w : InodeMap) (xs : List Received) (r : RegionValue) (c n : ℕ) (x y : Received) → region m hot xs ≡ r → HasClient r c →
    TouchDisjoint r → LogsInvariant m xs
    → x ≡ slice_index_or xs (c - 1) x → w ≡ all_applied m (all_effects (take n (ahead (seen_log x)))) → LogInvariant w y →
    LogsInvariant w (slice_set xs (c - 1) y)
digested_sound_all m w xs r c n x y view has disjoint sound at applied here =
    sound_others m w xs (c - 1) y
    (λ j none other h.
    sound_beside m w (slice_index_or xs j none) (sound j none h)
    (λ i among. ap (λ k. map.get k i) applied ∙ get-all_applied m (all_effects (take n (ahead (seen_log x)))) i
    ∙ untouched i (map.get m i) (all_effects (take n (ahead (seen_log x)))) (quiet j none other h i among)))
    here
  where
    seen_other : (j : ℕ) (none : Received) → j < length xs → log_at r j ≡ seen_log (slice_index_or xs j none)
    seen_other j none h = sym (ap (λ s. log_at s j) view) ∙ get_or-map seen_log xs j none no_log h

    quiet : (j : ℕ) (none : Received) → j ≢ c - 1 → j < length xs → (i : ℕ) → contains (touched (all_effects (ahead (seen_log (slice_index_or xs j none))))) i
        ≡ true
        → contains (touched (all_effects (take n (ahead (seen_log x))))) i ≡ false
    quiet j none other h i among =
        let theirs : contains (touched (all_effects (ahead (log_at r j)))) i ≡ true = ap (λ l. contains (touched (all_effects (ahead l))) i)
        (seen_other j none h) ∙ among in
        let ours = disjoint j (c - 1) other i theirs in
        quiet_prefix n (ahead (seen_log x)) i (sym (ap (λ l. contains (touched (all_effects (ahead l))) i) (log_there m xs r c x view has at)) ∙ ours)

-- ---- groups

pub is_next_group : (l : ReceivedLog) (n : ℕ) → IsNumberedLog l.log → IsBegun l → l.digested < end l.log → n ≡ group_end l.log (l.digested + 1) - l.digested →
    IsNextGroup l n
is_next_group l n law b more is = grind (arith, next_border, count_ahead, border_end)

-- the next group is too long
pub none_whole : (l : ReceivedLog) (most group : ℕ) → IsNextGroup l group → most < group → whole_count l.log l.digested most ≡ 0
none_whole l most group next short = grind (arith, is_whole)

pub none_asked : (l : ReceivedLog) (most : ℕ) → most ≡ 0 → whole_count l.log l.digested most ≡ 0
none_asked l most none = let within = (is_whole l.log l.digested most).within in omega arith
