-- What holds of a log goes on when its last records give way to groups.
use Rattle.assise_digest.proofs.Common.{◌≡◌, ℕ, zero, suc, ◌+◌, ◌-◌, ◌≤◌, ◌||◌, true, is_some, Option, Some, None, option_map, List, [], ◌∷◌, ◌++◌, length}
use Rattle.assise_digest.proofs.Common.{take, drop, map, ap, sym, ◌∙◌, subst, arith, take-append-drop, IfSome, nat_cmp, drop-append-add, drop-append-le}
use Rattle.assise_digest.proofs.Common.{get_or-set_same, length-drop, length-take, Effect, LogRecord, all_marks, all_records, begun_by, coalesced_group}
use Rattle.assise_digest.proofs.Common.{groups_of, left_in, left_of, all_effects, record_of, all_effects-append, Content, InodeMap, contains, touched}
use Rattle.assise_digest.proofs.Common.{value_after, CanBeMadeWhole, ComeToSame, contains-both, value_after-append, groups_from, regrouped, NumberedLog, end}
use Rattle.assise_digest.proofs.Common.{records_from, HasAllNumbers, StandsFor, last_noted, noted_from, AreWhole, HasClient, IsBegun, ReceivedLog, RegionValue}
use Rattle.assise_digest.proofs.Common.{ahead, log_of, read_by, regrouped_from, with_log, LogInvariant, StandsHere, seen_log, Pending, Received}
use Rattle.std.specs.FinMap as map
use Rattle.std.proofs.lemmas.List.{length-append}
use Rattle.assise_inode_table.proofs.Shared.LeftWhole.{whole_left}
use Rattle.assise_private_log.proofs.Shared.LogGroups.{regrouped_all}
use Rattle.assise_digest.proofs.CoalescedLogs.{groups_come}
use Rattle.assise_digest.proofs.KeptInodes.{get-noted}
use Rattle.assise_digest.proofs.ReceivedLogs.{whole_both, whole_drop, whole_take}
use Rattle.assise_digest.proofs.RegroupedKept.{renoted}
use Rattle.assise_digest.proofs.Shared.KeptStands.{is_touched}

-- ---- numbers of records

pub has_prefix : (l : map.FinMap nat_cmp ℕ) (es fs : List Effect) → HasAllNumbers l (es ++ fs) → HasAllNumbers l es
has_prefix l es fs h i among = h i (contains-both es fs i ∙ ap (λ b. b || contains (touched fs) i) among)

pub has_others : (l : map.FinMap nat_cmp ℕ) (n : ℕ) (es fs : List Effect) → HasAllNumbers l (es ++ fs) → HasAllNumbers (last_noted l n es) fs
has_others l n es fs h i among = grind (arith, contains-both, get-noted)

-- ---- records that can be made whole

whole_one : (call : ℕ) (es : List Effect) → CanBeMadeWhole es → AreWhole (record_of call es)
whole_one call [] w = tt
whole_one call (e ∷ es) w = (w, tt)

whole_left_in : (rs : List LogRecord) → AreWhole rs → AreWhole (left_in rs)
whole_left_in [] w = tt
whole_left_in (r ∷ rs) w =
    whole_both (record_of r.call (left_of r.effects (all_effects rs))) (left_in rs)
    (whole_one r.call (left_of r.effects (all_effects rs)) (whole_left r.effects (all_effects rs) w.0)) (whole_left_in rs w.1)

whole_begun : (call : ℕ) (rs : List LogRecord) → AreWhole rs → AreWhole (begun_by call rs)
whole_begun call [] w = tt
whole_begun call (r ∷ rs) w = w

whole_groups : (n : ℕ) (rs : List LogRecord) → AreWhole rs → AreWhole (all_records (map coalesced_group (groups_of n rs)))
whole_groups zero rs w = tt
whole_groups (suc n) [] w = tt
whole_groups (suc n) (r ∷ rs) w =
    whole_both (coalesced_group (take 64 (r ∷ rs))) (all_records (map coalesced_group (groups_of n (drop 64 (r ∷ rs)))))
    (whole_begun _ (left_in (take 64 (r ∷ rs))) (whole_left_in (take 64 (r ∷ rs)) (whole_take 64 (r ∷ rs) w)))
    (whole_groups n (drop 64 (r ∷ rs)) (whole_drop 64 (r ∷ rs) w))

-- ---- the log with groups in place of its last records

module _ (x : Received) (from : ℕ) (begun : IsBegun (seen_log x)) (low : x.digested ≤ from) (high : from ≤ end x.log) where
  abbrev prefix : List LogRecord
  prefix = take (from - x.log.first) x.log.records

  abbrev groups : List LogRecord
  groups = all_records (groups_from x.log from)

  abbrev new_log : NumberedLog
  new_log = record {
    first = x.log.first;
    limit = x.log.limit;
    records = prefix ++ groups;
    begins = take (from - x.log.first) x.log.begins ++ all_marks
        (groups_from x.log from);
  }

  pub new_is : regrouped x.log from ≡ new_log
  new_is = regrouped_all x.log from

  prefix_long : length prefix ≡ from - x.log.first
  prefix_long = omega (arith, length-take (from - x.log.first) x.log.records, begun.from_first)

  pub tail_is : records_from new_log from ≡ groups
  tail_is = grind (arith, prefix_long, drop-append-add prefix groups 0)

  abbrev passed : List LogRecord
  passed = drop (x.digested - x.log.first) prefix

  ahead_new : drop (x.digested - x.log.first) (prefix ++ groups) ≡ passed ++ groups
  ahead_new = drop-append-le (x.digested - x.log.first) prefix groups (omega (arith, prefix_long))

  ahead_old : ahead (seen_log x) ≡ passed ++ records_from x.log from
  ahead_old =
      ap (drop (x.digested - x.log.first)) (sym (take-append-drop (from - x.log.first) x.log.records))
      ∙ drop-append-le (x.digested - x.log.first) prefix (records_from x.log from) (omega (arith, prefix_long))

  from_is : x.digested + length passed ≡ from
  from_is = omega (arith, length-drop (x.digested - x.log.first) prefix, prefix_long, begun.from_first)

  new_stands : (m : InodeMap) (o : Option Pending) → StandsHere m (seen_log x) o
      → StandsHere m (record { log = new_log; digested = x.digested; at_home = is_some o }) (option_map (λ p. noted_from p from groups) o)
  new_stands m None s = tt
  new_stands m (Some p) s =
      subst (StandsFor (noted_from p from groups) m x.digested) (sym ahead_new)
      (subst (λ n. StandsFor (noted_from p n groups) m x.digested (passed ++ groups)) from_is
      (renoted p m x.digested passed (records_from x.log from) groups (subst (StandsFor p m x.digested) ahead_old s) (groups_come x.log from)))

  new_begun : IsBegun (record { log = new_log; digested = x.digested; at_home = is_some x.pending })
  new_begun = record { from_first = begun.from_first; to_end = omega (arith, prefix_long, length-append prefix groups, begun.from_first) }

  sound_new : (m : InodeMap) → LogInvariant m x →
      LogInvariant m (record { log = new_log; digested = x.digested; pending = option_map (λ p. noted_from p from groups) x.pending })
  sound_new m s = record {
    begun = record { from_first = new_begun.from_first; to_end = new_begun.to_end };
    whole = grind (arith, whole_both, whole_take, whole_groups, whole_drop);
    stands = like x.pending (new_stands m x.pending s.stands);
  }
    where
      like : (o : Option Pending) → StandsHere m (record { log = new_log; digested = x.digested; at_home = is_some o })
          (option_map (λ p. noted_from p from groups) o)
          → StandsHere m (seen_log (record { log = new_log; digested = x.digested; pending = option_map (λ p. noted_from p from groups) o }))
          (option_map (λ p. noted_from p from groups) o)
      like None h = tt
      like (Some p) h = h

  -- what is sound stays so
  pub sound_regrouped : (m : InodeMap) (log : NumberedLog) (o : Option Pending) → LogInvariant m x → log ≡ regrouped x.log from →
      o ≡ option_map (λ p. noted_from p from (records_from log from)) x.pending
      → LogInvariant m (record { log = log; digested = x.digested; pending = o })
  sound_regrouped m log o s is kept = grind (arith, new_is, tail_is, sound_new m s)

  -- what the new records touch has a number
  pub has_all : (m : InodeMap) (log : NumberedLog) (p : Pending) → log ≡ regrouped x.log from → StandsFor p m x.digested (ahead (seen_log x)) →
      HasAllNumbers p.last (all_effects (records_from log from))
  has_all m log p is s i among =
      let tail : records_from log from ≡ groups = ap (λ n. records_from n from) (is ∙ new_is) ∙ tail_is in
      let stands : StandsFor p m x.digested (passed ++ records_from x.log from) = subst (StandsFor p m x.digested) ahead_old s in
      let come : ComeToSame groups (records_from x.log from) = groups_come x.log from in
      let old : contains (touched (all_effects (records_from x.log from))) i ≡ true = grind arith in
      let all : contains (touched (all_effects (passed ++ records_from x.log from))) i ≡ true
      = grind (arith, all_effects-append, contains-both) in
      ap is_some (stands.last i) ∙ is_touched x.digested (passed ++ records_from x.log from) i ∙ all

  pub all_there : (m : InodeMap) (log : NumberedLog) (o : Option Pending) → log ≡ regrouped x.log from → StandsHere m (seen_log x) o →
      IfSome o (λ p. HasAllNumbers p.last (all_effects (records_from log from)))
  all_there m log None is s = tt
  all_there m log (Some p) is s = has_all m log p is s

  -- what the client reads stays
  pub values_same : (i : ℕ) (v : Option Content) → value_after i v (all_effects (ahead (regrouped_from (seen_log x) from)))
      ≡ value_after i v (all_effects (ahead (seen_log x)))
  values_same i v = grind (
    arith,
    groups_come x.log from,
    new_is,
    ahead_new,
    all_effects-append passed groups,
    all_effects-append passed (records_from x.log from),
    value_after-append i v (all_effects passed) (all_effects groups),
    value_after-append i v (all_effects passed)
        (all_effects (records_from x.log from)),
    ahead_old,
  )

pub coalesced_read : (r : RegionValue) (c from : ℕ) → HasClient r c → IsBegun (log_of r c) → (log_of r c).digested ≤ from → from ≤ end (log_of r c).log
    → (i : ℕ) → read_by (with_log r c (regrouped_from (log_of r c) from)) c i ≡ read_by r c i
coalesced_read r c from has b low high i =
    let l : ReceivedLog = log_of r c in
    let x : Received = record { log = l.log; digested = l.digested; pending = None } in
    let begun : IsBegun (seen_log x) = record { from_first = b.from_first; to_end = b.to_end } in
    let here : log_of (with_log r c (regrouped_from l from)) c ≡ regrouped_from l from = grind (arith, get_or-set_same) in
    ap (λ k. value_after i (map.get r.inodes i) (all_effects (ahead k))) here
    ∙ values_same x from begun low high i (map.get r.inodes i)
