-- Records that are cut into groups, each of which is coalesced, give way to records with the same net effect.
use Rattle.assise_model_world.proofs.Common.{◌≡◌, ℕ, ◌+◌, ◌-◌, ◌≤◌, true, List, length, take, drop, refl, ap, ◌∙◌, arith, length-drop, drop-append-add}
use Rattle.assise_model_world.proofs.Common.{LogRecord, all_effects, call_of, Ascending, touched, contains, SameNetEffect, Coalesces, WorldInvariant}
use Rattle.assise_model_world.proofs.Common.{AreDropped, World, end_of_log, records_between, call_at}
use Rattle.std.proofs.lemmas.List.{length-take}
use Rattle.assise_record.specs.Groups.{all_records, all_coalesced, are_whole, were}
use Rattle.assise_record.proofs.Shared.WholeGroups.{whole_none, whole-all, were-none, were-ascends, were-all, calls_same, at-past, all-ascending, all-shorter}
use Rattle.assise_inode_table.proofs.Shared.Grouped.{ComeToSame, parts_same}
use Rattle.assise_model_world.specs.Regrouped.{Regroups}
use Rattle.assise_model_world.proofs.Shared.CoalescedTail.{coalesce_sound, coalesce_dropped}
use Rattle.assise_model_world.proofs.Shared.Logs.{length-both, take-all, at-drop, ascending-drop, drop-of_drop}
use Rattle.assise_model_world.proofs.Shared.WorldObserved.{end_is, first-received_by_all}

between_is : (w : World) (c j k : ℕ) → records_between w c j k ≡ take (k - j) (drop (j - w.first c) (w.records c))
unfolding records_between
between_is w c j k = refl

call_is : (w : World) (c k : ℕ) → call_at w c k ≡ call_of (w.records c) (k - w.first c) (w.next c)
unfolding call_at
call_is w c k = refl

module _ (w u : World) (c s : ℕ) (gs : List (List LogRecord)) (h : WorldInvariant w) (e : Regroups w c s gs u) where
  new : List LogRecord
  new = all_coalesced gs

  rs : List LogRecord
  rs = w.records c

  n : ℕ
  n = s - w.first c

  was : ℕ → ℕ
  was k = s + were gs (k - s)

  low : w.first c ≤ s
  low = omega (arith, first-received_by_all w h.coherent c, e.tail.low)

  -- each record from s on is a group by itself
  single : (k : ℕ) → s ≤ k → k ≤ end_of_log w c → w.border c k ≡ true
  single k from to = h.single c k e.tail.lives (omega (arith, low, from)) (omega (arith, e.goal, from)) to

  prefix : length (take n rs) ≡ n
  unfolding n rs
  prefix = omega (arith, length-take (s - w.first c) (w.records c), low, e.tail.high, end_is w c)

  end_new : end_of_log u c ≡ s + length new
  unfolding n rs new
  end_new = grind (arith, end_is, length-both, prefix, low)

  -- the old records from s on are those of the groups
  olds : all_records gs ≡ drop n rs
  unfolding n rs
  olds = grind (arith, between_is, take-all, length-drop, end_is)

  count : length (all_records gs) ≡ end_of_log w c - s
  unfolding n rs
  count = ap length olds ∙ omega (arith, length-drop (s - w.first c) (w.records c), low, e.tail.high, end_is w c)

  was_here : was s ≡ s
  unfolding was
  was_here = (let none : s - s ≡ 0 = omega arith in ap (λ k. s + were gs k) none ∙ ap (λ k. s + k) (were-none gs e.groups) ∙ omega arith)

  was_end : was (end_of_log u c) ≡ end_of_log w c
  unfolding was new
  was_end =
      (let all : end_of_log u c - s ≡ length (all_coalesced gs) = omega (arith, end_new) in
      ap (λ k. s + were gs k) all ∙ ap (λ k. s + k) (were-all gs) ∙ omega (arith, count, e.tail.high))

  was_ascends : (j k : ℕ) → j ≤ k → was j ≤ was k
  unfolding was
  was_ascends j k le = omega (arith, were-ascends gs (j - s) (k - s) (omega (arith, le)))

  was_from : (k : ℕ) → s ≤ was k
  unfolding was
  was_from k = omega arith

  -- a border is one of whole groups
  whole : (k : ℕ) → s ≤ k → k ≤ end_of_log u c → u.border c k ≡ true → are_whole gs (k - s) ≡ true
  unfolding new
  whole k from to bk = grind (arith, end_new)

  new_part : (j k : ℕ) → s ≤ j → records_between u c j k ≡ take ((k - s) - (j - s)) (drop (j - s) new)
  unfolding n rs new
  new_part j k from = grind (arith, low, prefix, between_is, drop-append-add)

  old_part : (j k : ℕ) → records_between w c (was j) (was k) ≡ take (were gs (k - s) - were gs (j - s)) (drop (were gs (j - s)) (all_records gs))
  unfolding n rs was
  old_part j k = grind (arith, low, between_is, drop-of_drop, olds)

  same : (j k : ℕ) → u.border c j ≡ true → u.border c k ≡ true → s ≤ j → j ≤ k → k ≤ end_of_log u c →
      ComeToSame (records_between u c j k) (records_between w c (was j) (was k))
  unfolding new
  same j k bj bk from le to = grind (
    arith,
    new_part j k from,
    old_part j k,
    parts_same gs (j - s) (k - s) e.groups (whole j from (omega (arith, le, to)) bj)
        (whole k (omega (arith, from, le)) to bk) (omega (arith, le)),
  )

  same_call : (k : ℕ) → s ≤ k → k ≤ end_of_log u c → u.border c k ≡ true → call_at u c k ≡ call_at w c (was k)
  unfolding n rs new was
  same_call k from to bk = search (prefix, call_is, at-past, calls_same, whole, olds, at-drop, arith) parts 3

  begins : call_of new 0 (w.next c) ≡ call_at w c s
  unfolding n rs new
  begins = grind (arith, calls_same, whole_none, were-none, olds, at-drop, call_is)

  ascending : Ascending new (w.next c)
  unfolding n rs new
  ascending = grind (arith, all-ascending, olds, ascending-drop)

  no_more : end_of_log u c ≤ end_of_log w c
  unfolding new
  no_more = omega (arith, end_new, count, all-shorter gs, e.tail.high)

  border_end : u.border c (end_of_log u c) ≡ true
  unfolding new
  border_end = ap (u.border c) end_new ∙ e.border_new (length (all_coalesced gs)) (omega arith) ∙ whole-all gs

  regrouped : Coalesces w c s new was u
  unfolding new
  regrouped =
      let here : w.border c s ≡ true = single s (omega arith) e.tail.high in
      let border : (k : ℕ) → s ≤ k → k ≤ end_of_log u c → u.border c k ≡ true → w.border c (was k) ≡ true =
      grind (arith, was_from, was_ascends, was_end) in
      let net : (j k : ℕ) → u.border c j ≡ true → u.border c k ≡ true → s ≤ j → j ≤ k → k ≤ end_of_log u c →
      SameNetEffect (all_effects (records_between u c j k)) (all_effects (records_between w c (was j) (was k))) =
      grind (arith, same) in
      let touch : (i j k : ℕ) → u.border c j ≡ true → u.border c k ≡ true → s ≤ j → j ≤ k → k ≤ end_of_log u c →
      contains (touched (all_effects (records_between u c j k))) i ≡ contains (touched (all_effects (records_between w c (was j) (was k)))) i =
      grind (arith, same) in
      search (here, border, net, touch, was_here, was_end, was_ascends, same_call, begins, ascending, no_more, border_end) parts 1

  pub regroups_to : (f : ℕ → ℕ) × Coalesces w c s (all_coalesced gs) f u
  unfolding new
  regroups_to = (was, regrouped)

  pub regroup_sound : WorldInvariant u
  regroup_sound = (let (f, t) = regroups_to in coalesce_sound w u c s (all_coalesced gs) f h t)

  pub regroup_dropped : AreDropped w → AreDropped u
  regroup_dropped d = (let (f, t) = regroups_to in coalesce_dropped w u c s (all_coalesced gs) f h d t)
