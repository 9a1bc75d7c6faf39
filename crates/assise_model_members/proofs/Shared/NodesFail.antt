-- Nodes fail.
use Rattle.assise_model_members.proofs.Common.{◌≡◌, ◌≢◌, inl, inr, ℕ, ◌+◌, ◌-◌, ◌≤◌, true, false, cond, Some, None, refl, sym, ap, ◌∙◌, subst, take, drop}
use Rattle.assise_model_members.proofs.Common.{arith, ◌==◌, filter, option_map, nat_cmp, cases_eq, cases_Bool, or_cases, or_left, or_right, both_ways}
use Rattle.assise_model_members.proofs.Common.{false_from_ne_true, same_Some, all_effects, touched, contains, Fails, kept_at_failure, World, Full}
use Rattle.assise_model_members.proofs.Common.{received_by_all, records_between, contains-take, take-of_take, since_of, AreMembers, FailsWithMembers, failed_as}
use Rattle.assise_model_members.proofs.Common.{with_epoch, with_new_donor, refilled_from, donor_of, stale_of, Membership, IsMembership, written_since}
use Rattle.assise_model_members.proofs.Common.{lowest_full, standing_of, full, down, returning, failed_lawful, donor_full}
use Rattle.std.specs.Prelude.{Bool, List, ◌∷◌, []}
use Rattle.std.specs.FinSet as set
use Rattle.assise_model_world.specs.Invariant.{WorldInvariant}
use Rattle.assise_model_world.proofs.Shared.AreasAgree.{same_areas}
use Rattle.assise_model_world.proofs.Shared.WorldObserved.{least_of-above, received_by_all-below, received_by_all-end}
use Rattle.assise_model_members.proofs.Shared.NodeStandings.{mapped_at, set_here, set_else, lowest_stands}
use Rattle.assise_model_members.proofs.Shared.NodeStandings.{may_fail_beside, away_not_full, cases_donor, full_no_donor}
use Rattle.assise_model_members.proofs.Shared.NodeStandings.{filled_from, refilled_here, refilled_else, same_lowest, same_donor}
use Rattle.assise_model_members.proofs.Written.{outside, still_written, now_written}

-- ---- what is kept

contains-filter : (p : ℕ → Bool) (ns : List ℕ) (k : ℕ) → contains (filter p ns) k ≡ true → contains ns k ≡ true
contains-filter p [] k h = h
contains-filter p (n ∷ ns) k h =
    elim (cases_Bool (p n)) [
      | inl is ↦
          elim (or_cases (n == k) (contains (filter p ns) k) (subst (λ b. contains (cond b (n ∷ filter p ns) (filter p ns)) k ≡ true) is h)) [
            | inl here ↦ or_left (n == k) (contains ns k) here
            | inr there ↦ or_right (n == k) (contains ns k) (contains-filter p ns k there)
          ]
      | inr past ↦
          or_right (n == k) (contains ns k)
          (contains-filter p ns k (subst (λ b. contains (cond b (n ∷ filter p ns) (filter p ns)) k ≡ true) past h))
    ]

-- no record that all full nodes have is cut
kept_is_high : (w : World) (n c : ℕ) → received_by_all w c ≤ kept_at_failure w n c
unfolding kept_at_failure
kept_is_high w n c = grind (arith, cases_Bool, least_of-above, received_by_all-end, received_by_all-below, contains-filter)

-- what no record touches that is kept, none touches that all full nodes have
untouched : (w v : World) (n i : ℕ) → Fails w n v → ((c : ℕ) → contains (touched (all_effects (v.records c))) i ≡ false) →
    (c : ℕ) → contains (touched (all_effects (records_between w c (w.first c) (received_by_all w c)))) i ≡ false
unfolding records_between
untouched w v n i f none c =
    false_from_ne_true (contains (touched (all_effects (records_between w c (w.first c) (received_by_all w c)))) i)
    (λ h. both_ways (contains (touched (all_effects (v.records c))) i) (none c)
    (subst (λ rs. contains (touched (all_effects rs)) i ≡ true) (sym (f.records c))
    (contains-take (records_between w c (w.first c) (kept_at_failure w n c)) (received_by_all w c - w.first c) i
    (subst (λ rs. contains (touched (all_effects rs)) i ≡ true) (sym shorter) h))))
  where
    shorter : take (received_by_all w c - w.first c) (records_between w c (w.first c) (kept_at_failure w n c)) ≡ records_between w c (w.first c)
        (received_by_all w c)
    shorter =
        take-of_take (drop (w.first c - w.first c) (w.records c)) 0 (received_by_all w c - w.first c) (kept_at_failure w n c - w.first c)
        (omega (arith, kept_is_high w n c))

-- ---- a full node fails

module _ (w v u : World) (m m' : Membership) (n : ℕ) (inodes : set.FinSet nat_cmp) (s : WorldInvariant w) (a : AreMembers w m)
    (g : FailsWithMembers w m n inodes v u m') where
  abbrev begun : Membership
  begun = with_epoch m n inodes

  abbrev after : Membership
  after = with_new_donor begun n

  abbrev low : ℕ
  low = lowest_full begun.nodes

  same_low : lowest_full after.nodes ≡ low
  same_low = same_lowest (written_since begun) low n begun.nodes

  stood : standing_of m.nodes n ≡ Some full
  stood = a.full_nodes n g.fails.full_node

  is_after : m' ≡ after
  is_after = g.members ∙ ap (failed_as m n inodes) stood

  fail_lawful : IsMembership m'
  fail_lawful = grind (arith, failed_lawful, may_fail_beside)

  lawful_after : IsMembership after
  lawful_after = subst IsMembership is_after fail_lawful

  -- how nodes stand then
  own : standing_of after.nodes n ≡ Some (down (m.epoch + 1))
  own = grind (arith, mapped_at, set_here)

  other : (k : ℕ) → k ≢ n → standing_of after.nodes k ≡ option_map (refilled_from (written_since begun) low n) (standing_of m.nodes k)
  other k differs = mapped_at (refilled_from (written_since begun) low n) begun.nodes k ∙ ap (option_map (refilled_from (written_since begun) low n))
      (set_else m.nodes n k full (down (m.epoch + 1)) stood differs)

  kept_stands : (k : ℕ) → k ≢ n → donor_of (standing_of m.nodes k) ≢ Some n → standing_of after.nodes k ≡ standing_of m.nodes k
  kept_stands k differs from = other k differs ∙ refilled_else (written_since begun) low n (standing_of m.nodes k) from

  over_stands : (k since : ℕ) (stale : set.FinSet nat_cmp) → k ≢ n → standing_of m.nodes k ≡ Some (returning since n stale) →
      standing_of after.nodes k ≡ Some (returning since low (written_since after since))
  over_stands k since stale differs at = other k differs ∙ refilled_here (written_since begun) low n since stale (standing_of m.nodes k) at

  not_own : (k since : ℕ) (stale : set.FinSet nat_cmp) → standing_of m.nodes k ≡ Some (returning since n stale) → k ≢ n
  not_own k since stale at is = away_not_full (standing_of m.nodes k) since (ap since_of at) (subst (λ k. standing_of m.nodes k ≡ Some full) (sym is) stood)

  since_before : (k e : ℕ) → k ≢ n → since_of (standing_of after.nodes k) ≡ Some e → since_of (standing_of m.nodes k) ≡ Some e
  since_before k e differs at = grind (arith, cases_donor, filled_from, over_stands, kept_stands)

  full_before : (k : ℕ) → standing_of after.nodes k ≡ Some full → (k ≢ n) × (standing_of m.nodes k ≡ Some full)
  full_before k at = grind (arith, cases_eq, away_not_full, own, cases_donor, filled_from, over_stands, kept_stands)

  full_world : (k : ℕ) → Full u k → Full w k × (k ≢ n)
  full_world k f = grind arith

  world_full : (k : ℕ) → Full w k → k ≢ n → Full u k
  world_full k f differs = subst (λ ns. contains ns k ≡ true) (sym g.rests.nodes.full) (g.fails.others k f differs)

  -- areas
  area_full : (k i : ℕ) → Full w k → u.area k i ≡ w.area k i
  area_full k i f = g.area_else k i (full_no_donor (standing_of m.nodes k) n (a.full_nodes k f))

  fewer : (e i : ℕ) → set.contains (written_since after e) i ≡ false → set.contains (written_since m e) i ≡ false
  fewer e i none = outside (written_since m e) (written_since after e) (still_written m after inodes refl refl e) i none

  -- what isn't on the new epoch's list, the failed node has as each that stays
  failed_same : (k i : ℕ) → Full w k → set.contains (written_since after (m.epoch + 1)) i ≡ false → w.area n i ≡ w.area k i
  failed_same k i f none =
      same_areas w n k i s.coherent g.fails.full_node f
      (untouched w v n i g.fails (λ c. false_from_ne_true (contains (touched (all_effects (v.records c))) i)
      (λ h. both_ways (set.contains inodes i)
      (outside inodes (written_since after (m.epoch + 1)) (now_written m after inodes refl refl a.lawful.lists) i none) (g.touched_all c i h))))

  -- outside the lists the areas of nodes that weren't full stay
  area_due : (k e i : ℕ) → k ≢ n → since_of (standing_of m.nodes k) ≡ Some e → set.contains (written_since after e) i ≡ false → u.area k i ≡ w.area k i
  area_due k e i differs at none =
      elim (cases_donor (donor_of (standing_of m.nodes k)) n) [
        | inl lost ↦
            let (since, stale, is) = filled_from (standing_of m.nodes k) n lost in
            let same : e ≡ since = same_Some e since (sym at ∙ ap since_of is) in
            g.over k (written_since after since) lost (ap (λ o. stale_of (standing_of o.nodes k)) is_after ∙ ap stale_of (over_stands k since stale differs is))
            i
            ∙ ap (λ b. cond b None (w.area k i)) (subst (λ e. set.contains (written_since after e) i ≡ false) same none)
        | inr from ↦ g.area_else k i from
      ]

  due : (k e f i : ℕ) → since_of (standing_of after.nodes k) ≡ Some e → Full u f → set.contains (written_since after e) i ≡ false → u.area k i ≡ u.area f i
  due k e f i at ff none =
      let before : Full w f = (full_world f ff).0 in
      elim (cases_eq k n) [
        | inl is ↦
            grind (arith, own, failed_same)
        | inr differs ↦
            grind (arith, since_before k e differs at, area_due, fewer e i none)
      ]

  low_full : Full u low
  low_full = grind (arith, lowest_stands after.nodes lawful_after.some_full, same_low, full_before)

  filling : (k since donor i : ℕ) (stale : set.FinSet nat_cmp) → standing_of after.nodes k ≡ Some (returning since donor stale) →
      set.contains stale i ≡ false → u.area k i ≡ u.area donor i
  filling k since donor i stale at none =
      elim (cases_eq k n) [
        | inl is ↦ grind (arith, own)
        | inr differs ↦ elim (cases_donor (donor_of (standing_of m.nodes k)) n) [
          | inl lost ↦
              let (first, old, is) = filled_from (standing_of m.nodes k) n lost in
              let stands : standing_of after.nodes k ≡ Some (returning first low (written_since after first)) = over_stands k first old differs is in
              due k first donor i (ap since_of stands)
              (subst (Full u) (same_donor (standing_of after.nodes k) first since low donor (written_since after first) stale stands at) low_full)
              (grind arith)
          | inr from ↦
              let before : standing_of m.nodes k ≡ Some (returning since donor stale) = sym (kept_stands k differs from) ∙ at in
              g.area_else k i from ∙ a.filling k since donor i stale before none
              ∙ sym (area_full donor i (a.nodes_full donor (donor_full m k since donor stale a.lawful before)))
        ]
      ]

  keeps_after : AreMembers u after
  keeps_after = grind (arith, lawful_after, full_world, kept_stands, full_no_donor, full_before, world_full, due, filling)

  pub fail_keeps : AreMembers u m'
  fail_keeps = subst (AreMembers u) (sym is_after) keeps_after

  -- who was filled from the failed node
  pub fail_over : (k since : ℕ) (stale : set.FinSet nat_cmp) → standing_of m.nodes k ≡ Some (returning since n stale) →
      standing_of m'.nodes k ≡ Some (returning since (lowest_full m'.nodes) (written_since m' since))
  fail_over k since stale at = grind (arith, is_after, over_stands, not_own, same_low)
