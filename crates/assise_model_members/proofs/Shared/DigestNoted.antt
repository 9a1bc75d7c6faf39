-- A digest at a full node, what leaves all areas, and the start.
use Rattle.assise_model_members.proofs.Common.{◌≡◌, ◌≢◌, inl, inr, ℕ, ◌<◌, true, false, Some, sym, ap, ◌∙◌, subst, arith, option_map, nat_cmp, contains-union}
use Rattle.assise_model_members.proofs.Common.{nat_cmp_total, cases_eq, cases_Bool, both_ways, contains, World, Full, since_of, AreMembers, OtherAreasStay}
use Rattle.assise_model_members.proofs.Common.{KeepsAreas, DigestsNoted, fulls, all_full, noted, stale_again, donor_of, Membership, written_since, standing_of}
use Rattle.assise_model_members.proofs.Common.{full_nodes, full, returning, noted_lawful, all_full_lawful}
use Rattle.std.specs.FinSet as set
use Rattle.assise_inode_table.proofs.Shared.EffectValues.{untouched}
use Rattle.assise_model_world.specs.Runs.{begun}
use Rattle.assise_model_members.proofs.Shared.NodeStandings.{mapped_at, full_listed, listed_full, away_not_full}
use Rattle.assise_model_members.proofs.Shared.NodeStandings.{cases_donor, filled_from, since_listed, noted_here}
use Rattle.assise_model_members.proofs.Shared.NodeStandings.{noted_else, same_donor}
use Rattle.assise_model_members.proofs.Written.{outside, noted_still, noted_now}

-- ---- a digest

module _ (w u : World) (m m' : Membership) (n c p : ℕ) (inodes : set.FinSet nat_cmp) (a : AreMembers w m) (g : DigestsNoted w m n c p inodes u m') where
  abbrev after : Membership
  after = noted m n inodes

  -- how nodes stand then
  noted_stands : (k : ℕ) → standing_of after.nodes k ≡ option_map (stale_again n inodes) (standing_of m.nodes k)
  noted_stands k = mapped_at (stale_again n inodes) m.nodes k

  kept_stands : (k : ℕ) → donor_of (standing_of m.nodes k) ≢ Some n → standing_of after.nodes k ≡ standing_of m.nodes k
  kept_stands k from = noted_stands k ∙ noted_else n inodes (standing_of m.nodes k) from

  again_stands : (k since : ℕ) (stale : set.FinSet nat_cmp) → standing_of m.nodes k ≡ Some (returning since n stale) →
      standing_of after.nodes k ≡ Some (returning since n (set.union stale inodes))
  again_stands k since stale at = noted_stands k ∙ noted_here n since inodes stale (standing_of m.nodes k) at

  since_same : (k : ℕ) → since_of (standing_of after.nodes k) ≡ since_of (standing_of m.nodes k)
  since_same k = grind (arith, cases_donor, filled_from, again_stands, kept_stands)

  full_before : (k : ℕ) → standing_of after.nodes k ≡ Some full → standing_of m.nodes k ≡ Some full
  full_before k at = grind (arith, cases_donor, filled_from, away_not_full, again_stands, kept_stands)

  was_full : (k : ℕ) → Full u k → Full w k
  was_full k f = subst (λ ns. contains ns k ≡ true) g.digests.full f

  -- areas
  area_away : (k e i : ℕ) → since_of (standing_of m.nodes k) ≡ Some e → u.area k i ≡ w.area k i
  area_away k e i at = g.others k i (λ f. away_not_full (standing_of m.nodes k) e at (a.full_nodes k f))

  area_quiet : (k i : ℕ) → Full w k → set.contains inodes i ≡ false → u.area k i ≡ w.area k i
  area_quiet k i f none = grind (arith, cases_eq, untouched)

  due : (k e f i : ℕ) → since_of (standing_of after.nodes k) ≡ Some e → Full u f → set.contains (written_since after e) i ≡ false → u.area k i ≡ u.area f i
  due k e f i at ff none =
      let old : since_of (standing_of m.nodes k) ≡ Some e = sym (since_same k) ∙ at in
      let quiet : set.contains inodes i ≡ false = outside inodes (written_since after e) (noted_now m n inodes e (since_listed m k e a.lawful old)) i none in
      let before : Full w f = was_full f ff in
      area_away k e i old ∙ a.due k e f i old before (outside (written_since m e) (written_since after e) (noted_still m n inodes e) i none)
      ∙ sym (area_quiet f i before quiet)

  filling : (k since donor i : ℕ) (stale : set.FinSet nat_cmp) → standing_of after.nodes k ≡ Some (returning since donor stale) →
      set.contains stale i ≡ false → u.area k i ≡ u.area donor i
  filling k since donor i stale at none =
      elim (cases_donor (donor_of (standing_of m.nodes k)) n) [
        | inl here ↦
            let (first, old, is) = filled_from (standing_of m.nodes k) n here in
            let stands : standing_of after.nodes k ≡ Some (returning first n (set.union old inodes)) = again_stands k first old is in
            let both : (set.contains old i ≡ false) × (set.contains inodes i ≡ false) = grind (arith, contains-union, nat_cmp_total) in
            area_away k first i (ap since_of is) ∙ a.filling k first n i old is both.0 ∙ sym (area_quiet n i g.digests.full_node both.1)
            ∙ ap (λ d. u.area d i) (same_donor (standing_of after.nodes k) first since n donor (set.union old inodes) stale stands at)
        | inr from ↦
            let before : standing_of m.nodes k ≡ Some (returning since donor stale) = sym (kept_stands k from) ∙ at in
            area_away k since i (ap since_of before) ∙ a.filling k since donor i stale before none
            ∙ sym (grind arith)
      ]

  pub digest_keeps : AreMembers u m'
  digest_keeps = grind (arith, noted_lawful m n inodes a.lawful, kept_stands, full_before, due, filling)

-- ---- what leaves full nodes and areas

pub areas_keep : (w u : World) (m : Membership) → AreMembers w m → KeepsAreas w u → AreMembers u m
areas_keep w u m a g = grind (arith, due, filling)

pub keeps_areas : (w u : World) → u.full ≡ w.full → ((k i : ℕ) → Full w k → u.area k i ≡ w.area k i) → OtherAreasStay w u → KeepsAreas w u
keeps_areas w u same areas others = grind (arith, cases_Bool, both_ways)

-- ---- the start

pub members_begin : (count : ℕ) → 0 < count → AreMembers (begun (full_nodes (fulls count))) (all_full count)
members_begin count some = grind (arith, all_full_lawful count some, listed_full, full_listed)
