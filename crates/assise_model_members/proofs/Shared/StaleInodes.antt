-- What a node may lack while it comes back.
use Rattle.assise_model_members.proofs.Common.{◌≡◌, ◌≢◌, ◌⊎◌, ℕ, true, Some, arith, ◌↔◌, nat_cmp, contains-union, nat_cmp_total, or_cases, or_left, or_right}
use Rattle.assise_model_members.proofs.Common.{true_from_ne_false, same_Some, all_effects, touched, contains, World, undigested_below, since_of, AreMembers}
use Rattle.assise_model_members.proofs.Common.{FailsAgain, DigestsNoted, BeginsReturn, Refills, Membership, written_since, lowest_full, standing_of, down}
use Rattle.assise_model_members.proofs.Common.{returning, with_node_full}
use Rattle.std.specs.FinSet as set
use Rattle.assise_model_members.proofs.Shared.NodeStandings.{mapped_at, set_here, down_is, returning_is, noted_else, same_since, same_donor, same_stale}
use Rattle.assise_model_members.proofs.Shared.NodeChanged.{again_stands, back_is, refill_is}

pub differing_is_stale : (w : World) (m : Membership) (n since donor i : ℕ) (stale : set.FinSet nat_cmp) → AreMembers w m →
    standing_of m.nodes n ≡ Some (returning since donor stale) → w.area n i ≢ w.area donor i → set.contains stale i ≡ true
differing_is_stale w m n since donor i stale a at differ = true_from_ne_false (set.contains stale i) (λ none. differ (a.filling n since donor i stale at none))

-- ---- when it is made

pub back_stale : (w u : World) (m o : Membership) (n since : ℕ) → BeginsReturn w m n u o → since_of (standing_of m.nodes n) ≡ Some since →
    standing_of o.nodes n ≡ Some (returning since (lowest_full o.nodes) (written_since o since))
back_stale w u m o n since g at = grind (arith, down_is, same_Some, with_node_full, back_is, set_here)

pub again_down : (w u : World) (m o : Membership) (n since : ℕ) → FailsAgain w m n u o → since_of (standing_of m.nodes n) ≡ Some since →
    standing_of o.nodes n ≡ Some (down since)
again_down w u m o n since g at = grind (arith, returning_is, again_stands, set_here, same_Some)

-- ---- how it changes

pub refilled_stale : (w u : World) (m o : Membership) (n i since donor : ℕ) (stale : set.FinSet nat_cmp) → Refills w m n i u o →
    standing_of m.nodes n ≡ Some (returning since donor stale) → standing_of o.nodes n ≡ Some (returning since donor (set.remove stale i))
refilled_stale w u m o n i since donor stale g at = grind (arith, refill_is, set_here, same_since, same_donor, same_stale)

module _ (w u : World) (m o : Membership) (n c k : ℕ) (inodes : set.FinSet nat_cmp) (g : DigestsNoted w m n c k inodes u o) where
  abbrev Touches : ℕ → Type 0
  Touches i = contains (touched (all_effects (undigested_below w n c k))) i ≡ true

  both : (stale : set.FinSet nat_cmp) (i : ℕ) → set.contains (set.union stale inodes) i ≡ true ↔ (set.contains stale i ≡ true) ⊎ Touches i
  both stale i = grind (arith, or_cases, contains-union, nat_cmp_total, or_left, or_right)

  pub digested_stale : (x since : ℕ) (stale : set.FinSet nat_cmp) → standing_of m.nodes x ≡ Some (returning since n stale) →
      (new : set.FinSet nat_cmp) × ((standing_of o.nodes x ≡ Some (returning since n new)) ×
      ((i : ℕ) → set.contains new i ≡ true ↔ (set.contains stale i ≡ true) ⊎ Touches i))
  digested_stale x since stale at = (
    set.union stale inodes,
    (
        grind (arith, mapped_at, both)
        ),
  )

  pub digested_else : (x since donor : ℕ) (stale : set.FinSet nat_cmp) → standing_of m.nodes x ≡ Some (returning since donor stale) → donor ≢ n →
      standing_of o.nodes x ≡ Some (returning since donor stale)
  digested_else x since donor stale at differs = grind (arith, mapped_at, noted_else, same_Some)
