-- Copies of inodes that a node loses: what is left of the state, and what the laws observe of it.
use Rattle.assise_machine_failures.proofs.Common.{◌≡◌, ◌≢◌, ℕ, ◌≤◌, Bool, true, false, if◌then◌else◌, List, [], ◌∷◌, length, Option, Some, None, inl, inr, refl}
use Rattle.assise_machine_failures.proofs.Common.{ap, sym, subst, ◌∙◌, arith, true≢false, nat_cmp, contains-from_list_nat, cases_eq, ne_eqb, same_Some, Content}
use Rattle.assise_machine_failures.proofs.Common.{contains, IsQuiet, RegionValue, with_inode, is_returning, stale_of, Standing, standing_of, Rests, Full, World}
use Rattle.assise_machine_failures.proofs.Common.{LosesCopies, after_inode, hot_capacities, region_in, with_region, is_full_in, stands_full, world_of, IsNumber}
use Rattle.assise_machine_failures.proofs.Common.{ShapeInvariant, StateValue, standings, full_seen, node_number, region_keeps, inode_else, inode_here}
use Rattle.assise_machine_failures.proofs.Common.{inode_rests, inode_shaped, region_here, length-with, LosesStale, nodes_without, without_copies}
use Rattle.std.specs.FinSet as set

-- ---- one rest after another

pub rests_still : (w : World) → Rests w w
rests_still w = assumption

pub rests_more : (u v w : World) → Rests u v → Rests v w → Rests u w
rests_more u v w e f = grind arith

-- ---- nothing changes but the nodes

pub without_is : (s : StateValue) (n : ℕ) (inodes : List ℕ) → without_copies s n inodes ≡ record s { nodes = nodes_without s.nodes n inodes }
without_is s n [] = refl
without_is s n (i ∷ inodes) = without_is (after_inode s n i None) n inodes

-- ---- the node as the code has it

module _ (rs : List RegionValue) (n i : ℕ) (there : IsNumber rs n) where
  abbrev changed : RegionValue
  changed = with_inode (region_in rs n) i None

  pub one_number : IsNumber (with_region rs n changed) n
  one_number = record { some = there.some; there = subst (λ k. n ≤ k) (sym (length-with rs n changed)) there.there }

  -- it has no logs still
  pub one_logless : (region_in rs n).logs ≡ [] → (region_in (with_region rs n changed) n).logs ≡ []
  one_logless none = ap (λ r. r.logs) (region_here rs n changed there) ∙ none

-- where there are no logs, no record touches anything
pub logless_quiet : (r : RegionValue) (i : ℕ) → r.logs ≡ [] → IsQuiet r i
logless_quiet r i none k home = grind arith

-- ---- what the laws observe

same_count : (s : StateValue) (n i : ℕ) → length (after_inode s n i None).nodes ≡ length s.nodes
same_count s n i = length-with s.nodes n (with_inode (region_in s.nodes n) i None)

still_number : (s : StateValue) (n i : ℕ) → IsNumber s.nodes n → IsNumber (after_inode s n i None).nodes n
still_number s n i there = record { some = there.some; there = subst (λ k. n ≤ k) (sym (same_count s n i)) there.there }

still_away : (s : StateValue) (n i : ℕ) → IsNumber s.nodes n → (Full (world_of s) n → ⊥) → Full (world_of (after_inode s n i None)) n → ⊥
still_away s n i there away then_full = away (subst (λ ns. contains ns n ≡ true) (inode_rests s n i None there away).nodes.full then_full)

pub without_count : (s : StateValue) (n : ℕ) (inodes : List ℕ) → length (without_copies s n inodes).nodes ≡ length s.nodes
without_count s n [] = refl
without_count s n (i ∷ inodes) = without_count (after_inode s n i None) n inodes ∙ same_count s n i

without_hot : (s : StateValue) (n : ℕ) (inodes : List ℕ) → hot_capacities (without_copies s n inodes).nodes ≡ hot_capacities s.nodes
without_hot s n [] = refl
without_hot s n (i ∷ inodes) = without_hot (after_inode s n i None) n inodes ∙ region_keeps s.nodes n (with_inode (region_in s.nodes n) i None) refl

pub without_shaped : (s : StateValue) (n : ℕ) (inodes : List ℕ) → ShapeInvariant s → IsNumber s.nodes n → ShapeInvariant (without_copies s n inodes)
without_shaped s n [] shape there = shape
without_shaped s n (i ∷ inodes) shape there = without_shaped (after_inode s n i None) n inodes (inode_shaped s n i None shape there) (still_number s n i there)

pub without_rests : (s : StateValue) (n : ℕ) (inodes : List ℕ) → IsNumber s.nodes n → (Full (world_of s) n → ⊥) →
    Rests (world_of s) (world_of (without_copies s n inodes))
without_rests s n [] there away = rests_still (world_of s)
without_rests s n (i ∷ inodes) there away =
    let t : StateValue = after_inode s n i None in
    rests_more (world_of s) (world_of t) (world_of (without_copies t n inodes)) (inode_rests s n i None there away)
    (without_rests t n inodes (still_number s n i there) (still_away s n i there away))

pub without_else : (s : StateValue) (n : ℕ) (inodes : List ℕ) → IsNumber s.nodes n → (k j : ℕ) → k ≢ n → (world_of (without_copies s n inodes)).area k j
    ≡ (world_of s).area k j
without_else s n [] there k j other = refl
without_else s n (i ∷ inodes) there k j other =
    without_else (after_inode s n i None) n inodes (still_number s n i there) k j other
    ∙ inode_else s n i None there k j (λ is same. other is)

-- one more is gone
gone_either : (later : Bool) (now : Option Content) → now ≡ None → (if later then None else now) ≡ None
gone_either later now none = grind arith

gone_here : (s : StateValue) (n : ℕ) (inodes : List ℕ) → IsNumber s.nodes n → (j : ℕ) → (world_of (without_copies s n inodes)).area n j
    ≡ (if contains inodes j then None else (world_of s).area n j)
gone_here s n [] there j = refl
gone_here s n (i ∷ inodes) there j =
    let t : StateValue = after_inode s n i None in
    gone_here t n inodes (still_number s n i there) j
    ∙ elim (cases_eq j i) [
      | inl is ↦
          grind (arith, inode_here s n i None there)
      | inr other ↦
          rw (ne_eqb i j (λ is. other (sym is)))
          (ap (λ v. if contains inodes j then None else v) (inode_else s n i None there n j (λ is same. other same)))
    ]

pub without_here : (s : StateValue) (n : ℕ) (inodes : List ℕ) → IsNumber s.nodes n → LosesCopies (world_of s) (world_of (without_copies s n inodes)) n
    (set.from_list inodes)
without_here s n inodes there j = grind (arith, gone_here, contains-from_list_nat)

-- ---- a node that comes back

returning_stands : (o : Option Standing) → is_returning o ≡ true → (x : Standing) × ((o ≡ Some x) × (stands_full o ≡ false))
returning_stands o is = grind arith

pub returning_number : (s : StateValue) (n : ℕ) → ShapeInvariant s → is_returning (standing_of (standings s) n) ≡ true → IsNumber s.nodes n
returning_number s n shape is = (let x = returning_stands (standing_of (standings s) n) is in node_number s n x.0 shape x.1.0)

pub returning_away : (s : StateValue) (n : ℕ) → is_returning (standing_of (standings s) n) ≡ true → is_full_in (standings s) n ≡ false
unfolding is_full_in
returning_away s n is = (returning_stands (standing_of (standings s) n) is).1.1

pub not_full : (s : StateValue) (n : ℕ) → is_full_in (standings s) n ≡ false → Full (world_of s) n → ⊥
not_full s n away f = true≢false (sym (full_seen s n f) ∙ away)

pub returning_logless : (s : StateValue) (n : ℕ) → ShapeInvariant s → is_returning (standing_of (standings s) n) ≡ true → (region_in s.nodes n).logs ≡ []
returning_logless s n shape is = shape.no_logs n (returning_away s n is)

pub loses : (s : StateValue) (n : ℕ) (inodes : List ℕ) (rs : List RegionValue) → stale_of (standing_of (standings s) n) ≡ Some (set.from_list inodes) →
    rs ≡ nodes_without s.nodes n inodes →
    LosesStale s n (record s { nodes = rs })
loses s n inodes rs lacks is = record { inodes = inodes; stale = lacks; copies = (λ i. record s { nodes = is i }) ∙ sym (without_is s n inodes) }

-- what it lost then
module _ (s : StateValue) (n : ℕ) (u : StateValue) (shape : ShapeInvariant s) (is : is_returning (standing_of (standings s) n) ≡ true) (lost : LosesStale s n u)
  where
    there : IsNumber s.nodes n
    there = returning_number s n shape is

    -- of the state nothing changes but the nodes
    pub lost_is : u ≡ record s { nodes = u.nodes }
    lost_is = (let is : u ≡ record s { nodes = nodes_without s.nodes n lost.inodes } = lost.copies ∙ without_is s n lost.inodes in
        is ∙ (λ i. record s { nodes = (sym is i).nodes }))

    pub lost_count : length u.nodes ≡ length s.nodes
    lost_count = ap (λ v. length v.nodes) lost.copies ∙ without_count s n lost.inodes

    pub lost_hot : hot_capacities u.nodes ≡ hot_capacities s.nodes
    lost_hot = ap (λ v. hot_capacities v.nodes) lost.copies ∙ without_hot s n lost.inodes

    pub lost_rests : Rests (world_of s) (world_of u)
    lost_rests = subst (λ v. Rests (world_of s) (world_of v)) (sym lost.copies) (without_rests s n lost.inodes there (not_full s n (returning_away s n is)))

    pub lost_shaped : ShapeInvariant u
    lost_shaped = subst ShapeInvariant (sym lost.copies) (without_shaped s n lost.inodes shape there)

    pub lost_here : (stale : set.FinSet nat_cmp) → stale_of (standing_of (standings s) n) ≡ Some stale → LosesCopies (world_of s) (world_of u) n stale
    lost_here stale known =
        subst (LosesCopies (world_of s) (world_of u) n) (same_Some (set.from_list lost.inodes) stale (sym lost.stale ∙ known))
        (subst (λ v. LosesCopies (world_of s) (world_of v) n (set.from_list lost.inodes)) (sym lost.copies) (without_here s n lost.inodes there))

    pub lost_else : (k i : ℕ) → k ≢ n → (world_of u).area k i ≡ (world_of s).area k i
    lost_else k i other = ap (λ v. (world_of v).area k i) lost.copies ∙ without_else s n lost.inodes there k i other
