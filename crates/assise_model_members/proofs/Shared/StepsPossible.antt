-- Each step can be made.
use Rattle.assise_model_members.proofs.Common.{◌≡◌, ◌≢◌, inl, inr, ℕ, zero, suc, ◌-◌, ◌<◌, ◌≤◌, true, false, Option, Some, None, List, [], ◌∷◌, refl, sym, ap}
use Rattle.assise_model_members.proofs.Common.{◌∙◌, subst, eq-eqb, eqb-true, arith, ◌==◌, if◌then◌else◌, list_any, nat_cmp, eq_by_cmp, contains-from_list_nat}
use Rattle.assise_model_members.proofs.Common.{contains-union, contains-empty, contains-items, same_set, nat_cmp-IsAntisymmetric, nat_cmp_total, unsigned_tied}
use Rattle.assise_model_members.proofs.Common.{cases_eq, cases_lt, or_cases, or_left, or_right, Busy, all_effects, touched, contains, Fails, Rests}
use Rattle.assise_model_members.proofs.Common.{kept_at_failure, World, Full, records_between, undigested_below, contains-take, contains-drop, since_of}
use Rattle.assise_model_members.proofs.Common.{AreMembers, FailsWithMembers, FailsAgain, DigestsNoted, BeginsReturn, Refills, Rejoins, failed, back}
use Rattle.assise_model_members.proofs.Common.{with_copied, joined, noted, donor_of, stale_of, is_returning, return_fault, join_fault, IsLowest, Membership}
use Rattle.assise_model_members.proofs.Common.{standing_of, full}
use Rattle.std.specs.FinSet as set
use Rattle.assise_record.specs.LogRecord.{LogRecord}
use Rattle.assise_inode_table.specs.Contents.{Content, Values}
use Rattle.assise_model_world.specs.Chances.{MayDigest}
use Rattle.assise_model_world.proofs.Shared.Possible.{FullAlso, at_one, at_one-here, at_one-else, chosen}
use Rattle.assise_model_world.proofs.Shared.Possible.{chosen_at, cut_world, digested_world, one_more_full, passed}
use Rattle.assise_model_world.proofs.Shared.Possible.{passed_at, world_digests, world_fails}
use Rattle.assise_model_members.specs.Chances.{MayFailWith, MayRefill}
use Rattle.assise_model_members.proofs.Shared.NodeStandings.{away_not_full, full_no_donor, down_is, lacks_is, returning_may_join, busy_lacks}

-- a set of a list's numbers has those that are in the list
listed_as : (xs : List ℕ) (i : ℕ) → set.contains (set.from_list {R = nat_cmp} xs) i ≡ contains xs i
listed_as xs i = contains-from_list_nat xs i

-- ---- the world with other areas

abbrev with_areas : World → (ℕ → Values) → World
with_areas w areas = record w { area = areas }

rests_with : (w : World) (areas : ℕ → Values) → ((k i : ℕ) → Full w k → areas k i ≡ w.area k i) → Rests w (with_areas w areas)
rests_with w areas same = search same parts 3

-- the value that is left where these copies go
abbrev left_of : Option (set.FinSet nat_cmp) → ℕ → Option Content → Option Content
left_of None i old = old
left_of (Some stale) i old = if set.contains stale i then None else old

-- ---- a full node fails

-- without its stale copies, where the donor failed
abbrev left_over : ℕ → Option ℕ → Option (set.FinSet nat_cmp) → ℕ → Option Content → Option Content
left_over n None stale i old = old
left_over n (Some donor) stale i old = if donor == n then left_of stale i old else old

left_over-else : (n : ℕ) (donor : Option ℕ) (stale : Option (set.FinSet nat_cmp)) (i : ℕ) (old : Option Content) → donor ≢ Some n →
    left_over n donor stale i old ≡ old
left_over-else n None stale i old differs = refl
left_over-else n (Some donor) stale i old differs = passed donor n (left_of stale i old) old (λ is. differs (ap Some is))

module _ (w : World) (m : Membership) (n : ℕ) (inodes : set.FinSet nat_cmp) (a : AreMembers w m) (g : MayFailWith w n inodes) where
  abbrev after : Membership
  after = failed m n inodes

  abbrev areas_then : ℕ → Values
  areas_then k i = left_over n (donor_of (standing_of m.nodes k)) (stale_of (standing_of after.nodes k)) i (w.area k i)

  stays_then : (k i : ℕ) → donor_of (standing_of m.nodes k) ≢ Some n → areas_then k i ≡ w.area k i
  stays_then k i differs = left_over-else n (donor_of (standing_of m.nodes k)) (stale_of (standing_of after.nodes k)) i (w.area k i) differs

  pub may_fail : (v u : World) × (o : Membership) × FailsWithMembers w m n inodes v u o
  may_fail =
      let fails : Fails w n (cut_world w n) = world_fails w n record { full_node = g.full_node; survivor = g.survivor } in (
        cut_world w n,
        with_areas (cut_world w n) areas_then,
        after,
        search (rests_with, cut_world, areas_then, stays_then, full_no_donor, left_of, arith) parts 3,
      )

-- the inodes that the kept records of clients 0 to this one touch
abbrev kept_records : World → ℕ → ℕ → List LogRecord
kept_records w n c = records_between w c (w.first c) (kept_at_failure w n c)

abbrev touched_to : World → ℕ → ℕ → set.FinSet nat_cmp
touched_to w n zero = set.from_list (touched (all_effects (kept_records w n zero)))
touched_to w n (suc c) = set.union (set.from_list (touched (all_effects (kept_records w n (suc c))))) (touched_to w n c)

touched_some : (w : World) (n most i : ℕ) → set.contains (touched_to w n most) i ≡ true →
    (c : ℕ) × (contains (touched (all_effects (kept_records w n c))) i ≡ true)
touched_some w n zero i h = (zero, sym (listed_as (touched (all_effects (kept_records w n zero))) i) ∙ h)
touched_some w n (suc most) i h =
    let own : set.FinSet nat_cmp = set.from_list (touched (all_effects (kept_records w n (suc most)))) in
    elim (or_cases (set.contains own i) (set.contains (touched_to w n most) i) (sym (contains-union nat_cmp_total own (touched_to w n most) i) ∙ h)) [
      | inl here ↦ (suc most, sym (listed_as (touched (all_effects (kept_records w n (suc most)))) i) ∙ here)
      | inr there ↦ touched_some w n most i there
    ]

touched_there : (w : World) (n most c i : ℕ) → c ≤ most → contains (touched (all_effects (kept_records w n c))) i ≡ true → set.contains (touched_to w n most) i
    ≡ true
touched_there w n zero c i low h = grind (arith, listed_as)
touched_there w n (suc most) c i low h =
    let own : set.FinSet nat_cmp = set.from_list (touched (all_effects (kept_records w n (suc most)))) in
    contains-union nat_cmp_total own (touched_to w n most) i
    ∙ (elim (cases_eq c (suc most)) [
      | inl is ↦
          grind (arith, listed_as)
      | inr differs ↦ or_right (set.contains own i) (set.contains (touched_to w n most) i) (touched_there w n most c i (omega (arith, low, differs)) h)
    ])

-- a client without records touches nothing
none_kept : (w : World) (n c i : ℕ) → w.records c ≡ [] → contains (touched (all_effects (kept_records w n c))) i ≡ true → ⊥
unfolding records_between
none_kept w n c i none h = grind (arith, contains-drop, contains-take)

pub may_list : (w : World) (n most : ℕ) → Full w n → (k : ℕ) × ((k ≢ n) × Full w k) → ((c : ℕ) → most < c → w.records c ≡ []) → (inodes : set.FinSet nat_cmp)
    × MayFailWith w n inodes
may_list w n most f survivor few = (
  touched_to w n most,
  record {
    full_node = f;
    survivor = survivor;
    touched_only = touched_some w n most;
    touched_all = grind (arith, none_kept, touched_there);
  },
)

-- ---- a node that comes back fails again

pub may_fail_again : (w : World) (m : Membership) (n : ℕ) → is_returning (standing_of m.nodes n) ≡ true → (u : World) × (o : Membership) × FailsAgain w m n u o
may_fail_again w m n was = (
  w,
  failed m n set.empty,
  record { was_returning = was; members = refl; rests = rests_with w w.area (λ k i f. refl); area = λ k i. refl },
)

-- ---- a digest

pub may_digest : (w : World) (m : Membership) (n c p : ℕ) → MayDigest w n c p → (inodes : set.FinSet nat_cmp) × (u : World) × (o : Membership)
    × DigestsNoted w m n c p inodes u o
may_digest w m n c p may =
    (let inodes : set.FinSet nat_cmp = set.from_list (touched (all_effects (undigested_below w n c p))) in (
      inodes,
      digested_world w n c p,
      noted m n inodes,
      search (world_digests w n c p may, listed_as, passed_at, arith) parts 3,
    ))

-- ---- returns

-- who isn't full is another than the full ones
away_other : (w : World) (m : Membership) (n k since : ℕ) → AreMembers w m → since_of (standing_of m.nodes n) ≡ Some since → Full w k → k ≢ n
away_other w m n k since a at f is = away_not_full (standing_of m.nodes n) since at (subst (λ k. standing_of m.nodes k ≡ Some full) is (a.full_nodes k f))

module _ (w : World) (m : Membership) (n : ℕ) (a : AreMembers w m) where
  abbrev areas_back : ℕ → Values
  areas_back k i = if k == n then left_of (stale_of (standing_of (back m n).nodes n)) i (w.area k i) else w.area k i

  pub may_come_back : return_fault m n ≡ None → (u : World) × (o : Membership) × BeginsReturn w m n u o
  may_come_back fine =
      (let (since, is) = down_is (standing_of m.nodes n) fine in
      let stays : (k i : ℕ) → k ≢ n → areas_back k i ≡ w.area k i = λ k i differs. passed k n _ _ differs in (
        with_areas w areas_back,
        back m n,
        search (rests_with, areas_back, away_other, chosen, left_of, arith) parts 3,
      ))

  pub may_refill : (i : ℕ) → MayRefill m n i → (u : World) × (o : Membership) × Refills w m n i u o
  may_refill i may =
      (let (since, donor, is) = lacks_is (standing_of m.nodes n) may.stale may.lacks in
      let filled : ℕ → Values = at_one n i (w.area donor i) w.area in (
        with_areas w filled,
        with_copied m n i,
        record {
          since = since;
          donor = donor;
          stale = may.stale;
          stands = is;
          lowest = may.lowest;
          members = refl;
          rests = rests_with w filled (λ k j f. at_one-else n i _ w.area k j (λ here _. away_other w m n k since a (ap since_of is) f here));
          area_here = at_one-here n i _ w.area;
          area_else = at_one-else n i _ w.area;
        },
      ))

  abbrev joined_world : ℕ → World
  joined_world donor = record w {
    full = n ∷ w.full;
    log = λ k. if k == n then w.log donor else w.log k;
    received = λ k. if k == n then w.received donor else w.received k;
    digested = λ k. if k == n then w.digested donor else w.digested k;
  }

  pub may_rejoin : join_fault m n ≡ None → (u : World) × (o : Membership) × Rejoins w m n u o
  may_rejoin fine =
      (let (since, donor, stale, is) = returning_may_join (standing_of m.nodes n) fine in
      let away : (k : ℕ) → Full w k → k ≢ n = λ k f. away_other w m n k since a (ap since_of is) f in
      let full_as : FullAlso w n (joined_world donor) = one_more_full w n (joined_world donor) refl in
      (joined_world donor, joined m n, search (fine, is, away, chosen_at, passed_at, full_as.joined, full_as.stay, full_as.only) parts 3))

-- ---- an inode to be filled

same_tied : (x : ℕ) → eq_by_cmp nat_cmp x x ≡ true
same_tied x = unsigned_tied x x ∙ eq-eqb x x refl

tied_same : (q x : ℕ) → eq_by_cmp nat_cmp q x ≡ true → q ≡ x
tied_same q x h = eqb-true q x (sym (unsigned_tied q x) ∙ h)

-- the least of some numbers
low_for : (i x : ℕ) (xs : List ℕ) → i ≤ x → ((q : ℕ) → list_any (eq_by_cmp nat_cmp q) xs ≡ true → i ≤ q) →
    (q : ℕ) → list_any (eq_by_cmp nat_cmp q) (x ∷ xs) ≡ true → i ≤ q
low_for i x xs here there q h = grind arith

least_in : (x : ℕ) (xs : List ℕ) → (i : ℕ) × (list_any (eq_by_cmp nat_cmp i) (x ∷ xs) ≡ true)
    × ((q : ℕ) → list_any (eq_by_cmp nat_cmp q) (x ∷ xs) ≡ true → i ≤ q)
least_in x [] = (x, or_left (eq_by_cmp nat_cmp x x) false (same_tied x), low_for x x [] (omega arith) (λ q h. cc))
least_in x (y ∷ ys) =
    (let (i, there, low) = least_in y ys in
    elim (cases_lt i x) [
      | inl less ↦ (i, or_right (eq_by_cmp nat_cmp i x) (list_any (eq_by_cmp nat_cmp i) (y ∷ ys)) there, low_for i x (y ∷ ys) (omega arith) low)
      | inr more ↦ (
        x,
        or_left (eq_by_cmp nat_cmp x x) (list_any (eq_by_cmp nat_cmp x) (y ∷ ys)) (same_tied x),
        low_for x x (y ∷ ys) (omega arith) (λ q h. let t : i ≤ q = low q h in omega arith),
      )
    ])

lowest_from : (s : set.FinSet nat_cmp) (xs : List ℕ) → set.items s ≡ xs → s ≢ set.empty → (i : ℕ) × IsLowest s i
lowest_from s [] is some =
    absurd (some (same_set nat_cmp_total nat_cmp-IsAntisymmetric s set.empty
    (λ q. contains-items s q ∙ ap (list_any (eq_by_cmp nat_cmp q)) is ∙ sym (contains-empty nat_cmp q))))
lowest_from s (x ∷ xs) is some = grind (arith, least_in x xs, contains-items)

pub may_fill_one : (m : Membership) (n : ℕ) → join_fault m n ≡ Some Busy → (i : ℕ) × MayRefill m n i
may_fill_one m n busy =
    (let (stale, lacks, some) = busy_lacks (standing_of m.nodes n) busy in
    let (i, lowest) = lowest_from stale (set.items stale) refl some in
    (i, record { stale = stale; lacks = lacks; lowest = lowest }))
