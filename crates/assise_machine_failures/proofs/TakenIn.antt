-- A node that came back is full again, as the laws have it.
use Rattle.assise_machine_failures.proofs.Common.{◌≡◌, ◌≢◌, ℕ, suc, ◌+◌, ◌<◌, ◌≤◌, false, true, List, [], ◌∷◌, ◌++◌, length, Option, Some, None, inl, inr, refl}
use Rattle.assise_machine_failures.proofs.Common.{ap, sym, subst, ◌∙◌, arith, eq-eqb, is_some, true≢false, nat_cmp, contains-empty, empty_of_len, len-empty}
use Rattle.assise_machine_failures.proofs.Common.{le_prop, ∥∥₁_elim, ∥∥₁_map, ne_eqb, none-some, Refusal, Busy, OutOfMemory, EntryValue, returns, RegionValue}
use Rattle.assise_machine_failures.proofs.Common.{without_clients, IsLowestOf, filling_fault, filling_fault_of, join_fault, join_fault_of, joined_members}
use Rattle.assise_machine_failures.proofs.Common.{stale_of, Membership, Standing, returning, standing_of, Answer, joined, refused, MachineInvariant, Joining}
use Rattle.assise_machine_failures.proofs.Common.{Rejoins, after_join, region_in, with_logs_of, with_region, without_logs, observed, world_of, IsNumber}
use Rattle.assise_machine_failures.proofs.Common.{CutsInvariant, ShapeInvariant, StateValue, leases_of, standings, region_keeps, region_back, region_here}
use Rattle.assise_machine_failures.proofs.Common.{length-with, with-with}
use Rattle.std.specs.FinSet as set
use Rattle.assise_model_events.specs.MemberEvents.Joining.{is_joined, is_refused, lacks_memory}
use Rattle.assise_machine_state.proofs.Shared.JoinObserved.{join_shaped, node_rejoins}
use Rattle.assise_machine_failures.proofs.RefillHappens.{IsFilledFrom, filled_from, filled_stands}
use Rattle.assise_machine_failures.proofs.Shared.RefusedFailures.{IsFaultOr}
use Rattle.assise_machine_failures.proofs.Settled.{settled}

-- ---- the state is as it was

pub same_all : (s : StateValue) {rs : List RegionValue} {m : Membership} {h : List EntryValue} → rs ≡ s.nodes → m ≡ s.members → h ≡ s.history →
    record s { nodes = rs; members = m; history = h } ≡ s
same_all s nodes members history = (λ i. record s { nodes = nodes i; members = members i; history = history i })

-- logs that a node got go again
logs_gone : (rs : List RegionValue) (n d : ℕ) → IsNumber rs n → (region_in rs n).logs ≡ [] → without_logs (with_logs_of rs n d) n ≡ rs
logs_gone rs n d there none =
    let filled : RegionValue = region_in (with_logs_of rs n d) n in
    let same : without_clients filled ≡ without_clients (region_in rs n) = ap without_clients (region_here rs n _ there) in
    let back : without_clients filled ≡ region_in rs n = same ∙ (λ i. record (region_in rs n) { logs = sym none i }) in
    with-with rs n _ _ ∙ ap (with_region rs n) back ∙ region_back rs n

pub logs_back : (rs ls ms : List RegionValue) (n d : ℕ) → IsNumber rs n → (region_in rs n).logs ≡ [] → ls ≡ with_logs_of rs n d → ms ≡ without_logs ls n →
    ms ≡ rs
logs_back rs ls ms n d there none got gone = gone ∙ ap (λ xs. without_logs xs n) got ∙ logs_gone rs n d there none

pub got_number : (rs ls : List RegionValue) (n d : ℕ) → IsNumber rs n → ls ≡ with_logs_of rs n d → IsNumber ls n
got_number rs ls n d there got = record { some = there.some; there = subst (λ k. n ≤ k) (sym (ap length got ∙ length-with rs n _)) there.there }

-- ---- the epoch fits

pub epoch_fits : (s : StateValue) → ∥ MachineInvariant (observed s) ∥₁ → length s.history < 9223372036854775808 → s.members.epoch + 1 < 18446744073709551616
unfolding observed
epoch_fits s holds few =
    let low : s.members.epoch ≤ suc (length s.history) = ∥∥₁_elim holds le_prop (λ h. h.epochs) in
    omega (arith, low, few)

-- ---- it is refused

fault_stays : (o : Option Standing) (e : Refusal) → filling_fault_of o ≡ Some e → join_fault_of o ≡ Some e
fault_stays o e fault = grind (arith, none-some)

pub join_refused : (s : StateValue) (n : ℕ) (e : Refusal) (a : Answer) → a ≡ refused e → IsFaultOr (filling_fault s.members n) e →
    (filling_fault s.members n ≡ None → ⊥) → Joining (observed s) n a (observed s)
unfolding observed
join_refused s n e a is (inl (fine, memory)) never = absurd (never fine)
join_refused s n e a is (inr fault) never = is_refused e (fault_stays (standing_of (standings s) n) e fault) is refl

-- whether it may lack an inode is whether there is a lowest one
nonempty : (inodes : set.FinSet nat_cmp) (i : ℕ) → set.contains inodes i ≡ true → set.len inodes ≢ 0
nonempty inodes i there none = true≢false (sym there ∙ ap (λ s. set.contains s i) (empty_of_len inodes none) ∙ contains-empty nat_cmp i)

busy_fault : (o : Option Standing) (i : ℕ) → IsLowestOf (stale_of o) (Some i) → join_fault_of o ≡ Some Busy
busy_fault o i low = grind (arith, ne_eqb, nonempty)

no_fault : (o : Option Standing) → IsLowestOf (stale_of o) None → join_fault_of o ≡ None
no_fault o none = grind (arith, eq-eqb, len-empty)

module _ (s : StateValue) (n : ℕ) where
  pub join_busy : (lowest : Option ℕ) → IsLowestOf (stale_of (standing_of (standings s) n)) lowest → is_some lowest ≡ true →
      Joining (observed s) n (refused Busy) (observed s)
  unfolding observed
  join_busy None low some = absurd (true≢false (sym some))
  join_busy (Some i) low some = is_refused Busy (busy_fault (standing_of (standings s) n) i low) refl refl

  pub join_fine : (lowest : Option ℕ) → IsLowestOf (stale_of (standing_of (standings s) n)) lowest → is_some lowest ≡ false → join_fault s.members n ≡ None
  join_fine None low none = no_fault (standing_of (standings s) n) low
  join_fine (Some i) low none = absurd (true≢false none)

  pub join_lacks : (t : StateValue) (a : Answer) → join_fault s.members n ≡ None → t ≡ s → a ≡ refused OutOfMemory → Joining (observed s) n a (observed t)
  unfolding observed
  join_lacks t a fine same is = lacks_memory fine is (ap observed same)

-- ---- it is full again

-- the nodes, the membership and the history once node n is full again, with the logs of node d
pub record IsTakenIn (s : StateValue) (n d : ℕ) (rs : List RegionValue) (m : Membership) (h : List EntryValue) : Type 0 where
  pub holds : ∥ MachineInvariant (observed s) ∥₁
  pub fills : IsFilledFrom s n d
  pub fine : join_fault s.members n ≡ None
  pub nodes : rs ≡ with_logs_of s.nodes n d
  pub members : m ≡ joined_members s.members n
  pub history : h ≡ s.history ++ returns n ∷ []

module _ {s : StateValue} {n d : ℕ} {rs : List RegionValue} {m : Membership} {h : List EntryValue} (taken : IsTakenIn s n d rs m h) where
  abbrev since : ℕ
  since = (filled_stands (standing_of (standings s) n) d taken.fills.from).0

  abbrev stale : set.FinSet nat_cmp
  stale = (filled_stands (standing_of (standings s) n) d taken.fills.from).1.0

  stands : standing_of (standings s) n ≡ Some (returning since d stale)
  stands = filled_from taken.fills

  abbrev t : StateValue
  t = after_join s n d

  abbrev w : StateValue
  w = record s { nodes = rs; members = m; history = h }

  same : w ≡ t
  same = (λ i. record s { nodes = taken.nodes i; members = taken.members i; history = taken.history i })

  rejoins : Rejoins (world_of s) s.members n (world_of t) t.members
  unfolding observed
  rejoins =
      settled (world_of s) (world_of t) s.members t.members n since d stale
      (∥∥₁_map taken.holds (λ h. node_rejoins s n since d stale taken.fills.shape taken.fills.lawful stands h.sound taken.fine)) stands taken.fine refl

  pub join_happens : Joining (observed s) n joined (observed w)
  unfolding observed leases_of
  join_happens =
      subst (λ x. Joining (observed s) n joined (observed x)) (sym same)
      (search (is_joined, rejoins, region_keeps, arith) parts 3)

  pub join_left : ShapeInvariant w
  unfolding observed
  join_left = subst ShapeInvariant (sym same) (join_shaped s n since d stale taken.fills.shape taken.fills.lawful stands (∥∥₁_map taken.holds (λ h. h.sound)))

  pub join_noted : CutsInvariant s → CutsInvariant w
  join_noted noted = record { once = noted.once; known = noted.known; noted = noted.noted }
