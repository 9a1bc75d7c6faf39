-- A node that comes back gets an inode from the node that it is filled from, as the laws have it.
use Rattle.assise_machine_failures.proofs.Common.{◌≡◌, ◌≢◌, ◌<◌, arith, ℕ, false, List, [], length, Option, Some, None, Result, Ok, Err, IfOk, IsOk, inl, inr}
use Rattle.assise_machine_failures.proofs.Common.{refl, ap, sym, subst, ◌∙◌, append-nil, true≢false, option_map, nat_cmp, len-empty, none-some, same_Some}
use Rattle.assise_machine_failures.proofs.Common.{Refusal, OutOfMemory, Content, RegionValue, with_inode, IsLowest, IsLowestOf, copied_by, copied_as, donor_of}
use Rattle.assise_machine_failures.proofs.Common.{filling_fault, filling_fault_of, stale_of, IsMembership, Membership, Standing, down, full, returning}
use Rattle.assise_machine_failures.proofs.Common.{standing_of, Refills, Answer, left, refused, IsRefilled, Refilling, count_of, after_inode, after_members}
use Rattle.assise_machine_failures.proofs.Common.{region_in, with_region, is_full_in, observed, world_of, IsNumber, CutsInvariant, ShapeInvariant, StateValue}
use Rattle.assise_machine_failures.proofs.Common.{leases_of, standings, value_of, node_number, inode_else, inode_here, inode_rests, inode_shaped, members_areas}
use Rattle.assise_machine_failures.proofs.Common.{members_rest, members_shaped, region_keeps, full_as, same_count, refilling_answer}
use Rattle.std.specs.FinMap as map
use Rattle.std.specs.FinSet as set
use Rattle.assise_manager.proofs.Shared.Lawful.{donor_full}
use Rattle.assise_model_events.specs.MemberEvents.Refilling.{is_refused, lacks_memory}
use Rattle.assise_machine_state.specs.declared.sound.SoundOf.{SoundOf}
use Rattle.assise_machine_failures.proofs.DroppedCopies.{not_full, rests_more}
use Rattle.assise_machine_failures.proofs.ComingBack.{still_full}
use Rattle.assise_machine_failures.proofs.Shared.RefusedFailures.{IsFaultOr}

-- ---- it is refused

pub refill_refused : (s : StateValue) (n : ℕ) (e : Refusal) (a : Answer) → a ≡ refused e → filling_fault s.members n ≢ None →
    IsFaultOr (filling_fault s.members n) e → Refilling (observed s) n a (observed s)
unfolding observed
refill_refused s n e a is faulty (inl (fine, memory)) = absurd (faulty fine)
refill_refused s n e a is faulty (inr fault) = is_refused e fault is refl

-- ---- a node stands coming back

pub filled_stands : (o : Option Standing) (d : ℕ) → donor_of o ≡ Some d → (since : ℕ) × ((stale : set.FinSet nat_cmp) × (o ≡ Some (returning since d stale)))
filled_stands None d from = absurd (none-some d from)
filled_stands (Some full) d from = absurd (none-some d from)
filled_stands (Some (down since)) d from = absurd (none-some d from)
filled_stands (Some (returning since donor stale)) d from = (since, (stale, ap (λ k. Some (returning since k stale)) (same_Some donor d from)))

lowest_of : (o : Option (set.FinSet nat_cmp)) (stale : set.FinSet nat_cmp) (i : ℕ) → o ≡ Some stale → IsLowestOf o (Some i) → IsLowest stale i
lowest_of o stale i is low = subst (λ p. IsLowestOf p (Some i)) is low

-- where there is a lowest inode it may lack some
some_stale : (o : Option (set.FinSet nat_cmp)) (i : ℕ) → IsLowestOf o (Some i) → 0 < count_of o
some_stale None i low = absurd low
some_stale (Some inodes) i low = grind (arith, set.empty_of_len, set.contains-empty)

-- node n comes back, and is filled from node d
pub record IsFilledFrom (s : StateValue) (n d : ℕ) : Type 0 where
  pub shape : ShapeInvariant s
  pub lawful : IsMembership s.members
  pub from : donor_of (standing_of (standings s) n) ≡ Some d

-- so it is where the state is sound
pub filling : {C : Type 0} (sound : SoundOf C) (n d : ℕ) → donor_of (standing_of (standings (value_of sound.state)) n) ≡ Some d →
    IsFilledFrom (value_of sound.state) n d
filling sound n d from = record { shape = sound.invariant.shape; lawful = sound.state.members.lawful; from = from }

module _ {s : StateValue} {n d : ℕ} (fills : IsFilledFrom s n d) where
  abbrev since : ℕ
  since = (filled_stands (standing_of (standings s) n) d fills.from).0

  abbrev stale : set.FinSet nat_cmp
  stale = (filled_stands (standing_of (standings s) n) d fills.from).1.0

  pub filled_from : standing_of (standings s) n ≡ Some (returning since d stale)
  filled_from = (filled_stands (standing_of (standings s) n) d fills.from).1.1

  pub filled_number : IsNumber s.nodes n
  filled_number = node_number s n (returning since d stale) fills.shape filled_from

  pub donor_number : IsNumber s.nodes d
  donor_number = node_number s d full fills.shape (donor_full s.members n since d stale fills.lawful filled_from)

  filled_away : is_full_in (standings s) n ≡ false
  filled_away = full_as (standings s) n (returning since d stale) filled_from

  pub filled_logless : (region_in s.nodes n).logs ≡ []
  filled_logless = fills.shape.no_logs n filled_away

  pub filled_fine : filling_fault s.members n ≡ None
  filled_fine = ap filling_fault_of filled_from

  -- it lacks an inode, for which there is no memory
  pub lacks_memory_so : (i : ℕ) (e : Refusal) (a : Answer) → IsLowestOf (stale_of (standing_of (standings s) n)) (Some i) → a ≡ refused e → e ≡ OutOfMemory →
      Refilling (observed s) n a (observed s)
  unfolding observed
  lacks_memory_so i e a low is memory = lacks_memory filled_fine (some_stale (stale_of (standing_of (standings s) n)) i low) (is ∙ ap refused memory) refl

  -- it lacks nothing
  pub whole_so : IsLowestOf (stale_of (standing_of (standings s) n)) None → Refilling (observed s) n (left 0) (observed s)
  unfolding observed
  whole_so none = grind (arith, len-empty)

-- ---- it gets the lowest inode

-- the nodes and the membership once node n has the lowest inode that it may lack, as node d has it
pub record IsCopied (s : StateValue) (n d : ℕ) (rs : List RegionValue) (m : Membership) : Type 0 where
  pub fills : IsFilledFrom s n d
  pub inode : ℕ
  pub value : Option Content
  pub copied : value ≡ map.get (region_in s.nodes d).inodes inode
  pub refilled : rs ≡ with_region s.nodes n (with_inode (region_in s.nodes n) inode value)
  pub lowest : IsLowestOf (stale_of (standing_of (standings s) n)) (Some inode)
  pub less : m ≡ copied_by s.members n inode

module _ {s : StateValue} {n d : ℕ} {rs : List RegionValue} {m : Membership} (c : IsCopied s n d rs m) where
  abbrev i : ℕ
  i = c.inode

  abbrev v : Option Content
  v = c.value

  abbrev began : ℕ
  began = since c.fills

  abbrev lacked : set.FinSet nat_cmp
  lacked = stale c.fills

  stands : standing_of (standings s) n ≡ Some (returning began d lacked)
  stands = filled_from c.fills

  number : IsNumber s.nodes n
  number = filled_number c.fills

  abbrev now : Standing
  now = returning began d (set.remove lacked i)

  nodes_are : m.nodes ≡ (copied_as (standings s) n i (Some (returning began d lacked)))
  nodes_are = ap (λ o. o.nodes) c.less ∙ ap (copied_as (standings s) n i) stands

  as_many : length m.nodes ≡ length (standings s)
  as_many = ap length nodes_are ∙ same_count (standings s) n now

  as_full : (k : ℕ) → is_full_in m.nodes k ≡ is_full_in (standings s) k
  as_full k = ap (λ nodes. is_full_in nodes k) nodes_are ∙ still_full (standings s) n (returning began d lacked) now stands refl refl k

  abbrev t : StateValue
  t = after_inode s n i v

  abbrev u : StateValue
  u = after_members t m

  abbrev w : StateValue
  w = record s { nodes = rs; members = m }

  same : w ≡ u
  same = (λ k. record s { nodes = c.refilled k; members = m })

  node_refills : Refills (world_of s) s.members n i (world_of u) m
  unfolding world_of
  node_refills = record {
    since = began;
    donor = d;
    stale = lacked;
    stands = stands;
    lowest = lowest_of (stale_of (standing_of (standings s) n)) lacked i (ap stale_of stands) c.lowest;
    members = c.less;
    rests =
        rests_more (world_of s) (world_of t) (world_of u)
        (inode_rests s n i v number (not_full s n (filled_away c.fills))) (members_rest t m as_many as_full);
    area_here = members_areas t m n i ∙ inode_here s n i v number ∙ c.copied;
    area_else = λ k j other. members_areas t m k j ∙ inode_else s n i v number k j other;
  }

  refilled_so : IsRefilled (observed s) n (observed u)
  unfolding observed leases_of
  refilled_so = grind (arith, node_refills, append-nil, region_keeps)

  refill_happens : (count : ℕ) → option_map set.len (stale_of (standing_of m.nodes n)) ≡ Some count → Refilling (observed s) n (left count) (observed w)
  unfolding observed
  refill_happens count some = grind (arith, refilled_so)

  pub refill_answers : (r : Result ℕ Refusal) → IsOk r → IfOk r (λ count. option_map set.len (stale_of (standing_of m.nodes n)) ≡ Some count) →
      Refilling (observed s) n (refilling_answer r) (observed w)
  refill_answers (Ok count) ok some = refill_happens count some
  refill_answers (Err e) ok some = absurd (true≢false (sym ok))

  pub refill_shaped : ShapeInvariant w
  refill_shaped = subst ShapeInvariant (sym same) (members_shaped t m (inode_shaped s n i v c.fills.shape number) as_many as_full)

  pub refill_noted : CutsInvariant s → CutsInvariant w
  refill_noted noted = record { once = noted.once; known = noted.known; noted = noted.noted }
