-- A node's digest of one client's records after another's, as the laws have it.
use Rattle.assise_machine.proofs.Common.{◌≡◌, ℕ, zero, suc, ◌+◌, ◌-◌, ◌<◌, ◌≤◌, min, Bool, true, false, take, length, inl, inr, refl, ap, sym, subst, ◌∙◌}
use Rattle.assise_machine.proofs.Common.{arith, cases_eq, cases_lt, ∥∥₁_elim, props, nat_cmp, all_effects, contains, touched, ahead, WorldInvariant, World}
use Rattle.assise_machine.proofs.Common.{received_by_all, DigestsNoted, DigestsTo, most_digested, part_of, undigested, undigested_to, hot_capacities, log_in}
use Rattle.assise_machine.proofs.Common.{is_full_in, world_of, IsNumber, ShapeInvariant, StateValue, standings, full_seen, seen_full, region_keeps}
use Rattle.assise_machine.proofs.Common.{EndWithGroups, EndsWithGroup, NoneListed, digests_some, digests_to}
use Rattle.std.specs.FinSet as set
use Rattle.assise_model_events.proofs.Shared.Digestible.{same_received}
use Rattle.assise_machine.proofs.Digested.{has_here, next_shape, next_sound, none_digested, noted_so}
use Rattle.assise_machine.proofs.Unlisted.{still_none}

-- ---- what stays

-- the rest of the state, and what the next client's digest needs
pub record StillSame (s t : StateValue) (n m : ℕ) : Type 0 where
  pub clients : t.clients ≡ s.clients
  pub levels : t.levels ≡ s.levels
  pub cuts : t.cuts ≡ s.cuts
  pub history : t.history ≡ s.history
  pub limit : t.limit ≡ s.limit
  pub hot : hot_capacities t.nodes ≡ hot_capacities s.nodes
  pub lists : NoneListed s.members → NoneListed t.members
  pub full : (world_of t).full ≡ (world_of s).full
  pub received : (c : ℕ) → received_by_all (world_of t) c ≡ received_by_all (world_of s) c
  pub border : (c k : ℕ) → (world_of t).border c k ≡ (world_of s).border c k
  pub later : (c : ℕ) → m < c → (world_of t).digested n c ≡ (world_of s).digested n c
  pub shape : ShapeInvariant t
  pub sound : ∥ WorldInvariant (world_of t) ∥₁

-- ---- where the code stands after clients 1 to m

pub record GoesTo (s : StateValue) (n m : ℕ) (t : StateValue) (count : ℕ) (is_refused is_ended : Bool) : Type 0 where
  pub digests : t ≡ digests_to s n count m
  pub groups : EndWithGroups (world_of s) n count m
  pub few : count ≤ min most_digested (undigested_to (world_of s) n m)
  pub all : is_ended ≡ false → count ≡ min most_digested (undigested_to (world_of s) n m)
  pub ended : is_ended ≡ true → count < undigested_to (world_of s) n m
  pub refused : is_refused ≡ true → is_ended ≡ true
  pub some : is_refused ≡ false → 0 < undigested_to (world_of s) n m → 0 < count

-- what one client's digest of `count` records, of `most` at most, gives
pub record Part (t : StateValue) (n c most : ℕ) (u : StateValue) (count : ℕ) (is_refused is_ended : Bool) : Type 0 where
  pub digests : u ≡ digests_some t n c count
  pub group : EndsWithGroup (world_of t) n c count
  pub few : count ≤ min most (undigested (world_of t) n c)
  pub all : is_ended ≡ false → count ≡ min most (undigested (world_of t) n c)
  pub ended : is_ended ≡ true → count < min most (undigested (world_of t) n c)
  pub refused : is_refused ≡ true → is_ended ≡ true
  pub some : is_refused ≡ false → most ≡ 64 → 0 < undigested (world_of t) n c → 0 < count

-- ---- one client after another

module _ (s : StateValue) (n : ℕ) (shape : ShapeInvariant s) (sound : ∥ WorldInvariant (world_of s) ∥₁) (here : is_full_in (standings s) n ≡ true) where
  abbrev w : World
  w = world_of s

  -- with a client more

  module _ (t : StateValue) (m : ℕ) (same : StillSame s t n m) (last : m < length s.clients) where
    pub next_here : is_full_in (standings t) n ≡ true
    next_here = full_seen t n (ap (λ ns. contains ns n) same.full ∙ seen_full s n here)

    pub next_client : IsNumber t.clients (suc m)
    next_client = (let counted = ap length same.clients in record { some = omega arith; there = omega (arith, counted, last) })

    next_undigested : undigested (world_of t) n (suc m) ≡ undigested w n (suc m)
    next_undigested = (let now = same.later (suc m) (omega arith) in let all = same.received (suc m) in omega (arith, now, all))

    border_next : (count : ℕ) → (world_of t).border (suc m) ((world_of t).digested n (suc m) + count) ≡ w.border (suc m) (w.digested n (suc m) + count)
    border_next count =
        same.border (suc m) ((world_of t).digested n (suc m) + count) ∙ ap (λ k. w.border (suc m) (k + count)) (same.later (suc m) (omega arith))

    module _ (count : ℕ) (few : count ≤ undigested w n (suc m)) (whole : EndsWithGroup w n (suc m) count) where
      few_next : count ≤ undigested (world_of t) n (suc m)
      few_next = omega (arith, few, next_undigested)

      -- what ends with a group before does so now
      whole_next : EndsWithGroup (world_of t) n (suc m) count
      whole_next = border_next count ∙ whole

      abbrev u : StateValue
      u = digests_some t n (suc m) count

      abbrev place : ℕ
      place = (world_of t).digested n (suc m) + count

      abbrev inodes : set.FinSet nat_cmp
      inodes = set.from_list (touched (all_effects (take count (ahead (log_in t.nodes n (suc m))))))

      next_noted : DigestsNoted (world_of t) t.members n (suc m) place inodes (world_of u) u.members
      next_noted = noted_so t n (suc m) same.shape same.sound next_here next_client count few_next whole_next

      next_same : StillSame s u n (suc m)
      next_same = record {
        clients = same.clients;
        levels = same.levels;
        cuts = same.cuts;
        history = same.history;
        limit = same.limit;
        hot = region_keeps t.nodes n _ refl ∙ same.hot;
        lists = λ none. still_none t.members n inodes (same.lists none);
        full = next_noted.digests.full ∙ same.full;
        received = λ c. same_received (world_of t) (world_of u) n (suc m) place next_noted.digests c ∙ same.received c;
        border = λ c k. next_noted.digests.logs.border c k ∙ same.border c k;
        later = λ c above. next_noted.digests.digested_else n c next_noted.digests.full_node (λ is own. omega (arith, above, own))
            ∙ same.later c (omega (arith, above));
        shape = next_shape t n (suc m) same.shape same.sound next_here next_client count few_next whole_next;
        sound = next_sound t n (suc m) same.shape same.sound next_here next_client count few_next whole_next;
      }

  -- fewer clients' parts do
  fewer_whole : (count m : ℕ) → EndWithGroups w n count (suc m) → EndWithGroups w n count m
  fewer_whole count m whole c low = whole c (omega (arith, low))

  pub same_to : (count m : ℕ) → m ≤ length s.clients → EndWithGroups w n count m → StillSame s (digests_to s n count m) n m
  same_to count zero last whole = assumption
  same_to count (suc m) last whole =
      next_same (digests_to s n count m) m (same_to count m (omega (arith, last)) (fewer_whole count m whole))
      (omega (arith, last)) (part_of w n count (suc m)) (omega arith) (whole m (omega arith))

  pub trace_to : (count m : ℕ) → m ≤ length s.clients → EndWithGroups w n count m → DigestsTo n count w w s.members m (world_of (digests_to s n count m))
      (digests_to s n count m).members
  trace_to count zero last whole = (refl, refl)
  trace_to count (suc m) last whole =
      let t : StateValue = digests_to s n count m in
      let same : StillSame s t n m = same_to count m (omega (arith, last)) (fewer_whole count m whole) in (
        world_of t,
        (
          t.members,
          (
            trace_to count m (omega (arith, last)) (fewer_whole count m whole),
            record {
              inodes = set.from_list (touched (all_effects (take (part_of w n count (suc m)) (ahead (log_in t.nodes n (suc m))))));
              digests = next_noted t m same (omega (arith, last)) (part_of w n count (suc m)) (omega arith) (whole m (omega arith));
            },
          ),
        ),
      )

  -- ---- other counts give the same

  -- where each has enough for all
  enough_same : (a b m : ℕ) → undigested_to w n m ≤ a → undigested_to w n m ≤ b → digests_to s n a m ≡ digests_to s n b m
  enough_same a b zero first second = refl
  enough_same a b (suc m) first second = grind (arith, enough_same a b m (omega (arith, first)) (omega (arith, second)))

  none_more : (count m : ℕ) → m < length s.clients → EndWithGroups w n count m → part_of w n count (suc m) ≡ 0 → digests_to s n count (suc m)
      ≡ digests_to s n count m
  none_more count m last whole none =
      let t : StateValue = digests_to s n count m in
      let same : StillSame s t n m = same_to count m (omega (arith, last)) whole in
      ap (digests_some t n (suc m)) none
      ∙ none_digested t n (suc m) (has_here t n (suc m) same.shape same.sound (next_here t m same last) (next_client t m same last))

  -- it ended before
  pub stopped_before : (count m : ℕ) → m < length s.clients → EndWithGroups w n count m → count ≤ undigested_to w n m → digests_to s n count (suc m)
      ≡ digests_to s n count m
  stopped_before count m last whole few = none_more count m last whole (omega (arith, few))

  -- nothing ends with a group
  nothing_whole : (c : ℕ) → EndsWithGroup w n (suc c) 0
  nothing_whole c =
      let border : w.border (suc c) (w.digested n (suc c)) ≡ true = ∥∥₁_elim sound (search props)
      (λ h. (h.coherent.order n (suc c) (seen_full s n here)).digested_border) in
      let place : w.digested n (suc c) + 0 ≡ w.digested n (suc c) = omega arith in
      ap (w.border (suc c)) place ∙ border

  none_parts : (m : ℕ) → EndWithGroups w n 0 m
  none_parts m c low = (let none : part_of w n 0 (suc c) ≡ 0 = omega arith in subst (EndsWithGroup w n (suc c)) (sym none) (nothing_whole c))

  pub none_to : (m : ℕ) → m ≤ length s.clients → digests_to s n 0 m ≡ s
  none_to zero last = refl
  none_to (suc m) last = none_more 0 m (omega (arith, last)) (none_parts m) (omega arith) ∙ none_to m (omega (arith, last))

  -- of clients before there is at least as much
  before_low : (c m : ℕ) → c ≤ m → undigested_to w n c ≤ undigested_to w n m
  before_low c zero low = (let same : c ≡ 0 = omega (arith, low) in subst (λ k. undigested_to w n k ≤ 0) (sym same) (omega arith))
  before_low c (suc m) low =
      elim (cases_eq c (suc m)) [
        | inl last ↦ subst (λ k. undigested_to w n k ≤ undigested_to w n (suc m)) (sym last) (omega arith)
        | inr before ↦ (let rest = before_low c m (omega (arith, low, before)) in omega (arith, rest))
      ]

  stopped_whole : (count m : ℕ) → count ≤ undigested_to w n m → EndWithGroups w n count m → EndWithGroups w n count (suc m)
  stopped_whole count m few whole c low = grind (arith, nothing_whole c)

  parts_behind : (a b m : ℕ) → a ≡ min most_digested (undigested_to w n m) → b ≤ min (most_digested - a) (undigested w n (suc m)) → EndWithGroups w n a m →
      EndsWithGroup w n (suc m) b →
      EndWithGroups w n (a + b) (suc m)
  parts_behind a b m all few whole own c low =
      elim (cases_eq c m) [
        | inl last ↦
            grind arith
        | inr before ↦
            grind (arith, before_low (suc c) m (omega (arith, low, before)))
      ]

  -- a client's part behind those of the clients before
  pub part_behind : (a b m : ℕ) → a ≡ min most_digested (undigested_to w n m) → b ≤ min (most_digested - a) (undigested w n (suc m)) →
      digests_some (digests_to s n a m) n (suc m) b ≡ digests_to s n (a + b) (suc m)
  part_behind a b m all few = grind (arith, cases_lt, enough_same)

  -- ---- as the code finds it

  pub same_as : (m : ℕ) {t : StateValue} {a : ℕ} {r e : Bool} → m ≤ length s.clients → GoesTo s n m t a r e → StillSame s t n m
  same_as m {t} {a} last go = subst (λ u. StillSame s u n m) (sym go.digests) (same_to a m last go.groups)

  -- it ended before the next client
  past_more : (m : ℕ) {t : StateValue} {a : ℕ} {r e : Bool} → m < length s.clients → GoesTo s n m t a r e → e ≡ true → GoesTo s n (suc m) t a r e
  past_more m {t} {a} {r} {e} low go stopped = grind (arith, stopped_before, stopped_whole)

  -- the next client's part more: where there was something to digest before, some was, and else there are 64 left of the most
  part_more : (m : ℕ) {t u : StateValue} {a b : ℕ} {was r e : Bool} → m < length s.clients → GoesTo s n m t a was false →
      Part t n (suc m) (most_digested - a) u b r e → GoesTo s n (suc m) u (a + b) r e
  part_more m {t} {u} {a} {b} low go part =
      let whole = go.all refl in
      let same = same_as m (omega (arith, low)) go in
      let left = next_undigested t m same low in
      let few : b ≤ min (most_digested - a) (undigested w n (suc m)) = omega (arith, part.few, left) in
      record {
        digests = part.digests ∙ ap (λ v. digests_some v n (suc m) b) go.digests ∙ part_behind a b m whole few;
        groups = parts_behind a b m whole few go.groups (sym (border_next t m same low b) ∙ part.group);
        few = omega (arith, whole, few);
        all = λ fine. omega (arith, whole, part.all fine, left);
        ended = λ yes. omega (arith, whole, part.ended yes, left);
        refused = part.refused;
        some = grind arith;
      }

  pub goes_past : (k : ℕ) {t : StateValue} {a : ℕ} {r e : Bool} → 1 ≤ k → k ≤ length s.clients → GoesTo s n (k - 1) t a r e → e ≡ true → GoesTo s n k t a r e
  goes_past k {t} {a} {r} {e} some low go stopped = grind (arith, past_more (k - 1) (omega (arith, some, low)) go stopped)

  pub goes_on : (k : ℕ) {t u : StateValue} {a b : ℕ} {was r e : Bool} → 1 ≤ k → k ≤ length s.clients → GoesTo s n (k - 1) t a was false →
      Part t n k (most_digested - a) u b r e → GoesTo s n k u (a + b) r e
  goes_on k {t} {u} {a} {b} {was} {r} {e} some low go =
      let next : suc (k - 1) ≡ k = omega (arith, some) in
      subst (λ j. Part t n j (most_digested - a) u b r e → GoesTo s n j u (a + b) r e) next (part_more (k - 1) (omega (arith, some, low)) go)
