-- What a failure lists, as the laws have it.
use Rattle.assise_machine_failures.proofs.Common.{◌≡◌, ℕ, zero, suc, ◌-◌, ◌≤◌, true, false, List, [], take, drop, length, Option, Some, inl, inr, refl, ap, sym}
use Rattle.assise_machine_failures.proofs.Common.{subst, ◌∙◌, arith, append-nil, eqb-true, true≢false, cases_Bool, cases_eq, cases_lt, or_cases, or_left}
use Rattle.assise_machine_failures.proofs.Common.{get_or_past, nat_cmp, contains-from_list_nat, LogRecord, all_effects, contains, touched, Among, no_log}
use Rattle.assise_machine_failures.proofs.Common.{donor_of, Standing, standing_of, kept_at_failure, World, records_between, client_in, log_in, own_node}
use Rattle.assise_machine_failures.proofs.Common.{own_seen, world_of, IsNumber, item_at, ShapeInvariant, StateValue, standings, numbers, filled_from, is_number}
use Rattle.assise_machine_failures.proofs.Common.{kept_inodes}
use Rattle.std.specs.FinSet as set
use Rattle.assise_inode_table.proofs.Shared.EffectValues.{contains-append}
use Rattle.assise_lease_table.proofs.Shared.Elements.{among_prefix, among_last, among_push}
use Rattle.assise_machine_failures.proofs.Cuts.{touched_kept}

-- ---- the inodes of kept records

touched_to : (w : World) (n m i : ℕ) → contains (kept_inodes w n m) i ≡ true → (c : ℕ) × (contains (touched_kept w n c) i ≡ true)
touched_to w n zero i there = cc
touched_to w n (suc m) i there =
    elim (or_cases (contains (kept_inodes w n m) i) (contains (touched_kept w n (suc m)) i)
    (sym (contains-append (kept_inodes w n m) (touched_kept w n (suc m)) i) ∙ there)) [
      | inl before ↦ touched_to w n m i before
      | inr here ↦ (suc m, here)
    ]

to_touched : (w : World) (n m c i : ℕ) → 1 ≤ c → c ≤ m → contains (touched_kept w n c) i ≡ true → contains (kept_inodes w n m) i ≡ true
to_touched w n zero c i low high there = absurd (omega (arith, low, high))
to_touched w n (suc m) c i low high there =
    contains-append (kept_inodes w n m) (touched_kept w n (suc m)) i
    ∙ elim (cases_eq c (suc m)) [
      | inl last ↦ grind arith
      | inr other ↦ or_left (contains (kept_inodes w n m) i) (contains (touched_kept w n (suc m)) i)
          (to_touched w n m c i low (omega (arith, high, other)) there)
    ]

-- ---- who is no client has no records

not_seen : {X : Type 0} (none : X) (xs : List X) (d : ℕ) → (IsNumber xs d → ⊥) → item_at none xs d ≡ none
unfolding item_at
not_seen none xs zero other = refl
not_seen none xs (suc k) other = grind (arith, get_or_past)

no_log_seen : (s : StateValue) (m c : ℕ) → ShapeInvariant s → (IsNumber s.clients c → ⊥) → log_in s.nodes m c ≡ no_log
unfolding log_in
no_log_seen s m c shape other = grind (arith, not_seen)

no_records : (s : StateValue) (c : ℕ) → ShapeInvariant s → (IsNumber s.clients c → ⊥) → (world_of s).records c ≡ []
unfolding world_of own_seen
no_records s c shape other = ap (λ l. l.log.records) (no_log_seen s (own_node (standings s) (client_in s.clients c)) c shape other)

abbrev no_record : List LogRecord
no_record = []

none_between : (j k : ℕ) → take k (drop j no_record) ≡ []
none_between zero zero = refl
none_between zero (suc k) = refl
none_between (suc j) zero = refl
none_between (suc j) (suc k) = refl

none_kept : (s : StateValue) (n c i : ℕ) → ShapeInvariant s → (IsNumber s.clients c → ⊥) → contains (touched_kept (world_of s) n c) i ≡ false
unfolding records_between
none_kept s n c i shape other = grind (arith, no_records)

-- ---- the inodes that are listed are those that the records touch which are left

module _ (s : StateValue) (n : ℕ) (v : World) (inodes : List ℕ) (listed : inodes ≡ kept_inodes (world_of s) n (length s.clients))
    (records : (c : ℕ) → v.records c ≡ records_between (world_of s) c ((world_of s).first c) (kept_at_failure (world_of s) n c))
  where
    has_listed : (i : ℕ) → set.contains (set.from_list {R = nat_cmp} inodes) i ≡ contains (kept_inodes (world_of s) n (length s.clients)) i
    has_listed i = contains-from_list_nat inodes i ∙ ap (λ is. contains is i) listed

    as_kept : (c i : ℕ) → contains (touched (all_effects (v.records c))) i ≡ contains (touched_kept (world_of s) n c) i
    as_kept c i = ap (λ rs. contains (touched (all_effects rs)) i) (records c)

    pub touched_only : (i : ℕ) → set.contains (set.from_list {R = nat_cmp} inodes) i ≡ true →
        (c : ℕ) × (contains (touched (all_effects (v.records c))) i ≡ true)
    touched_only i there = (let t = touched_to (world_of s) n (length s.clients) i (sym (has_listed i) ∙ there) in (t.0, as_kept t.0 i ∙ t.1))

    no_client : (c i : ℕ) → ShapeInvariant s → contains (touched (all_effects (v.records c))) i ≡ true → (IsNumber s.clients c → ⊥) → ⊥
    no_client c i shape there other = true≢false (sym there ∙ as_kept c i ∙ none_kept s n c i shape other)

    pub touched_all : ShapeInvariant s → (c i : ℕ) → contains (touched (all_effects (v.records c))) i ≡ true → set.contains (set.from_list {R = nat_cmp} inodes)
        i ≡ true
    touched_all shape zero i there = absurd (no_client zero i shape there (λ is. omega (arith, is.some)))
    touched_all shape (suc k) i there =
        elim (cases_lt k (length s.clients)) [
          | inl low ↦ has_listed i ∙ to_touched (world_of s) n (length s.clients) (suc k) i (omega arith) (omega (arith, low)) (sym (as_kept (suc k) i) ∙ there)
          | inr past ↦ absurd (no_client (suc k) i shape there (λ is. omega (arith, is.there, past)))
        ]

-- ---- the nodes that are listed are those that are filled from the node

number_is : (n : ℕ) (o : Option ℕ) → is_number n o ≡ true → o ≡ Some n
number_is n o is = grind (arith, eqb-true)

filled_of : (nodes : List Standing) (n m k : ℕ) → Among (filled_from nodes n m) k → donor_of (standing_of nodes k) ≡ Some n
filled_of nodes n zero k there = absurd there
filled_of nodes n (suc m) k there =
    elim (cases_Bool (is_number n (donor_of (standing_of nodes (suc m))))) [
      | inl from ↦ elim (among_push (filled_from nodes n m) (suc m) k (rw from at there)) [
        | inl before ↦ filled_of nodes n m k before
        | inr last ↦ subst (λ j. donor_of (standing_of nodes j) ≡ Some n) (sym last) (number_is n (donor_of (standing_of nodes (suc m))) from)
      ]
      | inr other ↦ filled_of nodes n m k (subst (λ ks. Among ks k) (append-nil (filled_from nodes n m)) (rw other at there))
    ]

of_filled : (nodes : List Standing) (n m k : ℕ) → 1 ≤ k → k ≤ m → donor_of (standing_of nodes k) ≡ Some n → Among (filled_from nodes n m) k
of_filled nodes n zero k low high from = absurd (omega (arith, low, high))
of_filled nodes n (suc m) k low high from =
    elim (cases_eq k (suc m)) [
      | inl last ↦
          grind (arith, among_last)
      | inr other ↦
          grind (arith, of_filled nodes n m k low (omega (arith, high, other)) from, among_prefix, append-nil)
    ]

stands_somehow : (nodes : List Standing) (k n : ℕ) → donor_of (standing_of nodes k) ≡ Some n → (1 ≤ k) × (k ≤ length nodes)
stands_somehow nodes k n from = grind (arith, numbers)

module _ (s : StateValue) (n : ℕ) (nodes : List ℕ) (listed : nodes ≡ filled_from (standings s) n (length s.nodes)) where
  pub filled_only : (k : ℕ) → Among nodes k → donor_of (standing_of (standings s) k) ≡ Some n
  filled_only k there = filled_of (standings s) n (length s.nodes) k (subst (λ ks. Among ks k) listed there)

  pub filled_all : ShapeInvariant s → (k : ℕ) → donor_of (standing_of (standings s) k) ≡ Some n → Among nodes k
  filled_all shape k from = grind (arith, stands_somehow, of_filled)
