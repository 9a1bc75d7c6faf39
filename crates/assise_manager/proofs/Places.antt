-- Nodes as they stand in a list, seen by their standings.
use Rattle.assise_manager.proofs.Common.{◌≡◌, ℕ, Bool, zero, suc, ◌+◌, ◌-◌, ◌<◌, ◌≤◌, true, false, List, [], ◌∷◌, ◌++◌, map, take, drop, length, Option, Some}
use Rattle.assise_manager.proofs.Common.{None, inl, inr, IsSome, IfSome, is_some, Bor, ltb, eqb, cond, refl, sym, ap, ◌∙◌, subst, rules, arith, true≢false}
use Rattle.assise_manager.proofs.Common.{add-one, list_all, slice_get, slice_set, slice_index_or, option_map, nat_cmp, slice_get-map, ltb-true, lt-ltb, eq-eqb}
use Rattle.assise_manager.proofs.Common.{ne_eqb, map-set, map-append, drop-map, take-append_seam, Level, Plain, joined_levels, plains, donor_of, joined}
use Rattle.assise_manager.proofs.Common.{with_epoch, failed, refilled_from, failure_fault, failure_fault_of, filling_fault, filling_fault_of, is_returning}
use Rattle.assise_manager.proofs.Common.{is_away, stale_of, copied_as, IsLowestOf, fulls, standing, stale_inodes, listed_inodes, listed_since, lowest_besides}
use Rattle.assise_manager.proofs.Common.{LastNode, WrittenList, Membership, IsMembership, is_known, first_listed, all_inodes, written_since, lowest_full}
use Rattle.assise_manager.proofs.Common.{Standing, returning, standing_of, with_standing, full_from, full_nodes, is_full}
use Rattle.std.proofs.Common.{option_copied}
use Rattle.std.specs.FinSet as set
use Rattle.assise_manager.specs.declared.node.Node.{Node}
use Rattle.assise_manager.specs.declared.node.Node.TheVariants.{Full}
use Rattle.assise_manager.specs.declared.node.Return.{Return}
use Rattle.assise_manager.proofs.Shared.Nodes.{full_from_set_away, count_all_full, all_full_count, set_place}
use Rattle.assise_manager.proofs.Shared.Lawful.{known_of, copied_lawful, listed_both, one_fewer, same_first}
use Rattle.assise_manager.proofs.AscendingSets.{lowest_or_none}
use Rattle.assise_manager.specs.Standings.{full, down}

-- a slice that was changed in the place of a vector's items
pub whole : {X : Type 0} (xs new : List X) (n : ℕ) → n ≡ length xs → length new ≡ length xs → take n (new ++ drop (length new) xs) ≡ new
whole xs new n e f = ap (λ k. take k (new ++ drop (length new) xs)) (e ∙ sym f) ∙ take-append_seam new (drop (length new) xs)

-- the standing of a node of a number above 0
pub standing_at : (xs : List Node) (node : ℕ) → 0 < node → standing_of (map standing xs) node ≡ option_map standing (slice_get xs (node - 1))
standing_at xs zero p = absurd (omega arith)
standing_at xs (suc place) p = slice_get-map standing xs place ∙ ap (λ n. option_map standing (slice_get xs n)) (sym (one_fewer place))

at_place : (xs : List Node) (place : ℕ) (d : Node) → IsSome (slice_get (map standing xs) place) → slice_get (map standing xs) place
    ≡ Some (standing (slice_index_or xs place d))
at_place [] place d there = absurd (true≢false (sym there))
at_place (x ∷ xs) zero d there = refl
at_place (x ∷ xs) (suc place) d there = at_place xs place d there

-- a node that is there stands in its place
pub stands_at : (xs : List Node) (node : ℕ) (d : Node) → IsSome (standing_of (map standing xs) node) → standing_of (map standing xs) node
    ≡ Some (standing (slice_index_or xs (node - 1) d))
stands_at xs zero d there = absurd (true≢false (sym there))
stands_at xs (suc place) d there = at_place xs place d there ∙ ap (λ n. Some (standing (slice_index_or xs n d))) (sym (one_fewer place))

pub some_of : (o : Option Standing) → is_returning o ≡ true → IsSome o
some_of None back = absurd (true≢false (sym back))
some_of (Some s) back = refl

-- a node that comes back stands in its place
pub back_at : (xs : List Node) (node : ℕ) (d : Node) → is_returning (standing_of (map standing xs) node) ≡ true → standing_of (map standing xs) node
    ≡ Some (standing (slice_index_or xs (node - 1) d))
back_at xs node d back = stands_at xs node d (some_of _ back)

-- a node that was let stand otherwise does
pub stands_now : (nodes : List Standing) (node : ℕ) (s : Standing) → IsSome (standing_of nodes node) → standing_of (with_standing nodes node s) node ≡ Some s
stands_now nodes zero s there = absurd (true≢false (sym there))
stands_now nodes (suc place) s there = ap (λ n. slice_get (slice_set nodes n s) place) (one_fewer place) ∙ set_place nodes place s there

same_place : (xs : List Standing) (place : ℕ) (s : Standing) → slice_get xs place ≡ Some s → slice_set xs place s ≡ xs
same_place [] place s at = refl
same_place (x ∷ xs) zero s at = let same : s ≡ x = cc in ap (λ y. y ∷ xs) same
same_place (x ∷ xs) (suc place) s at = ap (λ ys. x ∷ ys) (same_place xs place s at)

-- a node that is let stand as it did
pub same_standing : (nodes : List Standing) (node : ℕ) (s : Standing) → standing_of nodes node ≡ Some s → with_standing nodes node s ≡ nodes
same_standing nodes zero s at = grind (rules)
same_standing nodes (suc place) s at = ap (λ n. slice_set nodes n s) (one_fewer place) ∙ same_place nodes place s at

item_there : {X : Type 0} (xs : List X) (i : ℕ) (r : Option (Bor X)) → (IsSome r → i < length xs) → (i < length xs → IsSome r) →
    IfSome r (λ x. x.now ≡ slice_index_or xs i x.now) → option_copied r ≡ slice_get xs i
item_there [] i None some there at = refl
item_there [] i (Some y) some there at = absurd (let h : i < 0 = some refl in omega arith)
item_there (x ∷ xs) zero None some there at = absurd (true≢false (sym (there (omega arith))))
item_there (x ∷ xs) zero (Some y) some there at = ap Some at
item_there (x ∷ xs) (suc i) r some there at = item_there xs i r (λ h. let k : suc i < suc (length xs) = some h in omega arith) (λ h. there (omega arith)) at

-- an item of a list, lent and copied
pub item_is : {X : Type 0} (xs : List X) (i : ℕ) (r : Option (Bor X)) → is_some r ≡ ltb i (length xs) → IfSome r (λ x. x.now ≡ slice_index_or xs i x.now) →
    option_copied r ≡ slice_get xs i
item_is xs i r e at = item_there xs i r (λ h. ltb-true i (length xs) (sym e ∙ h)) (λ h. e ∙ lt-ltb i (length xs) h) at

pub away_back : (o : Option Standing) → is_returning o ≡ true → is_away o ≡ true
away_back None back = back
away_back (Some full) back = back
away_back (Some (down since)) back = refl
away_back (Some (returning since donor stale)) back = refl

-- a node that isn't full is let stand otherwise, not full
pub full_away : (nodes : List Standing) (node : ℕ) (s : Standing) → is_away (standing_of nodes node) ≡ true → is_away (Some s) ≡ true →
    full_nodes (with_standing nodes node s) ≡ full_nodes nodes
full_away nodes zero s at now = absurd (true≢false (sym at))
full_away nodes (suc place) s at now = ap (λ n. full_nodes (slice_set nodes n s)) (one_fewer place) ∙ full_from_set_away 1 nodes place s at now

fulls_last : (n : ℕ) → fulls n ++ full ∷ [] ≡ fulls (suc n)
fulls_last zero = refl
fulls_last (suc n) = ap (λ l. full ∷ l) (fulls_last n)

-- one full node more
plains_last : (n : ℕ) → plains n ++ Plain ∷ [] ≡ plains (suc n)
plains_last zero = refl
plains_last (suc n) = ap (λ l. Plain ∷ l) (plains_last n)

pub plains_push : (xs : List Level) (n : ℕ) → xs ≡ plains n → xs ++ Plain ∷ [] ≡ plains (n + 1)
plains_push xs n e = ap (λ l. l ++ Plain ∷ []) e ∙ plains_last n ∙ ap plains (sym (add-one n))

pub fulls_push : (xs : List Node) (n : ℕ) → map standing xs ≡ fulls n → map standing (xs ++ Full ∷ []) ≡ fulls (n + 1)
fulls_push xs n e = map-append standing xs (Full ∷ []) ∙ ap (λ l. l ++ full ∷ []) e ∙ fulls_last n ∙ ap fulls (sym (add-one n))

-- the first of some numbers, whatever is read where there are none
pub first_of : (xs : List ℕ) (d : ℕ) → 0 < length xs → slice_index_or xs 0 d ≡ slice_index_or xs 0 0
first_of [] d some = absurd (omega arith)
first_of (x ∷ xs) d some = refl

-- what is known of a node that comes back, in equal words
pub known_as : (m : Membership) (since d e : ℕ) (s t : set.FinSet nat_cmp) → d ≡ e → s ≡ t → is_known m (returning since e t) ≡ true →
    is_known m (returning since d s) ≡ true
known_as m since d e s t same_donor same_stale known = cc

further : (k i : ℕ) → suc k + i ≡ k + suc i
further k i = omega arith

-- the first of the full nodes, as it is read
pub donor_is : (xs ys : List ℕ) (d : ℕ) → xs ≡ ys → 0 < length ys → d ≡ slice_index_or xs 0 d → d ≡ slice_index_or ys 0 0
donor_is xs ys d same some read = read ∙ ap (λ l. slice_index_or l 0 d) same ∙ first_of ys d some

-- the lowest full node once another failed
pub lowest_after : (k : ℕ) (xs : List Standing) (i e : ℕ) → slice_get xs i ≡ Some full → 1 < length (full_from k xs) →
    slice_index_or (full_from k (slice_set xs i (down e))) 0 0 ≡ cond (eqb (slice_index_or (full_from k xs) 0 0) (k + i)) (slice_index_or (full_from k xs) 1 0)
    (slice_index_or (full_from k xs) 0 0)
lowest_after k [] i e at more = absurd (omega arith)
lowest_after k (full ∷ xs) zero e at more = sym (ap (λ b. cond b (slice_index_or (full_from (suc k) xs) 0 0) k) (eq-eqb k (k + 0) (omega arith)))
lowest_after k (down since ∷ xs) zero e at more = grind (rules)
lowest_after k (returning since donor stale ∷ xs) zero e at more = grind (rules)
lowest_after k (full ∷ xs) (suc i) e at more = sym (ap (λ b. cond b (slice_index_or (full_from (suc k) xs) 0 0) k) (ne_eqb k (k + suc i) (omega arith)))
lowest_after k (down since ∷ xs) (suc i) e at more = grind (arith, lowest_after (suc k) xs i e at more)
lowest_after k (returning since donor stale ∷ xs) (suc i) e at more = grind (arith, lowest_after (suc k) xs i e at more)

-- where a node is down there is a list
pub down_listed : (m : Membership) (node since : ℕ) → IsMembership m → standing_of m.nodes node ≡ Some (down since) → 0 < length m.written
down_listed m node since lawful at = let both = listed_both m since (known_of m node (down since) lawful at) in omega (arith, both.0, both.1)

-- the inodes of the lists from an epoch on, as they are read
pub since_is : (written seen lists : List WrittenList) (since f first : ℕ) → lists ≡ drop (since - f) seen → f ≡ first → seen ≡ written →
    all_inodes (map listed_inodes lists) ≡ all_inodes (drop (since - first) (map listed_inodes written))
since_is written seen lists since f first read from_first is = grind (arith, drop-map)

pub one_less : (epoch read lists : ℕ) → read ≡ lists → 0 < lists → lists ≤ epoch → epoch - (read - 1) ≡ (epoch + 1) - lists
one_less epoch read lists e some within = omega arith

-- what stands where a full node failed, whichever change comes first
pub failed_nodes : (f : Standing → Standing) (nodes : List Standing) (node e : ℕ) → f (down e) ≡ down e → with_standing (map f nodes) node (down e)
    ≡ map f (with_standing nodes node (down e))
failed_nodes f nodes node e same = sym (map-set f nodes (node - 1) (down e) ∙ ap (slice_set (map f nodes) (node - 1)) same)

filling : (m : Membership) (node since donor : ℕ) (stale : set.FinSet nat_cmp) → standing_of m.nodes node ≡ Some (returning since donor stale) →
    filling_fault m node ≡ None
filling m node since donor stale at = ap filling_fault_of at

-- whether a node that comes back lacked an inode or none
pub copied_either : (epoch : ℕ) (written : List (set.FinSet nat_cmp)) (node : ℕ) (r : Return) (old new : List Standing) →
    (levels : List Level) → IsMembership (record { epoch = epoch; nodes = old; written = written; levels = levels }) →
    standing_of old node ≡ Some (returning r.since r.donor (stale_inodes r.stale)) →
    ((inode : ℕ) → IsLowestOf (stale_of (standing_of old node)) (Some inode) → new ≡ copied_as old node inode (standing_of old node)) →
    (IsLowestOf (stale_of (standing_of old node)) None → new ≡ old) →
    IsMembership (record { epoch = epoch; nodes = new; written = written; levels = levels })
copied_either epoch written node r old new levels lawful at copies none =
    elim (lowest_or_none r.stale.inodes.items r.stale.ascending) [
      | inl empty ↦ grind arith
      | inr (inode, low) ↦ subst (λ ns. IsMembership (record { epoch = epoch; nodes = ns; written = written; levels = levels }))
          (sym (copies inode (subst (λ o. IsLowestOf (stale_of o) (Some inode)) (sym at) low)))
          (copied_lawful (record { epoch = epoch; nodes = old; written = written; levels = levels }) node lawful
          (filling (record { epoch = epoch; nodes = old; written = written; levels = levels }) node r.since r.donor (stale_inodes r.stale) at) inode)
    ]

-- the inodes since each epoch once a list was added, as they are read
pub listed_is : (m : Membership) (node : ℕ) (inodes : set.FinSet nat_cmp) (lists : List WrittenList) (first : ℕ) →
    map listed_inodes lists ≡ m.written ++ inodes ∷ [] → first ≡ first_listed (with_epoch m node inodes) → listed_since lists first
    ≡ written_since (with_epoch m node inodes)
listed_is m node inodes lists first same begins i since = all_inodes (drop (since - begins i) (same i))

-- the first epoch that has a list, once one was added
pub first_is : (m : Membership) (node : ℕ) (inodes : set.FinSet nat_cmp) (len : ℕ) → IsMembership m → len ≡ length m.written →
    m.epoch + 1 - len ≡ first_listed (with_epoch m node inodes)
first_is m node inodes len lawful e = ap (λ n. m.epoch + 1 - n) e ∙ sym (same_first m (with_standing m.nodes node (down (m.epoch + 1))) inodes)

-- what stands once a full node failed
pub failed_is : (m : Membership) (node : ℕ) (inodes : set.FinSet nat_cmp) (written : ℕ → set.FinSet nat_cmp) (donor : ℕ) (lists : List (set.FinSet nat_cmp))
    (new : List Standing) →
    standing_of m.nodes node ≡ Some full → written ≡ written_since (with_epoch m node inodes) →
    donor ≡ lowest_full (with_standing m.nodes node (down (m.epoch + 1))) → lists ≡ m.written ++ inodes ∷ [] →
    new ≡ with_standing (map (refilled_from written donor node) m.nodes) node (down (m.epoch + 1)) →
    record { epoch = m.epoch + 1; nodes = new; written = lists; levels = m.levels } ≡ failed m node inodes
failed_is m node inodes written donor lists new at same_written same_donor same_lists is = grind (arith, failed_nodes)

-- nothing speaks against the failure of a full node that isn't the only one
pub may_fail : (m : Membership) (node : ℕ) → standing_of m.nodes node ≡ Some full → 1 < length (full_nodes m.nodes) → failure_fault m node ≡ None
may_fail m node at others = ap (failure_fault_of m) at ∙ ap (λ b. cond b (Some LastNode) None) (ne_eqb (length (full_nodes m.nodes)) 1 (omega arith))

-- the lowest full node once another failed, as it is read
pub new_donor_is : (nodes : List Standing) (node e : ℕ) → standing_of nodes node ≡ Some full → 1 < length (full_nodes nodes) →
    lowest_full (with_standing nodes node (down e)) ≡ lowest_besides (full_nodes nodes) node
new_donor_is nodes zero e at more = grind (rules)
new_donor_is nodes (suc place) e at more = grind (arith, lowest_after)

-- what stands once a node joined: where all nodes are full the lists go
pub joined_is : (m : Membership) (node : ℕ) (new : List Standing) (lists : List (set.FinSet nat_cmp)) (levels : List Level) (all : Bool)
    → new ≡ with_standing m.nodes node full
    → lists ≡ cond all [] (m.written ++ set.empty ∷ []) → list_all is_full (with_standing m.nodes node full) ≡ all
    → levels ≡ joined_levels m.levels node (donor_of (standing_of m.nodes node))
    → record { epoch = m.epoch + 1; nodes = new; written = lists; levels = levels } ≡ joined m node
joined_is m node new lists levels all is left whether raised = grind arith

-- as many full nodes as nodes
pub all_counted : (xs : List Standing) (full_count count : ℕ) → full_count ≡ length (full_nodes xs) → count ≡ length xs → full_count ≡ count →
    list_all is_full xs ≡ true
all_counted xs full_count count e f same = count_all_full 1 xs (sym e ∙ same ∙ f)

pub some_away : (xs : List Standing) (full_count count : ℕ) → full_count ≡ length (full_nodes xs) → count ≡ length xs → (full_count ≡ count → ⊥) →
    list_all is_full xs ≡ false
some_away xs full_count count e f other = grind (arith, all_full_count)
