-- What the changes keep: each leaves a lawful membership lawful.
use Rattle.assise_manager.proofs.Common.{[], ◌≡◌, ℕ, zero, suc, ◌+◌, ◌-◌, ◌<◌, ◌≤◌, Bool, true, false, cond, Option, Some, None, List, ◌∷◌, ◌++◌, drop, length}
use Rattle.assise_manager.proofs.Common.{refl, sym, ap, ◌∙◌, subst, arith, true≢false, ◌==◌, list_all, list_any, slice_get, nat_cmp, contains-union}
use Rattle.assise_manager.proofs.Common.{contains-empty, contains-remove, nat_cmp_total, and_from, or_left, or_right, cond_both, none-some, length-append}
use Rattle.assise_manager.proofs.Common.{length-map, length-set, BadNode, WrongPhase, LastNode, Standing, is_full, full_nodes, standing_of, with_standing, full}
use Rattle.assise_manager.proofs.Common.{down, Membership, IsMembership, first_listed, all_inodes, written_since, lowest_full, is_listed, is_known, fulls}
use Rattle.assise_manager.proofs.Common.{all_full, with_node, refilled_from, with_new_donor, with_epoch, failed_as, failed, failure_fault_of, failure_fault}
use Rattle.assise_manager.proofs.Common.{back_as, back, return_fault_of, return_fault, is_away, filling_fault_of, filling_fault, copied_as, with_copied, joined}
use Rattle.assise_manager.proofs.Common.{join_fault, with_written, stale_again, donor_of, noted, raised, greater, joined_levels, level_of, plains, Level}
use Rattle.std.specs.FinSet as set
use Rattle.assise_names.specs.declared.refusal.Refusal.{Refusal}
use Rattle.assise_manager.specs.Standings.Standing.{returning}
use Rattle.assise_manager.specs.MemberCalls.{MemberCall, MemberCallDoes, AllMemberCalls}
use Rattle.assise_manager.specs.MemberCalls.MemberCall.{fail, come_back, note_copied, join, note_written, raise}
use Rattle.assise_manager.proofs.Shared.Sets.{Numbers, all_push}
use Rattle.assise_manager.proofs.Shared.Nodes.{never, full_from_set_away, full_from_map, all_full_map, full_there, list_all_set, list_all_map, list_all_more}
use Rattle.assise_manager.proofs.Shared.Nodes.{list_all_place, slice_get_set, others_stay, one_full_less, all_stay, no_fewer_full, first_there}

-- ---- sets within sets

-- what is in the one is in the other
abbrev pub Within : Numbers → Numbers → Type 0
Within s t = (q : ℕ) → set.contains s q ≡ true → set.contains t q ≡ true

pub subset_within : (s t : Numbers) → set.is_subset s t ≡ true → Within s t
subset_within s t subset = set.is_subset-contains nat_cmp_total s t subset

pub within_subset : (s t : Numbers) → Within s t → set.is_subset s t ≡ true
within_subset s t within = set.contains-is_subset nat_cmp_total s t within

pub subset_more : (s t u : Numbers) → set.is_subset s t ≡ true → Within t u → set.is_subset s u ≡ true
subset_more s t u subset within = within_subset s u (λ q inside. within q (subset_within s t subset q inside))

pub union_left : (s t : Numbers) → Within s (set.union s t)
union_left s t q inside = contains-union nat_cmp_total s t q ∙ or_left (set.contains s q) (set.contains t q) inside

pub union_right : (s t : Numbers) → Within t (set.union s t)
union_right s t q inside = contains-union nat_cmp_total s t q ∙ or_right (set.contains s q) (set.contains t q) inside

union_within : (s t u : Numbers) → Within s u → Within t u → Within (set.union s t) u
union_within s t u left right q inside = grind (arith, contains-union, nat_cmp_total)

union_both : (s t u v : Numbers) → Within s u → Within t v → Within (set.union s t) (set.union u v)
union_both s t u v left right = union_within s t (set.union u v) (λ q i. union_left u v q (left q i)) (λ q i. union_right u v q (right q i))

pub nothing_within : (s : Numbers) → Within set.empty s
nothing_within s q inside = never (sym (contains-empty nat_cmp q) ∙ inside)

remove_within : (s : Numbers) (k : ℕ) → Within (set.remove s k) s
remove_within s k q inside = grind (arith, contains-remove, nat_cmp_total)

-- ---- lists of inodes

-- what was written since stays so with one list more
pub later_within : (k : ℕ) (ls : List Numbers) (l : Numbers) → Within (all_inodes (drop k ls)) (all_inodes (drop k (ls ++ l ∷ [])))
later_within zero ls l q inside = ap (λ s. set.contains s q) (all_push ls l) ∙ union_left (all_inodes ls) l q inside
later_within (suc k) [] l q inside = nothing_within (all_inodes (drop k [])) q inside
later_within (suc k) (x ∷ ls) l q inside = later_within k ls l q inside

-- as many lists as before
pub length_with_written : (ls : List Numbers) (inodes : Numbers) → length (with_written ls inodes) ≡ length ls
length_with_written [] inodes = refl
length_with_written (l ∷ []) inodes = refl
length_with_written (l ∷ next ∷ ls) inodes = ap suc (length_with_written (next ∷ ls) inodes)

-- what was written since stays so with more on the last list
pub noted_keeps : (k : ℕ) (ls : List Numbers) (inodes : Numbers)
    → Within (all_inodes (drop k ls)) (all_inodes (drop k (with_written ls inodes)))
noted_keeps k [] inodes q inside = inside
noted_keeps zero (l ∷ []) inodes q inside = union_both l set.empty (set.union l inodes) set.empty (union_left l inodes) (λ r there. there) q inside
noted_keeps zero (l ∷ next ∷ ls) inodes q inside = grind (arith, noted_keeps zero (next ∷ ls) inodes, union_both)
noted_keeps (suc k) (l ∷ []) inodes q inside = inside
noted_keeps (suc k) (l ∷ next ∷ ls) inodes q inside = noted_keeps k (next ∷ ls) inodes q inside

-- what comes on the last list was written since any epoch that has a list
pub noted_there : (k : ℕ) (ls : List Numbers) (inodes : Numbers) → k < length ls → Within inodes (all_inodes (drop k (with_written ls inodes)))
noted_there k [] inodes few q inside = absurd (omega arith)
noted_there zero (l ∷ []) inodes few q inside = grind (arith, union_left, union_right)
noted_there zero (l ∷ next ∷ ls) inodes few q inside =
    union_right l (all_inodes (with_written (next ∷ ls) inodes)) q (noted_there zero (next ∷ ls) inodes (omega arith) q inside)
noted_there (suc k) (l ∷ []) inodes few q inside = absurd (omega arith)
noted_there (suc k) (l ∷ next ∷ ls) inodes few q inside = noted_there k (next ∷ ls) inodes (omega arith) q inside

-- ---- places

pub one_fewer : (n : ℕ) → suc n - 1 ≡ n
one_fewer n = omega arith

-- a node's place in the list
place_of : (nodes : List Standing) (node : ℕ) (s : Standing) → standing_of nodes node ≡ Some s → slice_get nodes (node - 1) ≡ Some s
place_of nodes zero s at = absurd (none-some s at)
place_of nodes (suc place) s at = ap (slice_get nodes) (one_fewer place) ∙ at

numbered : (nodes : List Standing) (node : ℕ) (s : Standing) → standing_of nodes node ≡ Some s → 0 < node
numbered nodes zero s at = absurd (none-some s at)
numbered nodes (suc place) s at = omega arith

away_some : (o : Option Standing) → is_away o ≡ true → (s : Standing) × (o ≡ Some s)
away_some None away = never away
away_some (Some s) away = (s, refl)

away_place : (nodes : List Standing) (node : ℕ) → is_away (standing_of nodes node) ≡ true → is_away (slice_get nodes (node - 1)) ≡ true
away_place nodes zero away = never away
away_place nodes (suc place) away = ap (λ i. is_away (slice_get nodes i)) (one_fewer place) ∙ away

-- what is known of each is known of this one
pub known_of : (m : Membership) (node : ℕ) (s : Standing) → IsMembership m → standing_of m.nodes node ≡ Some s → is_known m s ≡ true
known_of m node s lawful at = list_all_place (is_known m) m.nodes (node - 1) s lawful.known (place_of m.nodes node s at)

-- where one that isn't full is put in, not all are
not_all_full : (nodes : List Standing) (node : ℕ) (old s : Standing) → standing_of nodes node ≡ Some old → is_full s ≡ false
    → list_all is_full (with_standing nodes node s) ≡ true → ⊥
not_all_full nodes node old s at new all = grind (arith, slice_get_set nodes (node - 1) old s (place_of nodes node old at), list_all_place)

-- ---- what is known

pub listed_both : (m : Membership) (since : ℕ) → is_listed m since ≡ true → (first_listed m ≤ since) × (since ≤ m.epoch)
listed_both m since listed = grind arith

listed_from : (m : Membership) (since : ℕ) → first_listed m ≤ since → since ≤ m.epoch → is_listed m since ≡ true
listed_from m since first last = grind arith

listed_more : (m n : Membership) → first_listed n ≡ first_listed m → m.epoch ≤ n.epoch → (since : ℕ) → is_listed m since ≡ true
    → is_listed n since ≡ true
listed_more m n first later since listed = grind arith

-- a node is full
abbrev pub IsFullNode : Membership → ℕ → Type 0
IsFullNode m node = list_any (λ n. n == node) (full_nodes m.nodes) ≡ true

-- what is known of a node that comes back
pub record IsKnownReturn (m : Membership) (since donor : ℕ) (stale : Numbers) : Type 0 where
  pub listed : is_listed m since ≡ true
  pub donor_full : IsFullNode m donor
  pub within : set.is_subset stale (written_since m since) ≡ true

pub return_parts : (m : Membership) (since donor : ℕ) (stale : Numbers) → is_known m (returning since donor stale) ≡ true
    → IsKnownReturn m since donor stale
return_parts m since donor stale known = grind arith

pub return_from : (m : Membership) (since donor : ℕ) (stale : Numbers) → IsKnownReturn m since donor stale
    → is_known m (returning since donor stale) ≡ true
return_from m since donor stale r = cc

-- what is known stays known where lists and full nodes stay
known_more : (m n : Membership) → first_listed n ≡ first_listed m → m.epoch ≤ n.epoch → ((d : ℕ) → IsFullNode m d → IsFullNode n d)
    → ((since : ℕ) → Within (written_since m since) (written_since n since)) → (s : Standing) → is_known m s ≡ true → is_known n s ≡ true
known_more m n first later donors written full known = refl
known_more m n first later donors written (down since) known = listed_more m n first later since known
known_more m n first later donors written (returning since donor stale) known = grind (arith, subset_more)

-- ---- the start

fulls_pass : (p : Standing → Bool) (count : ℕ) → p full ≡ true → list_all p (fulls count) ≡ true
fulls_pass p zero one = refl
fulls_pass p (suc count) one = and_from (p full) (list_all p (fulls count)) one (fulls_pass p count one)

some_fulls : (count : ℕ) → 0 < count → 0 < length (full_nodes (fulls count))
some_fulls zero some = some
some_fulls (suc count) some = omega arith

plains_length : (count : ℕ) → length (plains count) ≡ count
plains_length zero = refl
plains_length (suc count) = ap suc (plains_length count)

fulls_length : (count : ℕ) → length (fulls count) ≡ count
fulls_length zero = refl
fulls_length (suc count) = ap suc (fulls_length count)

-- some full nodes in the first epoch
pub all_full_lawful : (count : ℕ) → 0 < count → IsMembership (all_full count)
all_full_lawful count some = grind (arith, fulls_pass, plains_length, fulls_length)

-- ---- one node that is away

-- a node that is away becomes another one that is: the same nodes are full
pub with_node_full : (m : Membership) (node : ℕ) (s : Standing) → is_away (standing_of m.nodes node) ≡ true → is_away (Some s) ≡ true
    → full_nodes (with_standing m.nodes node s) ≡ full_nodes m.nodes
with_node_full m node s away new = full_from_set_away 1 m.nodes (node - 1) s (away_place m.nodes node away) new

-- a node that is away becomes another one that is, and of which is known what has to be
pub with_node_lawful : (m : Membership) (node : ℕ) (s : Standing) → IsMembership m → is_away (standing_of m.nodes node) ≡ true
    → is_away (Some s) ≡ true → is_known m s ≡ true → IsMembership (with_node m node s)
with_node_lawful m node s lawful away new known = search (with_node_full, list_all_set, length-set, not_all_full, arith) parts 3

-- a node that came back fails: its first failure is known
pub down_known : (m : Membership) (node since donor : ℕ) (stale : Numbers) → IsMembership m
    → standing_of m.nodes node ≡ Some (returning since donor stale) → is_known m (down since) ≡ true
down_known m node since donor stale lawful at = grind (arith, return_parts m since donor stale (known_of m node (returning since donor stale) lawful at))

-- a node that was down comes back: its donor is full, and what it may lack was written since
pub back_known : (m : Membership) (node since : ℕ) → IsMembership m → standing_of m.nodes node ≡ Some (down since)
    → is_known m (returning since (lowest_full m.nodes) (written_since m since)) ≡ true
back_known m node since lawful at = grind (arith, known_of m node (down since) lawful at, first_there (full_nodes m.nodes) lawful.some_full, within_subset)

-- a node that comes back lacks an inode less
pub copied_known : (m : Membership) (node since donor : ℕ) (stale : Numbers) → IsMembership m
    → standing_of m.nodes node ≡ Some (returning since donor stale) → (inode : ℕ)
    → is_known m (returning since donor (set.remove stale inode)) ≡ true
copied_known m node since donor stale lawful at inode = grind
    (arith, return_parts m since donor stale (known_of m node (returning since donor stale) lawful at), within_subset, subset_within, remove_within)

-- ---- one epoch more

-- an epoch more, with a list
abbrev one_more : Membership → List Standing → Numbers → Membership
one_more m nodes l = record { epoch = m.epoch + 1; nodes = nodes; written = m.written ++ l ∷ []; levels = m.levels }

one_list_more : (m : Membership) (l : Numbers) → length (m.written ++ l ∷ []) ≡ length m.written + 1
one_list_more m l = length-append m.written (l ∷ [])

-- the first list is that of the same epoch
pub same_first : (m : Membership) (nodes : List Standing) (l : Numbers) → first_listed (one_more m nodes l) ≡ first_listed m
same_first m nodes l = omega (arith, one_list_more m l)

since_within : (m : Membership) (nodes : List Standing) (l : Numbers) (since : ℕ)
    → Within (written_since m since) (written_since (one_more m nodes l) since)
since_within m nodes l since q inside = search (same_first, later_within, arith) parts 3

-- the epoch that begins has a list
now_listed : (m : Membership) (nodes : List Standing) (l : Numbers) → is_listed (one_more m nodes l) (m.epoch + 1) ≡ true
now_listed m nodes l = grind (arith, same_first m nodes l)

-- ---- failures

refilled_full : (written : ℕ → Numbers) (donor failed : ℕ) (s : Standing) → is_full (refilled_from written donor failed s) ≡ is_full s
refilled_full written donor failed full = refl
refilled_full written donor failed (down since) = refl
refilled_full written donor failed (returning since from stale) = grind arith

module _
    (m : Membership) (node : ℕ) (inodes : Numbers) (lawful : IsMembership m) (at : standing_of m.nodes node ≡ Some full)
    (others : 1 < length (full_nodes m.nodes)) where
  abbrev begun : Membership
  begun = with_epoch m node inodes

  abbrev refill : Standing → Standing
  refill = refilled_from (written_since begun) (lowest_full begun.nodes) node

  abbrev after : Membership
  after = with_new_donor begun node

  same_full : full_nodes after.nodes ≡ full_nodes begun.nodes
  same_full = full_from_map refill (refilled_full (written_since begun) (lowest_full begun.nodes) node) 1 begun.nodes

  still_full : 0 < length (full_nodes begun.nodes)
  still_full = grind (arith, one_full_less)

  -- a donor that didn't fail is full still
  other_full : (d : ℕ) → IsFullNode m d → (d ≡ node → ⊥) → IsFullNode after d
  other_full d there other = grind (arith, same_full, others_stay)

  each_known : (s : Standing) → is_known m s ≡ true → is_known after (refill s) ≡ true
  each_known full known = refl
  each_known (down since) known = listed_more m after (same_first m after.nodes inodes) (omega arith) since known
  each_known (returning since from stale) known =
      let r = return_parts m since from stale known in
      let listed = listed_more m after (same_first m after.nodes inodes) (omega arith) since r.listed in
      cond_both (from == node) (returning since (lowest_full begun.nodes) (written_since begun since)) (returning since from stale)
      (λ s. is_known after s ≡ true)
      (grind (arith, same_full, first_there (full_nodes begun.nodes) still_full, within_subset))
      (grind (arith, other_full, subset_more stale (written_since m since) (written_since after since) r.within (since_within m after.nodes inodes since)))

  -- a full node that isn't the only one fails
  full_failed_lawful : IsMembership after
  full_failed_lawful = record {
    began = omega arith;
    lists = omega (arith, lawful.lists, one_list_more m inodes);
    some_full = subst (λ l. 0 < length l) (sym same_full) still_full;
    known = list_all_map (λ s. is_known after (refill s)) (is_known after) refill begun.nodes
        (grind (arith, list_all_set, list_all_more, each_known, now_listed m after.nodes inodes))
        (λ s known. known);
    levelled = lawful.levelled ∙ sym (length-map begun.nodes refill ∙ length-set m.nodes (node - 1) (down (m.epoch + 1)));
    none_listed = λ all. absurd (not_all_full m.nodes node full (down (m.epoch + 1)) at refl
        (sym (all_full_map refill (refilled_full (written_since begun) (lowest_full begun.nodes) node) begun.nodes) ∙ all));
  }

more_than_one : (n : ℕ) → 0 < n → ◌≡◌ {A = Option Refusal} (cond (n == 1) (Some LastNode) None) None → 1 < n
more_than_one zero some fine = absurd (omega arith)
more_than_one (suc zero) some fine = absurd (none-some LastNode (sym fine))
more_than_one (suc (suc n)) some fine = omega arith

failed_as_lawful : (m : Membership) (node : ℕ) (inodes : Numbers) → IsMembership m → (o : Option Standing) → standing_of m.nodes node ≡ o
    → failure_fault_of m o ≡ None → IsMembership (failed_as m node inodes o)
failed_as_lawful m node inodes lawful None at fine = lawful
failed_as_lawful m node inodes lawful (Some full) at fine =
    full_failed_lawful m node inodes lawful at (more_than_one (length (full_nodes m.nodes)) lawful.some_full fine)
failed_as_lawful m node inodes lawful (Some (down since)) at fine = lawful
failed_as_lawful m node inodes lawful (Some (returning since donor stale)) at fine =
    with_node_lawful m node (down since) lawful (ap is_away at) refl (down_known m node since donor stale lawful at)

-- a failure that isn't refused
pub failed_lawful : (m : Membership) (node : ℕ) (inodes : Numbers) → IsMembership m → failure_fault m node ≡ None
    → IsMembership (failed m node inodes)
failed_lawful m node inodes lawful fine = failed_as_lawful m node inodes lawful (standing_of m.nodes node) refl fine

-- ---- returns

back_as_lawful : (m : Membership) (node : ℕ) → IsMembership m → (o : Option Standing) → standing_of m.nodes node ≡ o
    → return_fault_of o ≡ None → IsMembership (back_as m node o)
back_as_lawful m node lawful None at fine = lawful
back_as_lawful m node lawful (Some full) at fine = lawful
back_as_lawful m node lawful (Some (down since)) at fine =
    with_node_lawful m node (returning since (lowest_full m.nodes) (written_since m since)) lawful (ap is_away at) refl
    (back_known m node since lawful at)
back_as_lawful m node lawful (Some (returning since donor stale)) at fine = lawful

-- a return that isn't refused
pub back_lawful : (m : Membership) (node : ℕ) → IsMembership m → return_fault m node ≡ None → IsMembership (back m node)
back_lawful m node lawful fine = back_as_lawful m node lawful (standing_of m.nodes node) refl fine

-- what is refused isn't
refused : {P : Type 0} (r : Refusal) → ◌≡◌ {A = Option Refusal} (Some r) None → P
refused r none = absurd (none-some r (sym none))

copied_as_lawful : (m : Membership) (node inode : ℕ) → IsMembership m → (o : Option Standing) → standing_of m.nodes node ≡ o
    → filling_fault_of o ≡ None → IsMembership (record { epoch = m.epoch; nodes = copied_as m.nodes node inode o; written = m.written; levels = m.levels })
copied_as_lawful m node inode lawful None at fine = refused BadNode fine
copied_as_lawful m node inode lawful (Some full) at fine = refused WrongPhase fine
copied_as_lawful m node inode lawful (Some (down since)) at fine = refused WrongPhase fine
copied_as_lawful m node inode lawful (Some (returning since donor stale)) at fine =
    with_node_lawful m node (returning since donor (set.remove stale inode)) lawful (ap is_away at) refl
    (copied_known m node since donor stale lawful at inode)

-- a node that comes back got an inode
pub copied_lawful : (m : Membership) (node : ℕ) → IsMembership m → filling_fault m node ≡ None → (inode : ℕ)
    → IsMembership (with_copied m node inode)
copied_lawful m node lawful fine inode = copied_as_lawful m node inode lawful (standing_of m.nodes node) refl fine

joined_length : (levels : List Level) (node : ℕ) (o : Option ℕ) → length (joined_levels levels node o) ≡ length levels
joined_length levels node None = refl
joined_length levels node (Some donor) = length-set levels (node - 1) (greater (level_of levels node) (level_of levels donor))

full_known : (m : Membership) (s : Standing) → is_full s ≡ true → is_known m s ≡ true
full_known m full is = refl
full_known m (down since) is = never is
full_known m (returning since donor stale) is = never is

joined_as_lawful : (m : Membership) (node : ℕ) → IsMembership m → (levels : List Level) → length levels ≡ length m.levels → (b : Bool) →
    list_all is_full (with_standing m.nodes node full) ≡ b
    → IsMembership (record {
      epoch = m.epoch + 1;
      nodes = with_standing m.nodes node full;
      written = cond b [] (m.written ++ set.empty ∷ []);
      levels = levels;
    })
joined_as_lawful m node lawful levels same true all = grind (arith, no_fewer_full, length-set)
joined_as_lawful m node lawful levels same false some_away =
    let nodes = with_standing m.nodes node full in
    let n : Membership = record { epoch = m.epoch + 1; nodes = nodes; written = m.written ++ set.empty ∷ []; levels = levels } in
    record {
      began = omega arith;
      lists = omega (arith, lawful.lists, one_list_more m set.empty);
      some_full = omega (arith, lawful.some_full, no_fewer_full 1 m.nodes (node - 1));
      known = grind (arith, list_all_set, list_all_more, known_more, same_first m nodes set.empty, all_stay, since_within m nodes set.empty);
      levelled = same ∙ lawful.levelled ∙ sym (length-set m.nodes (node - 1) full);
      none_listed = λ all. absurd (true≢false (sym all ∙ some_away));
    }

-- a node is full again
pub joined_lawful : (m : Membership) (node : ℕ) → IsMembership m → join_fault m node ≡ None → IsMembership (joined m node)
joined_lawful m node lawful fine = joined_as_lawful m node lawful (joined_levels m.levels node (donor_of (standing_of m.nodes node)))
    (joined_length m.levels node (donor_of (standing_of m.nodes node))) (list_all is_full (with_standing m.nodes node full)) refl

-- ---- digests

-- a digest makes no node full and leaves each full one so
pub stale_full : (node : ℕ) (inodes : Numbers) (s : Standing) → is_full (stale_again node inodes s) ≡ is_full s
stale_full node inodes full = refl
stale_full node inodes (down since) = refl
stale_full node inodes (returning since donor stale) = refl

inside_lists : (epoch count since first : ℕ) → first ≡ (epoch + 1) - count → count ≤ epoch → first ≤ since → since ≤ epoch
    → since - first < count
inside_lists epoch count since first e few low high = omega arith

module _ (m : Membership) (node : ℕ) (inodes : Numbers) (lawful : IsMembership m) where
  abbrev noted_now : Membership
  noted_now = noted m node inodes

  noted_full : full_nodes noted_now.nodes ≡ full_nodes m.nodes
  noted_full = full_from_map (stale_again node inodes) (stale_full node inodes) 1 m.nodes

  noted_first : first_listed noted_now ≡ first_listed m
  noted_first = ap (λ k. (m.epoch + 1) - k) (length_with_written m.written inodes)

  noted_since : (since : ℕ) → Within (written_since m since) (written_since noted_now since)
  noted_since since q inside = grind (arith, noted_first, noted_keeps)

  -- what is written now was written since any epoch that has a list
  noted_new : (since : ℕ) → is_listed m since ≡ true → Within inodes (written_since noted_now since)
  noted_new since listed q inside = grind (arith, noted_first, noted_there)

  each_noted : (s : Standing) → is_known m s ≡ true → is_known noted_now (stale_again node inodes s) ≡ true
  each_noted full known = refl
  each_noted (down since) known = listed_more m noted_now noted_first (omega arith) since known
  each_noted (returning since donor stale) known = grind (arith, noted_since, subset_within, noted_first, noted_full, within_subset, union_within, noted_new)

  -- inodes were written at a node
  pub noted_lawful : IsMembership (noted m node inodes)
  noted_lawful = grind (arith, length_with_written, noted_full, list_all_map, each_noted, length-map, all_full_map)

-- ---- levels

-- a node is raised
pub raised_lawful : (m : Membership) (node : ℕ) → IsMembership m → IsMembership (raised m node)
raised_lawful m node lawful = grind (arith, length-set)

-- ---- calls

-- each call that isn't refused
pub call_lawful : (old new : Membership) (call : MemberCall) → IsMembership old → MemberCallDoes old call new → IsMembership new
call_lawful old new (fail node inodes) lawful done = subst IsMembership (sym done.1) (failed_lawful old node inodes lawful done.0)
call_lawful old new (come_back node) lawful done = subst IsMembership (sym done.1) (back_lawful old node lawful done.0)
call_lawful old new (note_copied node inode) lawful done = subst IsMembership (sym done.1) (copied_lawful old node lawful done.0 inode)
call_lawful old new (join node) lawful done = subst IsMembership (sym done.1) (joined_lawful old node lawful done.0)
call_lawful old new (note_written node inodes) lawful done = subst IsMembership (sym done) (noted_lawful old node inodes lawful)
call_lawful old new (raise node) lawful done = subst IsMembership (sym done.1) (raised_lawful old node lawful)

all_lawful : (calls : List MemberCall) (old new : Membership) → IsMembership old → AllMemberCalls old calls new → IsMembership new
all_lawful [] old new lawful done = subst IsMembership (sym done) lawful
all_lawful (call ∷ calls) old new lawful done =
    let next : IsMembership done.0 = grind (arith, call_lawful) in
    all_lawful calls done.0 new next done.2

-- any list of calls, from the start on
pub after_all : (count : ℕ) (calls : List MemberCall) (new : Membership) → 0 < count → AllMemberCalls (all_full count) calls new → IsMembership new
after_all count calls new some done = all_lawful calls (all_full count) new (all_full_lawful count some) done

-- ---- what a lawful membership says of one node

pub down_listed : (m : Membership) (node since : ℕ) → IsMembership m → standing_of m.nodes node ≡ Some (down since)
    → (first_listed m ≤ since) × (since ≤ m.epoch)
down_listed m node since lawful at = listed_both m since (known_of m node (down since) lawful at)

return_of : (m : Membership) (node since donor : ℕ) (stale : Numbers) → IsMembership m
    → standing_of m.nodes node ≡ Some (returning since donor stale) → IsKnownReturn m since donor stale
return_of m node since donor stale lawful at = return_parts m since donor stale (known_of m node (returning since donor stale) lawful at)

pub return_listed : (m : Membership) (node since donor : ℕ) (stale : Numbers) → IsMembership m
    → standing_of m.nodes node ≡ Some (returning since donor stale) → (first_listed m ≤ since) × (since ≤ m.epoch)
return_listed m node since donor stale lawful at = listed_both m since (return_of m node since donor stale lawful at).listed

-- an epoch from the first one that is listed to the current one has a list
pub list_there : (m : Membership) (epoch : ℕ) → IsMembership m → first_listed m ≤ epoch → epoch ≤ m.epoch
    → epoch - first_listed m < length m.written
list_there m epoch lawful low high = inside_lists m.epoch (length m.written) epoch (first_listed m) refl lawful.lists low high

pub stale_written : (m : Membership) (node since donor : ℕ) (stale : Numbers) → IsMembership m
    → standing_of m.nodes node ≡ Some (returning since donor stale) → Within stale (written_since m since)
stale_written m node since donor stale lawful at =
    subset_within stale (written_since m since) (return_of m node since donor stale lawful at).within

pub donor_full : (m : Membership) (node since donor : ℕ) (stale : Numbers) → IsMembership m
    → standing_of m.nodes node ≡ Some (returning since donor stale) → standing_of m.nodes donor ≡ Some full
donor_full m node since donor stale lawful at = grind (arith, full_there 1 donor m.nodes (return_of m node since donor stale lawful at).donor_full)
