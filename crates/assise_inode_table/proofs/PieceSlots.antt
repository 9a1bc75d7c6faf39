-- The slots of pieces about a place, and what an edit of a piece makes of them.
use Rattle.assise_inode_table.proofs.Common.{◌≡◌, ℕ, zero, suc, ◌+◌, ◌^◌, ◌<◌, ◌≤◌, List, [], ◌∷◌, ◌++◌, length, Option, Some, None, take, drop, set, insert}
use Rattle.assise_inode_table.proofs.Common.{get_or, refl, sym, ap, subst, ◌∙◌, arith, true, false, is_gt, append_assoc, append-nil, nat_cmp, Less}
use Rattle.assise_inode_table.proofs.Common.{take-append-drop, add-zero, true≢false, is_none, cond, Bool, not, is_some, AllByRecursion, IsStrictlySortedBy}
use Rattle.assise_inode_table.proofs.Common.{keys_of, from_bool, Links, slice_cmp, nat_list_cmp_total, exact_bytes, set-get_or, set_split, take_all, drop_all}
use Rattle.assise_inode_table.proofs.Common.{get_or-drop, length-set, length-drop, take_more, get_or_read, flat_map-append, All-drop, All-set, Slot, live}
use Rattle.assise_inode_table.proofs.Common.{slots_in, links_in, piece_at, slot_name, slot_link, slots_before, slots_behind, Ascend, AreFilled, IsDirectory}
use Rattle.assise_inode_table.proofs.Common.{IsGapFor, IsPieceFor, StandsAt}
use Rattle.std.specs.FinMap as map
use Rattle.assise_inode_table.proofs.Shared.MapView.{remove-absent}
use Rattle.assise_inode_table.proofs.KeyOrder.{all_both, all_weaker, below_next, above_head, sorted_left, sorted_right, turned_back, is_greater}
use Rattle.assise_inode_table.proofs.Shared.LiveSlots.{Parts, live-append, keys-append, parts_of_slot}
use Rattle.assise_inode_table.proofs.Shared.LiveSlots.{slot_got, gap_got, slot_linked, gap_linked, slot_unlinked}
use Rattle.assise_inode_table.proofs.Shared.LiveSlots.{slot_sorted, gap_sorted, count_linked, count_gone, count_relinked, live_keys, live_count, live_sorted}

pub slots-append : (ps qs : List (List Slot)) → slots_in (ps ++ qs) ≡ slots_in ps ++ slots_in qs
slots-append ps qs = flat_map-append (λ p. p) ps qs

split_here : {X : Type 0} (l : List X) (i : ℕ) (d : X) → i < length l → l ≡ take i l ++ get_or l i d ∷ drop (suc i) l
split_here l i d h = sym (set-get_or l i d) ∙ set_split l i (get_or l i d) h

-- the slots of the pieces before a piece, of it, and of those behind it
pub three_parts : (ps : List (List Slot)) (w : ℕ) → w < length ps → slots_in ps ≡ slots_in (take w ps) ++ (piece_at ps w ++ slots_in (drop (suc w) ps))
three_parts ps w h = ap slots_in (split_here ps w [] h) ∙ slots-append (take w ps) (piece_at ps w ∷ drop (suc w) ps)

pub around : (ps : List (List Slot)) (w at : ℕ) → w < length ps → slots_in ps ≡ slots_before ps w at ++ slots_behind ps w at
around ps w at h =
    let p = piece_at ps w in
    let rest = slots_in (drop (suc w) ps) in
    three_parts ps w h
    ∙ ap (λ xs. slots_in (take w ps) ++ (xs ++ rest)) (sym (take-append-drop at p))
    ∙ ap (λ xs. slots_in (take w ps) ++ xs) (append_assoc (take at p) (drop at p) rest)
    ∙ sym (append_assoc (slots_in (take w ps)) (take at p) (drop at p ++ rest))

-- a piece that was edited
edited : (ps : List (List Slot)) (w : ℕ) (front : List Slot) (s : Slot) (back : List Slot) → w < length ps
    → slots_in (set ps w (front ++ s ∷ back)) ≡ (slots_in (take w ps) ++ front) ++ s ∷ (back ++ slots_in (drop (suc w) ps))
edited ps w front s back h = grind (arith, set_split, slots-append, append_assoc)

pub inserted_slots : (ps : List (List Slot)) (w at : ℕ) (s : Slot) → w < length ps → slots_in (set ps w (insert (piece_at ps w) at s))
    ≡ slots_before ps w at ++ s ∷ slots_behind ps w at
inserted_slots ps w at s h = edited ps w (take at (piece_at ps w)) s (drop at (piece_at ps w)) h

set_slots : (ps : List (List Slot)) (w at : ℕ) (s : Slot) → w < length ps → at < length (piece_at ps w)
    → slots_in (set ps w (set (piece_at ps w) at s)) ≡ slots_before ps w at ++ s ∷ slots_behind ps w (suc at)
set_slots ps w at s h k = grind (arith, set_split, edited)

-- the slots about the one of a name
old_slots : (name : List ℕ) (ps : List (List Slot)) (w at : ℕ) → StandsAt name ps w at →
    slots_in ps ≡ slots_before ps w at ++ (name, slot_link (piece_at ps w) at) ∷ slots_behind ps w (suc at)
old_slots name ps w at is =
    let p = piece_at ps w in
    ap slots_in (sym (set-get_or ps w []))
    ∙ ap (λ q. slots_in (set ps w q)) (sym (set-get_or p at ([], None)))
    ∙ set_slots ps w at (get_or p at ([], None)) is.within is.slot.within
    ∙ ap (λ n. slots_before ps w at ++ (n, slot_link p at) ∷ slots_behind ps w (suc at)) is.slot.named

-- ---- what stands before and behind a place
slot_parts : (name : List ℕ) (ps : List (List Slot)) (w at : ℕ) → Ascend (slots_in ps) → StandsAt name ps w at →
    Parts (slice_cmp nat_cmp) name (slots_before ps w at) (slots_behind ps w (suc at))
slot_parts name ps w at s is =
    parts_of_slot nat_list_cmp_total exact_bytes name (slot_link (piece_at ps w) at) (slots_before ps w at) (slots_behind ps w (suc at))
    (subst Ascend (old_slots name ps w at is) s)

first_of : (p : List Slot) → 0 < length p → p ≡ (slot_name p 0, slot_link p 0) ∷ drop 1 p
first_of [] h = absurd (omega arith)
first_of (s ∷ p) h = refl

before_first : (ps : List (List Slot)) (w : ℕ) → Ascend (slots_in ps) → w < length ps → 0 < length (piece_at ps w)
    → AllByRecursion (λ key. slice_cmp nat_cmp key (slot_name (piece_at ps w) 0) ≡ Less) (keys_of (slots_in (take w ps)))
before_first ps w s h filled =
    let p = piece_at ps w in
    let front = slots_in (take w ps) in
    let back = drop 1 p ++ slots_in (drop (suc w) ps) in
    let parts : slots_in ps ≡ front ++ (slot_name p 0, slot_link p 0) ∷ back = grind (arith, three_parts ps w h) in
    below_next (slice_cmp nat_cmp) (keys_of front) (slot_name p 0) (keys_of back)
    (subst (IsStrictlySortedBy (slice_cmp nat_cmp)) (ap keys_of parts ∙ keys-append front ((slot_name p 0, slot_link p 0) ∷ back)) s)

pieces_before : (name : List ℕ) (ps : List (List Slot)) (w : ℕ) → Ascend (slots_in ps) → AreFilled ps → IsPieceFor name ps w
    → AllByRecursion (λ key. slice_cmp nat_cmp key name ≡ Less) (keys_of (slots_in (take w ps)))
pieces_before name ps zero s filled is = tt
pieces_before name ps (suc w) s filled is = grind (arith, all_weaker, nat_list_cmp_total, before_first ps (suc w) s is.within (filled (suc w) [] is.within))

behind_first : (name : List ℕ) (qs : List (List Slot)) → Ascend (slots_in qs) → AreFilled qs →
    (0 < length qs → is_gt (slice_cmp nat_cmp (slot_name (piece_at qs 0) 0) name) ≡ true)
    → AllByRecursion (λ key. slice_cmp nat_cmp name key ≡ Less) (keys_of (slots_in qs))
behind_first name [] s filled until = tt
behind_first name ([] ∷ qs) s filled until = absurd (let h = filled 0 [] (omega arith) in omega arith)
behind_first name ((slot ∷ q) ∷ qs) s filled until =
    let first = turned_back nat_list_cmp_total exact_bytes slot.0 name
    (is_greater nat_list_cmp_total exact_bytes (slice_cmp nat_cmp slot.0 name) (until (omega arith))) in (
      first,
      all_weaker (λ key. slice_cmp nat_cmp slot.0 key ≡ Less) (λ key. slice_cmp nat_cmp name key ≡ Less) (keys_of (q ++ slots_in qs))
          (λ key h. nat_list_cmp_total.trans name slot.0 key first h) (above_head (slice_cmp nat_cmp) slot.0 (keys_of (q ++ slots_in qs)) s),
    )

pieces_behind : (name : List ℕ) (ps : List (List Slot)) (w : ℕ) → Ascend (slots_in ps) → AreFilled ps → IsPieceFor name ps w
    → AllByRecursion (λ key. slice_cmp nat_cmp name key ≡ Less) (keys_of (slots_in (drop (suc w) ps)))
pieces_behind name ps w s filled is =
    let qs = drop (suc w) ps in
    let front = slots_in (take w ps) ++ piece_at ps w in
    let parts : slots_in ps ≡ front ++ slots_in qs = three_parts ps w is.within ∙ sym (append_assoc (slots_in (take w ps)) (piece_at ps w) (slots_in qs)) in
    let ascend : Ascend (slots_in qs) = grind (arith, sorted_right, keys-append) in
    let next : piece_at qs 0 ≡ piece_at ps (suc w) = get_or-drop (suc w) ps 0 [] ∙ ap (piece_at ps) (add-zero (suc w)) in
    behind_first name qs ascend (All-drop (λ p. 0 < length p) (suc w) ps filled)
    (λ h. ap (λ p. is_gt (slice_cmp nat_cmp (slot_name p 0) name)) next ∙ is.until (omega (arith, h, length-drop (suc w) ps)))

gap_parts : (name : List ℕ) (ps : List (List Slot)) (w at : ℕ) → Ascend (slots_in ps) → AreFilled ps → IsPieceFor name ps w → IsGapFor name (piece_at ps w) at
    → Parts (slice_cmp nat_cmp) name (slots_before ps w at) (slots_behind ps w at)
gap_parts name ps w at s filled is gap = grind (arith, keys-append, all_both, pieces_before name ps w s filled is, pieces_behind name ps w s filled is)

-- ---- what the directory has at a name
pub got_slot : (name : List ℕ) (ps : List (List Slot)) (w at : ℕ) → Ascend (slots_in ps) → StandsAt name ps w at → map.get (links_in ps) name
    ≡ slot_link (piece_at ps w) at
got_slot name ps w at s is = grind (
  arith,
  old_slots name ps w at is,
  slot_got nat_list_cmp_total exact_bytes name (slot_link (piece_at ps w) at) (slots_before ps w at)
      (slots_behind ps w (suc at)) (slot_parts name ps w at s is),
)

pub got_none : (name : List ℕ) (ps : List (List Slot)) (w at : ℕ) → Ascend (slots_in ps) → AreFilled ps → IsPieceFor name ps w →
    IsGapFor name (piece_at ps w) at → map.get (links_in ps) name ≡ None
got_none name ps w at s filled is gap =
    ap (λ slots. map.get (map.from_entries {R = slice_cmp nat_cmp} (live slots)) name) (around ps w at is.within)
    ∙ gap_got nat_list_cmp_total exact_bytes name (slots_before ps w at) (slots_behind ps w at) (gap_parts name ps w at s filled is gap)

-- ---- a link under a name that stands there, and a removal
new_slots : (name : List ℕ) (ps qs : List (List Slot)) (w at : ℕ) (link : Option ℕ) → StandsAt name ps w at →
    qs ≡ set ps w (set (piece_at ps w) at (slot_name (piece_at ps w) at, link))
    → slots_in qs ≡ slots_before ps w at ++ (name, link) ∷ slots_behind ps w (suc at)
new_slots name ps qs w at link is new = grind (arith, set_slots)

module _ (name : List ℕ) (ps qs : List (List Slot)) (w at : ℕ) (is : StandsAt name ps w at) where
  pub put_slot : (v : ℕ) → Ascend (slots_in ps) → qs ≡ set ps w (set (piece_at ps w) at (slot_name (piece_at ps w) at, Some v)) →
      links_in qs ≡ map.insert (links_in ps) name v
  put_slot v s new = grind (
    arith,
    new_slots name ps qs w at (Some v) is new,
    slot_linked nat_list_cmp_total exact_bytes name (slot_link (piece_at ps w) at) v
        (slots_before ps w at) (slots_behind ps w (suc at)) (slot_parts name ps w at s is),
    old_slots name ps w at is,
  )

  pub cut_slot : Ascend (slots_in ps) → qs ≡ set ps w (set (piece_at ps w) at (slot_name (piece_at ps w) at, None)) →
      links_in qs ≡ map.remove (links_in ps) name
  cut_slot s new = grind (
    arith,
    new_slots name ps qs w at None is new,
    slot_unlinked nat_list_cmp_total exact_bytes name (slot_link (piece_at ps w) at) (slots_before ps w at)
        (slots_behind ps w (suc at)) (slot_parts name ps w at s is),
    old_slots name ps w at is,
  )

  pub set_ascend : (link : Option ℕ) → Ascend (slots_in ps) → qs ≡ set ps w (set (piece_at ps w) at (slot_name (piece_at ps w) at, link)) → Ascend (slots_in qs)
  set_ascend link s new = grind (
    arith,
    new_slots name ps qs w at link is new,
    slot_sorted nat_list_cmp_total exact_bytes name (slot_link (piece_at ps w) at) link
        (slots_before ps w at) (slots_behind ps w (suc at)) (subst Ascend (old_slots name ps w at is) s),
  )

  pub set_filled : (link : Option ℕ) → AreFilled ps → qs ≡ set ps w (set (piece_at ps w) at (slot_name (piece_at ps w) at, link)) → AreFilled qs
  set_filled link filled new =
      subst AreFilled (sym new)
      (All-set (λ p. 0 < length p) ps w (set (piece_at ps w) at (slot_name (piece_at ps w) at, link))
      (omega (arith, length-set (piece_at ps w) at (slot_name (piece_at ps w) at, link), is.slot.within)) filled)

  -- how many entries there are, and how many then
  counted : (link : Option ℕ) → slot_link (piece_at ps w) at ≡ link
      → length (live (slots_in ps)) ≡ length (live (slots_before ps w at ++ (name, link) ∷ slots_behind ps w (suc at)))
  counted link held = ap (λ slots. length (live slots)) (old_slots name ps w at is)
      ∙ ap (λ l. length (live (slots_before ps w at ++ (name, l) ∷ slots_behind ps w (suc at)))) held

  counted_then : (link : Option ℕ) → qs ≡ set ps w (set (piece_at ps w) at (slot_name (piece_at ps w) at, link))
      → length (live (slots_in qs)) ≡ length (live (slots_before ps w at ++ (name, link) ∷ slots_behind ps w (suc at)))
  counted_then link new = ap (λ slots. length (live slots)) (new_slots name ps qs w at link is new)

  pub count_put : (v n : ℕ) → qs ≡ set ps w (set (piece_at ps w) at (slot_name (piece_at ps w) at, Some v)) → slot_link (piece_at ps w) at ≡ None
      → n ≡ length (live (slots_in ps)) → suc n ≡ length (live (slots_in qs))
  count_put v n new none count =
      let before = slots_before ps w at in
      let behind = slots_behind ps w (suc at) in
      omega (arith, count, counted None none, counted_then (Some v) new, count_gone name before behind, count_linked name v before behind)

  pub count_kept : (v u n : ℕ) → qs ≡ set ps w (set (piece_at ps w) at (slot_name (piece_at ps w) at, Some v)) → slot_link (piece_at ps w) at ≡ Some u
      → n ≡ length (live (slots_in ps)) → n ≡ length (live (slots_in qs))
  count_kept v u n new some count =
      omega (arith, count, counted (Some u) some, counted_then (Some v) new, count_relinked name u v (slots_before ps w at) (slots_behind ps w (suc at)))

  pub count_cut : (u n : ℕ) → qs ≡ set ps w (set (piece_at ps w) at (slot_name (piece_at ps w) at, None)) → slot_link (piece_at ps w) at ≡ Some u
      → n ≡ length (live (slots_in ps)) → n ≡ suc (length (live (slots_in qs)))
  count_cut u n new some count =
      let before = slots_before ps w at in
      let behind = slots_behind ps w (suc at) in
      omega (arith, count, counted (Some u) some, counted_then None new, count_gone name before behind, count_linked name u before behind)

-- ---- a new name in a gap
module _ (name : List ℕ) (v : ℕ) (ps qs : List (List Slot)) (w at : ℕ) (s : Ascend (slots_in ps)) (filled : AreFilled ps) (is : IsPieceFor name ps w)
    (gap : IsGapFor name (piece_at ps w) at) (new : slots_in qs ≡ slots_before ps w at ++ (name, Some v) ∷ slots_behind ps w at) where
  pub added_links : links_in qs ≡ map.insert (links_in ps) name v
  added_links = grind (
    arith,
    gap_linked nat_list_cmp_total exact_bytes name v (slots_before ps w at) (slots_behind ps w at)
        (gap_parts name ps w at s filled is gap),
    around ps w at is.within,
  )

  pub added_ascend : Ascend (slots_in qs)
  added_ascend = grind (
    arith,
    gap_sorted nat_list_cmp_total exact_bytes name (Some v) (slots_before ps w at) (slots_behind ps w at)
        (gap_parts name ps w at s filled is gap) (subst Ascend (around ps w at is.within) s),
  )

  pub added_count : (n : ℕ) → n ≡ length (live (slots_in ps)) → suc n ≡ length (live (slots_in qs))
  added_count n count = grind (arith, around, count_linked)

-- a piece of its own, behind a piece of which none stands behind the name
pub begun_behind : (ps : List (List Slot)) (w n at : ℕ) (s : Slot) → w < length ps → n ≡ w + 1 → length (piece_at ps w) ≤ at → slots_in (insert ps n (s ∷ []))
    ≡ slots_before ps w at ++ s ∷ slots_behind ps w at
begun_behind ps w n at s h e full =
    let p = piece_at ps w in
    subst (λ m. slots_in (insert ps m (s ∷ [])) ≡ slots_before ps w at ++ s ∷ slots_behind ps w at) (sym e)
    (grind (
      arith,
      slots-append (take (w + 1) ps) ((s ∷ []) ∷ drop (w + 1) ps),
      slots-append (take w ps) (p ∷ []),
      take_more ps w,
      append-nil p,
      take_all at p full,
      drop_all at p full,
    ))

pub no_pieces : IsDirectory [] 0
unfolding IsStrictlySortedBy
no_pieces = record { ascend = tt; filled = λ k d h. absurd (omega arith); counted = refl }

-- what an index reads
pub read_piece : (ps : List (List Slot)) (w : ℕ) (p : List Slot) → w < length ps → p ≡ get_or ps w p → p ≡ piece_at ps w
read_piece ps w p h e = get_or_read ps w p h e []

-- the link that is read at a name, and the pieces with another link there
module _ (name : List ℕ) (ps : List (List Slot)) (w at : ℕ) (is : StandsAt name ps w at) (p : List Slot) (e : p ≡ get_or ps w p) where
  pub link_read : (link : Option ℕ) → link ≡ slot_link p at → link ≡ slot_link (piece_at ps w) at
  link_read link h = h ∙ ap (λ q. slot_link q at) (read_piece ps w p is.within e)

  pub link_set : (q : List Slot) (link : Option ℕ) → q ≡ set p at (slot_name p at, link) →
      set ps w q ≡ set ps w (set (piece_at ps w) at (slot_name (piece_at ps w) at, link))
  link_set q link h = ap (set ps w) (h ∙ ap (λ r. set r at (slot_name r at, link)) (read_piece ps w p is.within e))

pub listed_pieces : (ps : List (List Slot)) (i : ℕ) (p : List Slot) → i < length ps → p ≡ get_or ps i p
    → keys_of (live (slots_in (take (i + 1) ps))) ≡ keys_of (live (slots_in (take i ps))) ++ keys_of (live p)
listed_pieces ps i p h e =
    ap (λ qs. keys_of (live (slots_in qs))) (take_more ps i p h ∙ ap (λ q. take i ps ++ q ∷ []) (sym e))
    ∙ ap (λ slots. keys_of (live slots)) (slots-append (take i ps) (p ∷ []) ∙ ap (λ q. slots_in (take i ps) ++ q) (append-nil p))
    ∙ ap keys_of (live-append (slots_in (take i ps)) p)
    ∙ keys-append (live (slots_in (take i ps))) (live p)

-- the names that are listed, and their count
pub listed_all : (ps : List (List Slot)) → Ascend (slots_in ps) → map.keys (links_in ps) ≡ keys_of (live (slots_in ps))
listed_all ps s = live_keys nat_list_cmp_total exact_bytes (slots_in ps) s

pub counted_all : (ps : List (List Slot)) → Ascend (slots_in ps) → length (map.keys (links_in ps)) ≡ length (live (slots_in ps))
counted_all ps s = live_count nat_list_cmp_total exact_bytes (slots_in ps) s

pub listed_sorted : (ps : List (List Slot)) → Ascend (slots_in ps) → IsStrictlySortedBy (slice_cmp nat_cmp) (keys_of (live (slots_in ps)))
listed_sorted ps s = live_sorted (slice_cmp nat_cmp) (slots_in ps) s

pub nothing_at : (name : List ℕ) (ps : List (List Slot)) → length ps ≡ 0 → map.get (links_in ps) name ≡ None
nothing_at name [] e = map.get-empty (slice_cmp nat_cmp) name
nothing_at name (p ∷ ps) e = absurd (omega arith)

pub piece_ascend : (ps : List (List Slot)) (w : ℕ) → w < length ps → Ascend (slots_in ps) → Ascend (piece_at ps w)
piece_ascend ps w h s =
    let front = slots_in (take w ps) in
    let back = slots_in (drop (suc w) ps) in
    let p = piece_at ps w in
    let keys : keys_of (slots_in ps) ≡ keys_of front ++ (keys_of p ++ keys_of back) = ap keys_of (three_parts ps w h) ∙ keys-append front (p ++ back)
    ∙ ap (λ ks. keys_of front ++ ks) (keys-append p back) in
    sorted_left (slice_cmp nat_cmp) (keys_of p) (keys_of back)
    (sorted_right (slice_cmp nat_cmp) (keys_of front) (keys_of p ++ keys_of back) (subst (IsStrictlySortedBy (slice_cmp nat_cmp)) keys s))

-- a name without an entry
pub remove_none : (m : Links) (name : List ℕ) → map.get m name ≡ None → m ≡ map.remove m name
remove_none m name none = remove-absent nat_list_cmp_total exact_bytes m name none

pub is_gone : (o : Option ℕ) → is_none o ≡ true → o ≡ None
is_gone None e = refl
is_gone (Some v) e = absurd (true≢false (sym e))

pub is_linked : (o : Option ℕ) → is_none o ≡ false → (v : ℕ) × (o ≡ Some v)
is_linked None e = absurd (true≢false e)
is_linked (Some v) e = (v, refl)

-- a directory of one entry
pub one_entry : (name : List ℕ) (v : ℕ) → IsDirectory (((name, Some v) ∷ []) ∷ []) 1
unfolding IsStrictlySortedBy
one_entry name v = grind arith

-- an entry more, where the one that stood there was gone
pub count_any : (name : List ℕ) (ps qs : List (List Slot)) (w at : ℕ) → StandsAt name ps w at → (v n more : ℕ) →
    qs ≡ set ps w (set (piece_at ps w) at (slot_name (piece_at ps w) at, Some v))
    → more ≡ cond (is_none (slot_link (piece_at ps w) at)) 1 0 → n ≡ length (live (slots_in ps)) → n + more ≡ length (live (slots_in qs))
count_any name ps qs w at is v n more new e count = grind (arith, count_put, count_kept)

-- a count that is full has an entry more only where one was gone
pub full_gone : (o : Option ℕ) (n more : ℕ) → more ≡ cond (is_none o) 1 0 → n < 2 ^ 64 → 2 ^ 64 ≤ n + more → o ≡ None
full_gone None n more e h f = refl
full_gone (Some v) n more e h f = absurd (omega (arith, e, h, f))

-- what std's calls say of that
pub gone_count : (o : Option ℕ) (b : Bool) (m : ℕ) → is_some o ≡ not b → m ≡ from_bool b → m ≡ cond (is_none o) 1 0
gone_count None true m e f = f
gone_count None false m e f = absurd (true≢false (sym e))
gone_count (Some v) true m e f = absurd (true≢false e)
gone_count (Some v) false m e f = f

pub not_below : (n : ℕ) → (n < 2 ^ 64 → ⊥) → 2 ^ 64 ≤ n
not_below n h = grind arith
