-- What a search among a piece's names finds, and a piece's names and links as slots.
use Rattle.assise_inode_table.proofs.Common.{◌≡◌, ℕ, ◌+◌, ◌<◌, ◌≤◌, List, [], ◌∷◌, ◌++◌, length, Option, Some, None, Result, Ok, Err, IfOk, IfErr, take, drop}
use Rattle.assise_inode_table.proofs.Common.{get_or, zip, sym, ap, subst, ◌∙◌, arith, append-nil, nat_cmp, Ordering, Less, Equal, Greater, inl, inr}
use Rattle.assise_inode_table.proofs.Common.{IsStrictlySortedBy, IsSearchInRange, IsBinarySearchResult, IsNonDecreasingBy, keys_of, ordering_index}
use Rattle.assise_inode_table.proofs.Common.{IsTotalOrder, IsAntisymmetric, slice_cmp, nat_list_cmp_total, exact_bytes, Less-from_sorted, cases_lt, length-take}
use Rattle.assise_inode_table.proofs.Common.{length-drop, take_all, get_or-take, get_or-drop, take-map, drop-map, take_more, recursion_from_All, live_entry}
use Rattle.assise_inode_table.proofs.Common.{live, slot_link, IsSlotOf, IsGapFor}
use Rattle.assise_inode_table.proofs.Shared.LiveSlots.{live-append, keys-append}
use Rattle.assise_inode_table.proofs.PieceChanges.{length-side, keys-side, name-side, link-side}

module _ {K : Type 0} {R : K → K → Ordering} (o : IsTotalOrder R) (same : IsAntisymmetric R) where
  at_most_two : (r : Ordering) → ordering_index r ≤ 2
  at_most_two Less = omega arith
  at_most_two Equal = omega arith
  at_most_two Greater = omega arith

  rises : (x y q : K) → R x y ≡ Less → ordering_index (R x q) ≤ ordering_index (R y q)
  rises x y q h = grind arith

  pub searchable : (xs : List K) (q : K) → IsStrictlySortedBy R xs → IsNonDecreasingBy (λ y. ordering_index (R y q)) xs
  searchable xs q s i j d low inside = elim (cases_lt i j) [
    | inl before ↦ rises (get_or xs i d) (get_or xs j d) q (Less-from_sorted R xs i j d s before inside)
    | inr over ↦ subst (λ n. ordering_index (R (get_or xs i d) q) ≤ ordering_index (R (get_or xs n d) q)) {x = i} (omega arith) (omega arith)
  ]

module _ (name : List ℕ) (ns : List (List ℕ)) (ls : List (Option ℕ)) (few : length ns ≤ length ls) where
  found : (at : ℕ) → at < length ns → ((d : List ℕ) → slice_cmp nat_cmp (get_or ns at d) name ≡ Equal) → IsSlotOf name (zip ns ls) at
  found at h e = grind (arith, length-side, name-side, exact_bytes)

  keys-take : (at : ℕ) → keys_of (take at (zip ns ls)) ≡ take at ns
  keys-take at = sym (take-map (λ e. e.0) at (zip ns ls)) ∙ ap (take at) (keys-side ns ls few)

  keys-drop : (at : ℕ) → keys_of (drop at (zip ns ls)) ≡ drop at ns
  keys-drop at = sym (drop-map (λ e. e.0) at (zip ns ls)) ∙ ap (drop at) (keys-side ns ls few)

  missed : (at : ℕ) → at ≤ length ns → ((k : ℕ) (d : List ℕ) → 0 ≤ k → k < at → slice_cmp nat_cmp (get_or ns k d) name ≡ Less)
      → ((k : ℕ) (d : List ℕ) → at ≤ k → k < length ns → slice_cmp nat_cmp (get_or ns k d) name ≡ Greater) → IsGapFor name (zip ns ls) at
  missed at h below above = grind
      (arith, length-side, keys-take, recursion_from_All, length-take, get_or-take, keys-drop, get_or-drop, nat_list_cmp_total, length-drop)

  pub search_found : (r : Result ℕ ℕ) → IsSearchInRange r (length ns) → IsBinarySearchResult (λ y. slice_cmp nat_cmp y name) ns r →
      IfOk r (IsSlotOf name (zip ns ls))
  search_found (Ok at) within is = found at within is
  search_found (Err at) within is = tt

  pub search_missed : (r : Result ℕ ℕ) → IsStrictlySortedBy (slice_cmp nat_cmp) ns → IsSearchInRange r (length ns) →
      IsBinarySearchResult (λ y. slice_cmp nat_cmp y name) ns r → IfErr r (IsGapFor name (zip ns ls))
  search_missed (Ok at) s within is = tt
  search_missed (Err at) s within is = let parted = is (searchable nat_list_cmp_total exact_bytes ns name s) in missed at within parted.0 parted.1

-- ---- a piece slot by slot
module _ (ns : List (List ℕ)) (ls : List (Option ℕ)) (few : length ns ≤ length ls) (at : ℕ) (h : at < length ns) where
  one_more : take (at + 1) (zip ns ls) ≡ take at (zip ns ls) ++ (get_or ns at [], get_or ls at None) ∷ []
  one_more =
      let inside : at < length (zip ns ls) = omega (arith, length-side ns ls few) in
      take_more (zip ns ls) at ([], None) inside
      ∙ ap (λ n. take at (zip ns ls) ++ (n, slot_link (zip ns ls) at) ∷ []) (name-side ns ls at [] None h few)
      ∙ ap (λ l. take at (zip ns ls) ++ (get_or ns at [], l) ∷ []) (link-side ns ls at [] None inside)

  live_more : live (take (at + 1) (zip ns ls)) ≡ live (take at (zip ns ls)) ++ live_entry (get_or ns at []) (get_or ls at None)
  live_more = grind (arith, one_more, live-append)

  pub listed_none : get_or ls at None ≡ None → keys_of (live (take (at + 1) (zip ns ls))) ≡ keys_of (live (take at (zip ns ls)))
  listed_none none = grind (arith, live_more, append-nil)

  pub listed_some : (v : ℕ) → get_or ls at None ≡ Some v → keys_of (live (take (at + 1) (zip ns ls))) ≡ keys_of (live (take at (zip ns ls))) ++ get_or ns
      at [] ∷ []
  listed_some v some = grind (arith, live_more, keys-append)

pub take_side_all : (ns : List (List ℕ)) (ls : List (Option ℕ)) (at : ℕ) → length ns ≤ length ls → length ns ≤ at → take at (zip ns ls) ≡ zip ns ls
take_side_all ns ls at few h = take_all at (zip ns ls) (omega (arith, length-side ns ls few))
