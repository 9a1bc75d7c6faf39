-- A piece's links, and which of its entries are gone, as one list.
use Rattle.assise_inode_table.proofs.Common.{◌≡◌, ℕ, zero, suc, ◌+◌, ◌-◌, ◌<◌, ◌≤◌, Bool, true, false, true≢false, List, [], ◌∷◌, ◌++◌, length, Some, None}
use Rattle.assise_inode_table.proofs.Common.{take, drop, set, insert, get_or, zip, refl, sym, ap, ap₂, ◌∙◌, arith, append_assoc, list_all, put_mid, mid_of}
use Rattle.assise_inode_table.proofs.Common.{post_of, length-take, length-drop, IsPiece, Slot, link_or_none, links_or_none, live, slot_link}
use lib.Seq.{take-take}
use Rattle.std.proofs.lemmas.List.{length-append}
use Rattle.assise_inode_table.proofs.PieceChanges.{length-side, link-side, side-append, sides-append, side-take, take-side, drop-side, insert-side}

pub links-length : (ls : List ℕ) (gs : List Bool) → length gs ≡ length ls → length (links_or_none ls gs) ≡ length ls
unfolding links_or_none
links-length [] gs h = refl
links-length (l ∷ ls) [] h = absurd (omega arith)
links-length (l ∷ ls) (g ∷ gs) h = ap suc (links-length ls gs (omega arith))

links-nil : (ls : List ℕ) → links_or_none ls [] ≡ []
unfolding links_or_none
links-nil [] = refl
links-nil (l ∷ ls) = refl

pub links-get : (ls : List ℕ) (gs : List Bool) (i l : ℕ) (g : Bool) → i < length ls → i < length gs
    → get_or (links_or_none ls gs) i None ≡ link_or_none (get_or ls i l) (get_or gs i g)
unfolding links_or_none
links-get [] gs i l g h k = absurd (omega arith)
links-get (x ∷ ls) [] i l g h k = absurd (omega arith)
links-get (x ∷ ls) (y ∷ gs) zero l g h k = refl
links-get (x ∷ ls) (y ∷ gs) (suc i) l g h k = links-get ls gs i l g (omega arith) (omega arith)

pub links-set : (ls : List ℕ) (gs : List Bool) (i l : ℕ) (g : Bool) → links_or_none (set ls i l) (set gs i g) ≡ set (links_or_none ls gs) i (link_or_none l g)
unfolding links_or_none
links-set [] gs i l g = refl
links-set (x ∷ ls) [] zero l g = refl
links-set (x ∷ ls) [] (suc i) l g = refl
links-set (x ∷ ls) (y ∷ gs) zero l g = refl
links-set (x ∷ ls) (y ∷ gs) (suc i) l g = ap (λ xs. link_or_none x y ∷ xs) (links-set ls gs i l g)

pub links-gone : (ls : List ℕ) (gs : List Bool) (i : ℕ) → links_or_none ls (set gs i true) ≡ set (links_or_none ls gs) i None
unfolding links_or_none
links-gone [] gs i = refl
links-gone (x ∷ ls) [] i = refl
links-gone (x ∷ ls) (y ∷ gs) zero = refl
links-gone (x ∷ ls) (y ∷ gs) (suc i) = ap (λ xs. link_or_none x y ∷ xs) (links-gone ls gs i)

links-append : (ls ms : List ℕ) (gs hs : List Bool) → length gs ≡ length ls → links_or_none (ls ++ ms) (gs ++ hs) ≡ links_or_none ls gs ++ links_or_none ms hs
unfolding links_or_none
links-append [] ms [] hs h = refl
links-append [] ms (g ∷ gs) hs h = absurd (omega arith)
links-append (l ∷ ls) ms [] hs h = absurd (omega arith)
links-append (l ∷ ls) ms (g ∷ gs) hs h = ap (λ xs. link_or_none l g ∷ xs) (links-append ls ms gs hs (omega arith))

links-take : (k : ℕ) (ls : List ℕ) (gs : List Bool) → links_or_none (take k ls) (take k gs) ≡ take k (links_or_none ls gs)
unfolding links_or_none
links-take zero ls gs = refl
links-take (suc k) [] gs = refl
links-take (suc k) (l ∷ ls) [] = refl
links-take (suc k) (l ∷ ls) (g ∷ gs) = ap (λ xs. link_or_none l g ∷ xs) (links-take k ls gs)

links-drop : (k : ℕ) (ls : List ℕ) (gs : List Bool) → links_or_none (drop k ls) (drop k gs) ≡ drop k (links_or_none ls gs)
unfolding links_or_none
links-drop zero ls gs = refl
links-drop (suc k) [] gs = refl
links-drop (suc k) (l ∷ ls) [] = links-nil (drop k ls)
links-drop (suc k) (l ∷ ls) (g ∷ gs) = links-drop k ls gs

module _ {ns : List (List ℕ)} {ls : List ℕ} {gs : List Bool} (piece : IsPiece ns ls gs) where
  pub links_room : length (links_or_none ls gs) ≡ 32
  links_room = links-length ls gs (piece.gone_room ∙ sym piece.room) ∙ piece.room

  pub names_few : length ns ≤ length (links_or_none ls gs)
  names_few = omega (arith, piece.few, links_room)

  -- a piece's slots are as many as its names
  pub slots_count : {slots : List Slot} → zip ns (links_or_none ls gs) ≡ slots → length slots ≡ length ns
  slots_count e = ap length (sym e) ∙ length-side ns (links_or_none ls gs) names_few

  pub link_beside : (at : ℕ) → at < length ns → get_or (links_or_none ls gs) at None ≡ link_or_none (get_or ls at 0) (get_or gs at false)
  link_beside at h = links-get ls gs at 0 false (omega (arith, h, piece.few, piece.room)) (omega (arith, h, piece.few, piece.gone_room))

  pub link_is : (slots : List Slot) (at : ℕ) → zip ns (links_or_none ls gs) ≡ slots → at < length slots
      → link_or_none (get_or ls at 0) (get_or gs at false) ≡ slot_link slots at
  link_is slots at e h = grind (arith, link_beside, slots_count, link-side)

-- ---- a link that comes in at its place
module _ {X : Type 0} (at w : ℕ) (xs : List X) (x : X) (new : List X) (some : 0 < w) (within : at + w ≤ length xs)
    (is : new ≡ x ∷ take (length (mid_of at w xs) - 1) (mid_of at w xs)) where
  mid_length : length (mid_of at w xs) ≡ w
  mid_length = omega (arith, length-take w (drop at xs), length-drop at xs)

  pub shifted : put_mid at w xs new ≡ take at xs ++ ((x ∷ take (w - 1) (drop at xs)) ++ post_of at w xs)
  shifted = grind (arith, mid_length, take-take)

module _ {K : Type 0} (at w : ℕ) (ns : List K) (ls : List ℕ) (gs : List Bool) (n : K) (l : ℕ)
    (some : 0 < w) (within : at + w ≤ length ls) (room : length gs ≡ length ls) where
  links_with :
      links_or_none (take at ls ++ ((l ∷ take (w - 1) (drop at ls)) ++ post_of at w ls))
      (take at gs ++ ((false ∷ take (w - 1) (drop at gs)) ++ post_of at w gs))
      ≡ (take at (links_or_none ls gs) ++ (Some l ∷ take (w - 1) (drop at (links_or_none ls gs)))) ++ links_or_none (post_of at w ls) (post_of at w gs)
  unfolding links_or_none
  links_with =
      let behind = links_or_none (post_of at w ls) (post_of at w gs) in
      links-append (take at ls) ((l ∷ take (w - 1) (drop at ls)) ++ post_of at w ls) (take at gs) ((false ∷ take (w - 1) (drop at gs)) ++ post_of at w gs)
      (omega (arith, room, length-take at ls, length-take at gs))
      ∙ ap₂ (λ u v. u ++ v) (links-take at ls gs)
      (links-append (l ∷ take (w - 1) (drop at ls)) (post_of at w ls) (false ∷ take (w - 1) (drop at gs)) (post_of at w gs)
      (omega (arith, room, length-take (w - 1) (drop at ls), length-take (w - 1) (drop at gs), length-drop at ls, length-drop at gs))
      ∙ ap (λ ys. (Some l ∷ ys) ++ behind) (links-take (w - 1) (drop at ls) (drop at gs) ∙ ap (take (w - 1)) (links-drop at ls gs)))
      ∙ sym (append_assoc (take at (links_or_none ls gs)) (Some l ∷ take (w - 1) (drop at (links_or_none ls gs))) behind)

  pub insert_shifted : (newl : List ℕ) (newg : List Bool) → at ≤ length ns → length ns + 1 ≡ at + w
      → newl ≡ l ∷ take (length (mid_of at w ls) - 1) (mid_of at w ls) → newg ≡ false ∷ take (length (mid_of at w gs) - 1) (mid_of at w gs)
      → zip (insert ns at n) (links_or_none (put_mid at w ls newl) (put_mid at w gs newg)) ≡ insert (zip ns (links_or_none ls gs)) at (n, Some l)
  insert_shifted newl newg h all links gone =
      let m = links_or_none ls gs in
      let long : length m ≡ length ls = links-length ls gs room in
      let shifted_links = shifted at w ls l newl some within links in
      let shifted_gone = shifted at w gs false newg some (omega (arith, room, within)) gone in
      ap (zip (insert ns at n)) (ap₂ links_or_none shifted_links shifted_gone ∙ links_with)
      ∙ side-append (insert ns at n) (take at m ++ (Some l ∷ take (w - 1) (drop at m))) (links_or_none (post_of at w ls) (post_of at w gs))
      (grind (arith, length-append, length-take, length-drop))
      ∙ insert-side at (w - 1) ns m n (Some l) h (omega (arith, long)) (omega arith)

-- ---- a part of the names, whose links come first
pub part_links : {K : Type 0} (s k : ℕ) (ns : List K) (ls ms : List ℕ) (gs hs : List Bool) → length gs ≡ length ls → length ns ≤ length ls
    → zip (take k (drop s ns)) (links_or_none (take k (drop s ls) ++ ms) (take k (drop s gs) ++ hs)) ≡ take k (drop s (zip ns (links_or_none ls gs)))
part_links s k ns ls ms gs hs room few = grind
    (arith, links-length, links-append, length-take, length-drop, links-take, links-drop, side-append, side-take, take-side, drop-side)

-- ---- the names of another piece behind those of one
pub append_links : {K : Type 0} (at w : ℕ) (ns ms : List K) (ls ks : List ℕ) (gs hs : List Bool) → length gs ≡ length ls → length hs ≡ length ks
    → length ns ≤ length ls → length ms ≤ length ks → at ≡ length ns → w ≡ length ms
    → zip (ns ++ ms) (links_or_none (put_mid at w ls (take w ks)) (put_mid at w gs (take w hs))) ≡ zip ns (links_or_none ls gs) ++ zip ms (links_or_none ks hs)
append_links at w ns ms ls ks gs hs room more few some own count = grind
    (arith, links-length, links-append, length-take, links-take, sides-append, side-take, side-append)

-- ---- a piece whose entries are gone
pub all_gone : (ns : List (List ℕ)) (ls : List ℕ) (gs : List Bool) → list_all (λ g. g) (take (length ns) gs) ≡ true → live (zip ns (links_or_none ls gs)) ≡ []
unfolding links_or_none
all_gone [] ls gs e = refl
all_gone (n ∷ ns) [] gs e = refl
all_gone (n ∷ ns) (l ∷ ls) [] e = refl
all_gone (n ∷ ns) (l ∷ ls) (true ∷ gs) e = all_gone ns ls gs e
all_gone (n ∷ ns) (l ∷ ls) (false ∷ gs) e = absurd (true≢false (sym e))
