-- A piece that is split, and one that goes; a piece's names and links side by side.
use Rattle.assise_inode_table.proofs.Common.{◌≡◌, ℕ, zero, suc, ◌+◌, ◌<◌, ◌≤◌, List, [], ◌∷◌, ◌++◌, length, take, drop, set, insert, get_or, zip, refl, sym, ap}
use Rattle.assise_inode_table.proofs.Common.{subst, ◌∙◌, arith, append_assoc, nat_cmp, take-append-drop, IsStrictlySortedBy, keys_of, slice_cmp, length-drop}
use Rattle.assise_inode_table.proofs.Common.{take_all, All-set, Slot, live, slots_in, piece_at, Ascend, AreFilled}
use Rattle.std.proofs.Common.{remove}
use Rattle.std.proofs.lemmas.List.{length-append}
use Rattle.std.proofs.lemmas.Slice.Zip.{length-zip, get_or-zip}
use Rattle.assise_inode_table.proofs.KeyOrder.{sorted_without}
use Rattle.assise_inode_table.proofs.Shared.LiveSlots.{live-append, keys-append}
use Rattle.assise_inode_table.proofs.PieceSlots.{three_parts, slots-append}

-- ---- a piece in two
split_slots_at : (ps : List (List Slot)) (w : ℕ) (lower upper : List Slot) → w < length ps → piece_at ps w ≡ lower ++ upper →
    slots_in (set (insert ps (suc w) upper) w lower) ≡ slots_in ps
split_slots_at [] w lower upper h e = absurd (omega arith)
split_slots_at (p ∷ ps) zero lower upper h e = sym (append_assoc lower upper (slots_in ps)) ∙ ap (λ q. q ++ slots_in ps) (sym e)
split_slots_at (p ∷ ps) (suc w) lower upper h e = ap (λ xs. p ++ xs) (split_slots_at ps w lower upper (omega arith) e)

pub split_slots : (ps : List (List Slot)) (w n : ℕ) (lower upper : List Slot) → w < length ps → n ≡ w + 1 → piece_at ps w ≡ lower ++ upper →
    slots_in (set (insert ps n upper) w lower) ≡ slots_in ps
split_slots ps w n lower upper h e parts =
    subst (λ m. slots_in (set (insert ps m upper) w lower) ≡ slots_in ps) {x = suc w} (omega arith) (split_slots_at ps w lower upper h parts)

-- ---- a lower half that joins the piece in front
join_slots_at : (ps : List (List Slot)) (v : ℕ) (lower upper : List Slot) → suc v < length ps → piece_at ps (suc v) ≡ lower ++ upper
    → slots_in (set (set ps v (piece_at ps v ++ lower)) (suc v) upper) ≡ slots_in ps
join_slots_at [] v lower upper h e = absurd (omega arith)
join_slots_at (p ∷ []) v lower upper h e = absurd (omega arith)
join_slots_at (p ∷ q ∷ ps) zero lower upper h e = grind (arith, append_assoc)
join_slots_at (p ∷ q ∷ ps) (suc v) lower upper h e = ap (λ xs. p ++ xs) (join_slots_at (q ∷ ps) v lower upper (omega arith) e)

module _ (ps : List (List Slot)) (v w : ℕ) (lower upper : List Slot) where
  pub join_slots : w < length ps → w ≡ v + 1 → piece_at ps w ≡ lower ++ upper → slots_in (set (set ps v (piece_at ps v ++ lower)) w upper) ≡ slots_in ps
  join_slots h e halves =
      let next : suc v ≡ w = omega arith in
      subst (λ n. slots_in (set (set ps v (piece_at ps v ++ lower)) n upper) ≡ slots_in ps) next
      (join_slots_at ps v lower upper (omega arith) (ap (piece_at ps) next ∙ halves))

  pub join_filled : 0 < length lower → 0 < length upper → AreFilled ps → AreFilled (set (set ps v (piece_at ps v ++ lower)) w upper)
  join_filled a b filled =
      let front = piece_at ps v ++ lower in
      let some : 0 < length front = omega (arith, a, length-append (piece_at ps v) lower) in
      All-set (λ q. 0 < length q) (set ps v front) w upper b (All-set (λ q. 0 < length q) ps v front some filled)

-- ---- a piece whose entries are gone
removed_slots : (ps : List (List Slot)) (w : ℕ) → slots_in (remove ps w) ≡ slots_in (take w ps) ++ slots_in (drop (suc w) ps)
removed_slots ps w = slots-append (take w ps) (drop (suc w) ps)

pub gone_live : (ps : List (List Slot)) (w : ℕ) → w < length ps → live (piece_at ps w) ≡ [] → live (slots_in (remove ps w)) ≡ live (slots_in ps)
gone_live ps w h gone =
    let front = slots_in (take w ps) in
    let back = slots_in (drop (suc w) ps) in
    ap live (removed_slots ps w) ∙ live-append front back
    ∙ sym (ap live (three_parts ps w h) ∙ live-append front (piece_at ps w ++ back) ∙ ap (λ es. live front ++ es) (live-append (piece_at ps w) back)
    ∙ ap (λ es. live front ++ (es ++ live back)) gone)

pub gone_ascend : (ps : List (List Slot)) (w : ℕ) → w < length ps → Ascend (slots_in ps) → Ascend (slots_in (remove ps w))
gone_ascend ps w h s =
    let front = slots_in (take w ps) in
    let back = slots_in (drop (suc w) ps) in
    let p = piece_at ps w in
    let keys : keys_of (slots_in ps) ≡ keys_of front ++ (keys_of p ++ keys_of back) = ap keys_of (three_parts ps w h) ∙ keys-append front (p ++ back)
    ∙ ap (λ ks. keys_of front ++ ks) (keys-append p back) in
    subst (IsStrictlySortedBy (slice_cmp nat_cmp)) (sym (ap keys_of (removed_slots ps w) ∙ keys-append front back))
    (sorted_without (slice_cmp nat_cmp) (keys_of front) (keys_of p) (keys_of back) (subst (IsStrictlySortedBy (slice_cmp nat_cmp)) keys s))

-- ---- names and links side by side
module _ {K X : Type 0} where
  pub length-side : (ns : List K) (ls : List X) → length ns ≤ length ls → length (zip ns ls) ≡ length ns
  length-side ns ls h = length-zip ns ls ∙ omega arith

  pub keys-side : (ns : List K) (ls : List X) → length ns ≤ length ls → keys_of (zip ns ls) ≡ ns
  keys-side [] ls h = refl
  keys-side (n ∷ ns) [] h = absurd (omega arith)
  keys-side (n ∷ ns) (l ∷ ls) h = ap (λ ks. n ∷ ks) (keys-side ns ls (omega arith))

  pub name-side : (ns : List K) (ls : List X) (i : ℕ) (d : K) (e : X) → i < length ns → length ns ≤ length ls → (get_or (zip ns ls) i (d, e)).0 ≡ get_or ns i d
  name-side ns ls i d e h k = ap (λ p. p.0) (get_or-zip ns ls i (d, e) h (omega arith))

  pub link-side : (ns : List K) (ls : List X) (i : ℕ) (d : K) (e : X) → i < length (zip ns ls) → (get_or (zip ns ls) i (d, e)).1 ≡ get_or ls i e
  link-side ns ls i d e h = ap (λ p. p.1) (get_or-zip ns ls i (d, e) (omega (arith, length-zip ns ls)) (omega (arith, length-zip ns ls)))

  pub set-side : (ns : List K) (ls : List X) (i : ℕ) (d : K) (e x : X) → zip ns (set ls i x) ≡ set (zip ns ls) i ((get_or (zip ns ls) i (d, e)).0, x)
  set-side [] ls i d e x = refl
  set-side (n ∷ ns) [] i d e x = refl
  set-side (n ∷ ns) (l ∷ ls) zero d e x = refl
  set-side (n ∷ ns) (l ∷ ls) (suc i) d e x = ap (λ zs. (n, l) ∷ zs) (set-side ns ls i d e x)

  pub take-side : (k : ℕ) (ns : List K) (ls : List X) → zip (take k ns) ls ≡ take k (zip ns ls)
  take-side zero ns ls = refl
  take-side (suc k) [] ls = refl
  take-side (suc k) (n ∷ ns) [] = refl
  take-side (suc k) (n ∷ ns) (l ∷ ls) = ap (λ zs. (n, l) ∷ zs) (take-side k ns ls)

  side-nil : (ns : List K) → zip {K = K} {X = X} ns [] ≡ []
  side-nil [] = refl
  side-nil (n ∷ ns) = refl

  pub drop-side : (k : ℕ) (ns : List K) (ls : List X) → zip (drop k ns) (drop k ls) ≡ drop k (zip ns ls)
  drop-side zero ns ls = refl
  drop-side (suc k) [] ls = refl
  drop-side (suc k) (n ∷ ns) [] = side-nil (drop k ns)
  drop-side (suc k) (n ∷ ns) (l ∷ ls) = drop-side k ns ls

  pub sides-append : (ns ms : List K) (ls ks : List X) → length ls ≡ length ns → zip (ns ++ ms) (ls ++ ks) ≡ zip ns ls ++ zip ms ks
  sides-append [] ms [] ks h = refl
  sides-append [] ms (l ∷ ls) ks h = absurd (omega arith)
  sides-append (n ∷ ns) ms [] ks h = absurd (omega arith)
  sides-append (n ∷ ns) ms (l ∷ ls) ks h = ap (λ zs. (n, l) ∷ zs) (sides-append ns ms ls ks (omega arith))

  -- links behind the last name don't count
  pub side-append : (ns : List K) (ls ms : List X) → length ns ≤ length ls → zip ns (ls ++ ms) ≡ zip ns ls
  side-append [] ls ms h = refl
  side-append (n ∷ ns) [] ms h = absurd (omega arith)
  side-append (n ∷ ns) (l ∷ ls) ms h = ap (λ zs. (n, l) ∷ zs) (side-append ns ls ms (omega arith))

  pub side-take : (ns : List K) (ls : List X) (k : ℕ) → length ns ≤ k → zip ns (take k ls) ≡ zip ns ls
  side-take [] ls k h = refl
  side-take (n ∷ ns) ls zero h = absurd (omega arith)
  side-take (n ∷ ns) [] (suc k) h = refl
  side-take (n ∷ ns) (l ∷ ls) (suc k) h = ap (λ zs. (n, l) ∷ zs) (side-take ns ls k (omega arith))

  pub insert-side : (i k : ℕ) (ns : List K) (ls : List X) (n : K) (l : X) → i ≤ length ns → i ≤ length ls → length ns ≤ i + k
      → zip (insert ns i n) (take i ls ++ l ∷ take k (drop i ls)) ≡ insert (zip ns ls) i (n, l)
  insert-side zero k ns ls n l h j m = ap (λ zs. (n, l) ∷ zs) (side-take ns ls k (omega arith))
  insert-side (suc i) k [] ls n l h j m = absurd (omega arith)
  insert-side (suc i) k (o ∷ ns) [] n l h j m = absurd (omega arith)
  insert-side (suc i) k (o ∷ ns) (x ∷ ls) n l h j m = ap (λ zs. (o, x) ∷ zs) (insert-side i k ns ls n l (omega arith) (omega arith) (omega arith))

-- a full piece is its two halves
pub halves : {X : Type 0} (p : List X) → length p ≡ 32 → p ≡ take 16 p ++ take 16 (drop 16 p)
halves p full = sym (take-append-drop 16 p) ∙ ap (λ xs. take 16 p ++ xs) (sym (take_all 16 (drop 16 p) (omega (arith, full, length-drop 16 p))))
