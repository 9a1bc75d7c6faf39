-- Writes, reads and cuts of bytes in blocks.
use Rattle.assise_inode_table.proofs.Common.{◌≡◌, ℕ, zero, suc, ◌+◌, ◌-◌, ◌*◌, ◌/◌, ◌%◌, ◌<◌, ◌≤◌, ◌≢◌, List, [], ◌∷◌, ◌++◌, length, take, drop, replicate, ap}
use Rattle.assise_inode_table.proofs.Common.{sym, ◌∙◌, subst, get_or, set, arith, min, max, append_assoc, append-nil, length-append, take-append-drop}
use Rattle.assise_inode_table.proofs.Common.{same_number_lists, get_or-take, get_or-drop, length-take, length-drop, take-take, drop-take, drop-drop, drop_more}
use Rattle.assise_inode_table.proofs.Common.{set_split, take-append-le, take_more_set, take_min, drop_min, concat-append, take-add, div_ceil, concat}
use Rattle.assise_inode_table.proofs.Common.{bytes_from, overwritten, length-overwritten, IsCut}
use Rattle.bytes.proofs.Chunks.{concat_push}
use Rattle.assise_inode_table.proofs.Bytes.{written_before, written_here, written_behind}
use Rattle.assise_inode_table.proofs.BlockBytes.{cut_take, cut_drop, cut_append, cut_one, concat_take, concat_drop, least, most, full, as_many}

-- ---- plain lists
same_take : (n m : ℕ) (xs : List ℕ) → min n (length xs) ≡ min m (length xs) → take n xs ≡ take m xs
same_take n m xs e = sym (take_min n xs) ∙ ap (λ k. take k xs) e ∙ take_min m xs

same_drop : (n m : ℕ) (xs : List ℕ) → min n (length xs) ≡ min m (length xs) → drop n xs ≡ drop m xs
same_drop n m xs e = sym (drop_min n xs) ∙ ap (λ k. drop k xs) e ∙ drop_min m xs

abbrev zeros : ℕ → List ℕ
zeros n = replicate n 0

-- a write into a part that it lies in
pub written_within : (xs : List ℕ) (f p o : ℕ) (new : List ℕ) → f ≤ length xs → f ≤ o → o + length new ≤ p
    → take f xs ++ (overwritten (take (p - f) (drop f xs)) (o - f) new ++ drop p xs) ≡ overwritten xs o new
written_within xs f p o new held before behind =
    let ys = drop f xs in
    let r = take (p - f) (drop f xs) in
    let e = o + length new in
    let prefix : take f xs ++ take (o - f) r ≡ take o xs =
    grind (arith, take-take (o - f) (p - f) (drop f xs) (omega arith), take-add f (o - f) xs) in
    let gap : (o - f) - length r ≡ o - length xs = omega (arith, length-take (p - f) (drop f xs), length-drop f xs) in
    let whole : p - f ≡ ((o - f) + length new) + (p - e) = omega arith in
    let inner : drop ((o - f) + length new) r ≡ take (p - e) (drop e xs) =
    grind (arith, drop-take, drop-drop) in
    let outer : drop p xs ≡ drop (p - e) (drop e xs) = sym (drop-drop (p - e) e xs ∙ ap (λ n. drop n xs) (omega arith)) in
    let back : drop ((o - f) + length new) r ++ drop p xs ≡ drop e xs = grind (arith, take-append-drop) in
    joined (take f xs) (take (o - f) r) (zeros ((o - f) - length r)) (zeros (o - length xs)) new (drop ((o - f) + length new) r) (drop p xs) (take o xs)
    (drop e xs) prefix (ap zeros gap) back
  where
    joined : (a b z y n d t u v : List ℕ) → a ++ b ≡ u → z ≡ y → d ++ t ≡ v → a ++ ((((b ++ z) ++ n) ++ d) ++ t) ≡ ((u ++ y) ++ n) ++ v
    joined a b z y n d t u v p q r = rw (← p, ← q, ← r) (simp append_assoc)

-- ---- a part of what is written over
from_at : (k n i : ℕ) (xs : List ℕ) → i < n → get_or (bytes_from k n xs) i 0 ≡ get_or xs (k + i) 0
from_at k n i xs within = get_or-take n (drop k xs) i 0 within ∙ get_or-drop k xs i 0

-- a part of what is written over is a part that is written over
pub part_over : (k n : ℕ) (xs : List ℕ) (o : ℕ) (new : List ℕ)
    → bytes_from k n (overwritten xs o new) ≡ overwritten (bytes_from k n xs) (min (o - k) n) (bytes_from (k - o) (n - min (o - k) n) new)
part_over k n xs o new =
    let part = bytes_from k n xs in
    let at = min (o - k) n in
    let rest = bytes_from (k - o) (n - min (o - k) n) new in
    let long : length rest ≡ min (n - min (o - k) n) (length new - (k - o)) = grind (arith, length-take, length-drop) in
    same_number_lists (bytes_from k n (overwritten xs o new)) (overwritten part at rest)
    (grind (arith, length-overwritten, length-take, length-drop))
    (search (length-take, from_at, written_before, written_here, written_behind, arith) parts 3)

-- `count` blocks hold it, and no fewer
pub over_more : (bs : List (List ℕ)) (o : ℕ) (new : List ℕ) (count k : ℕ) → IsCut bs → count ≡ max (length bs) (div_ceil (o + length new) 4096) → k < count →
    4096 * k < length (overwritten (concat bs) o new)
over_more bs o new count k cut is more = grind (arith, length-overwritten, least)

pub over_room : (bs : List (List ℕ)) (o : ℕ) (new : List ℕ) (count : ℕ) → IsCut bs → count ≡ max (length bs) (div_ceil (o + length new) 4096) →
    length (overwritten (concat bs) o new) ≤ 4096 * count
over_room bs o new count cut is = omega (arith, is, length-overwritten (concat bs) o new, most bs cut)

-- ---- writes
-- the blocks that a write reaches
pub record Reach (bs : List (List ℕ)) (size o : ℕ) (new : List ℕ) (first past until : ℕ) : Type 0 where
  pub cut : IsCut bs
  pub bytes : size ≡ length (concat bs)
  pub held : 4096 * first ≤ size
  pub before : 4096 * first ≤ o
  pub behind : o + length new ≤ 4096 * past
  pub some : first < past
  pub stop : until ≡ min (length bs) past

pub reach : (bs : List (List ℕ)) (size o : ℕ) (new : List ℕ) (start held count until : ℕ) → IsCut bs → size ≡ length (concat bs)
    → 0 < length new + (o - size) → start ≡ min size o → held ≡ length bs → count ≡ length new → until ≡ min held ((o + count - 1) / 4096 + 1)
    → Reach bs size o new (start / 4096) ((o + length new - 1) / 4096 + 1) until
reach bs size o new start held count until cut bytes some s h n u = grind arith

module _ {bs : List (List ℕ)} {size o : ℕ} {new : List ℕ} {first past until : ℕ} (r : Reach bs size o new first past until) where
  pub first_held : first ≤ until
  first_held = omega (arith, most bs r.cut, r.bytes, r.held, r.some, r.stop)

  pub until_held : until ≤ length bs
  until_held = omega (arith, r.stop)

  pub cut_reached : IsCut (take (until - first) (drop first bs))
  cut_reached = cut_take (drop first bs) (until - first) (cut_drop bs first r.cut)

  reached_is : concat (take (until - first) (drop first bs)) ≡ take (4096 * (until - first)) (drop (4096 * first) (concat bs))
  reached_is = grind (arith, concat_take, cut_drop, length-drop, concat_drop)

  pub reached_held : length (concat (take (until - first) (drop first bs))) ≤ size
  reached_held = grind (arith, reached_is, length-take, length-drop)

  pub made_is : (bytes : List ℕ) → bytes ≡ overwritten (concat (take (until - first) (drop first bs))) (o - first * 4096) new
      → bytes ≡ overwritten (take (4096 * past - 4096 * first) (drop (4096 * first) (concat bs))) (o - 4096 * first) new
  made_is bytes is = grind (arith, same_take, length-drop, most, reached_is)

  past_same : concat (drop until bs) ≡ drop (4096 * past) (concat bs)
  past_same = grind (arith, concat_drop, same_drop, most)

  pub written : (made : List (List ℕ)) → concat made ≡ overwritten (take (4096 * past - 4096 * first) (drop (4096 * first) (concat bs))) (o - 4096 * first) new
      → concat (take first bs ++ (made ++ drop until bs)) ≡ overwritten (concat bs) o new
  written made is = grind (arith, concat-append, concat_take, first_held, past_same, written_within)

  pub still_cut : (made : List (List ℕ)) → IsCut made → concat made ≡ overwritten (take (4096 * past - 4096 * first) (drop (4096 * first) (concat bs)))
      (o - 4096 * first) new
      → IsCut (take first bs ++ (made ++ drop until bs))
  still_cut made cut is =
      let fits = first_held in
      let tail : 0 < length (drop until bs) → length (concat made) ≡ 4096 * length made = λ p.
      let room : length (concat (take until bs)) ≡ 4096 * until = full bs until r.cut (omega (arith, length-drop until bs)) in
      let prefix = concat_take bs until r.cut (omega (arith, r.stop)) in
      let bytes : length (concat made) ≡ 4096 * (past - first) =
      grind (arith, length-overwritten, length-take, length-drop) in
      omega (arith, bytes, as_many made (past - first) cut bytes) in
      let head : length (concat (take first bs)) ≡ 4096 * length (take first bs) =
      grind (arith, concat_take, length-take) in
      cut_append (take first bs) (made ++ drop until bs) (cut_take bs first r.cut) (cut_append made (drop until bs) cut (cut_drop bs until r.cut) tail)
      (λ p. head)

  -- where the write reaches one block alone, that one changes
  pub one_written : suc first ≡ until → (d b : List ℕ) → o - first * 4096 + length new ≤ 4096 → b ≡ overwritten (get_or bs first d) (o - first * 4096) new
      → IsCut (set bs first b) × (concat (set bs first b) ≡ overwritten (concat bs) o new)
  one_written next d b fits is =
      let old = get_or bs first d in
      let held : first < length bs = omega (arith, next, until_held) in
      let one : until - first ≡ 1 = omega (arith, next) in
      let reached : take (until - first) (drop first bs) ≡ old ∷ [] = ap (λ n. take n (drop first bs)) one ∙ ap (take 1) (drop_more bs first d held) in
      let cut : IsCut (old ∷ []) = subst IsCut reached cut_reached in
      let size = length-overwritten old (o - first * 4096) new in
      let bytes = made_is (concat (b ∷ []))
      (append-nil b ∙ is ∙ ap (λ xs. overwritten xs (o - first * 4096) new) (sym (append-nil old) ∙ sym (ap concat reached))) in
      let made = cut_one b (omega (arith, ap length is, size, least (old ∷ []) cut, ap length (append-nil old)))
      (omega (arith, ap length is, size, fits, most (old ∷ []) cut, ap length (append-nil old))) in
      let put : set bs first b ≡ take first bs ++ b ∷ drop until bs = set_split bs first b held ∙ ap (λ n. take first bs ++ b ∷ drop n bs) next in
      (subst IsCut (sym put) (still_cut (b ∷ []) made bytes), ap concat put ∙ written (b ∷ []) bytes)

-- ---- reads
pub end_held : (bs : List (List ℕ)) (start end : ℕ) → IsCut bs → start < end → end ≤ length (concat bs) → (end - 1) / 4096 + 1 ≤ length bs
end_held bs start end cut some within = omega (arith, most bs cut)

pub part_of : (bs : List (List ℕ)) (start end : ℕ) → IsCut bs → start < end → end ≤ length (concat bs)
    → bytes_from (start - start / 4096 * 4096) (end - start) (concat (take ((end - 1) / 4096 + 1 - start / 4096) (drop (start / 4096) bs)))
    ≡ bytes_from start (end - start) (concat bs)
part_of bs start end cut some within =
    let first = start / 4096 in
    let until = (end - 1) / 4096 + 1 in
    let held = end_held bs start end cut some within in
    let part : concat (take (until - first) (drop first bs)) ≡ take (4096 * (until - first)) (drop (4096 * first) (concat bs)) =
    grind (arith, concat_take, cut_drop, length-drop, concat_drop) in
    let same : start - first * 4096 ≡ start - 4096 * first = omega arith in
    let room : 4096 * (until - first) ≡ (start - 4096 * first) + (4096 * (until - first) - (start - 4096 * first)) = omega arith in
    ap (λ n. bytes_from n (end - start) (concat (take (until - first) (drop first bs)))) same
    ∙ ap (bytes_from (start - 4096 * first) (end - start)) part
    ∙ ap (λ n. bytes_from (start - 4096 * first) (end - start) (take n (drop (4096 * first) (concat bs)))) room
    ∙ ap (take (end - start)) (drop-take (start - 4096 * first) (4096 * (until - first) - (start - 4096 * first)) (drop (4096 * first) (concat bs)))
    ∙ take-take (end - start) (4096 * (until - first) - (start - 4096 * first)) (drop (start - 4096 * first) (drop (4096 * first) (concat bs))) (omega arith)
    ∙ ap (take (end - start)) (drop-drop (start - 4096 * first) (4096 * first) (concat bs) ∙ ap (λ n. drop n (concat bs)) (omega arith))

-- a read that starts before the size reads the bytes up to it
pub read_within : (xs : List ℕ) (size offset most start end : ℕ) → size ≤ length xs → start ≡ min size offset → end ≡ start + min (size - start) most →
    start < end
    → bytes_from start (end - start) xs ≡ bytes_from offset most (take size xs)
read_within xs size offset most start end held s e some =
    let at : start ≡ offset = omega arith in
    let ys = drop offset xs in
    let left = size - offset in
    let whole : size ≡ offset + left = omega arith in
    let count : min most (length (take left ys)) ≡ min (end - start) (length (take left ys)) = omega (arith, length-take left ys, length-drop offset xs) in
    sym (ap (λ n. take most (drop offset (take n xs))) whole ∙ ap (take most) (drop-take offset left xs) ∙ same_take most (end - start) (take left ys) count
    ∙ take-take (end - start) left ys (omega arith) ∙ ap (λ n. take (end - start) (drop n xs)) (sym at))

-- ---- cuts
pub bytes_between : (bs : List (List ℕ)) (size : ℕ) → IsCut bs → size ≤ length (concat bs) → size % 4096 ≡ 0 → concat (take (size / 4096) bs)
    ≡ take size (concat bs)
bytes_between bs size cut within e = grind (arith, most, concat_take)

-- the first block has `rest` bytes
first_long : (rest : ℕ) (b : List ℕ) (bs : List (List ℕ)) → IsCut (b ∷ bs) → rest ≤ length (concat (b ∷ bs)) → rest < 4096 → rest ≤ length b
unfolding IsCut
first_long rest b [] cut within small = omega (arith, length-append b [])
first_long rest b (c ∷ bs) cut within small = let one = cut.2 (omega arith) in omega (arith, one)

block_long : (bs : List (List ℕ)) (k rest : ℕ) (d : List ℕ) → IsCut bs → k < length bs → 4096 * k + rest ≤ length (concat bs) → rest < 4096 →
    rest ≤ length (get_or bs k d)
unfolding IsCut
block_long [] k rest d cut held within small = absurd (omega arith)
block_long (b ∷ bs) zero rest d cut held within small = first_long rest b bs cut (omega arith) small
block_long (b ∷ bs) (suc k) rest d cut held within small =
    let one = cut.2 (omega arith) in
    block_long bs k rest d cut.3 (omega arith) (omega (arith, one, length-append b (concat bs))) small

block_taken : (bs : List (List ℕ)) (k rest : ℕ) (d : List ℕ) → IsCut bs → k < length bs → 4096 * k + rest ≤ length (concat bs) → rest < 4096 →
    concat (take k bs) ++ take rest (get_or bs k d) ≡ take (4096 * k + rest) (concat bs)
unfolding IsCut
block_taken bs k rest d cut held within small = grind (
  arith,
  drop_more bs k d held,
  block_long bs k rest d cut held within small,
  concat_take bs k cut (omega arith),
  concat_drop bs k cut (omega arith),
  take-append-le,
  take-add (4096 * k) rest (concat bs),
)

pub last_held : (bs : List (List ℕ)) (size : ℕ) → IsCut bs → size ≤ length (concat bs) → size % 4096 ≢ 0 → size / 4096 < length bs
last_held bs size cut within some = omega (arith, most bs cut)

pub cut_within : (bs : List (List ℕ)) (size : ℕ) (b d : List ℕ) → IsCut bs → size ≤ length (concat bs) → size % 4096 ≢ 0
    → b ≡ take (size % 4096) (get_or bs (size / 4096) d) → IsCut (take (size / 4096 + 1) (set bs (size / 4096) b))
cut_within bs size b d cut within some part =
    let k = size / 4096 in
    let held = last_held bs size cut within some in
    let long = block_long bs k (size % 4096) d cut held (omega arith) (omega arith) in
    let last : length b ≡ size % 4096 = ap length part ∙ omega (arith, length-take (size % 4096) (get_or bs k d)) in
    let room : length (concat (take k bs)) ≡ 4096 * length (take k bs) = full bs k cut held ∙ omega (arith, length-take k bs) in
    subst IsCut (sym (take_more_set bs k b held)) (cut_append (take k bs) (b ∷ []) (cut_take bs k cut) (cut_one b (omega arith) (omega arith)) (λ p. room))

pub bytes_within : (bs : List (List ℕ)) (size : ℕ) (b d : List ℕ) → IsCut bs → size ≤ length (concat bs) → size % 4096 ≢ 0
    → b ≡ take (size % 4096) (get_or bs (size / 4096) d) → concat (take (size / 4096 + 1) (set bs (size / 4096) b)) ≡ take size (concat bs)
bytes_within bs size b d cut within some part = grind (arith, last_held, take_more_set, concat_push, block_taken)
