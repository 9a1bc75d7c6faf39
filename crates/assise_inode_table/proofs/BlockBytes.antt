-- Blocks of bytes, joined.
use Rattle.assise_inode_table.proofs.Common.{◌≡◌, ℕ, zero, suc, ◌+◌, ◌-◌, ◌*◌, ◌<◌, ◌≤◌, List, [], ◌∷◌, ◌++◌, length, take, drop, refl, ap, sym, ◌∙◌, get_or}
use Rattle.assise_inode_table.proofs.Common.{arith, append-nil, length-append, take_at, take-append-drop, take_all, drop_all, drop_at, drop_more, length-take}
use Rattle.assise_inode_table.proofs.Common.{length-drop, concat-append, take-add, concat, IsCut, bytes_from}
use Rattle.assise_seq_tree.proofs.Shared.BytesOverwritten.{take-append}

-- ---- the shape
pub cut_take : (bs : List (List ℕ)) (k : ℕ) → IsCut bs → IsCut (take k bs)
unfolding IsCut
cut_take bs zero h = tt
cut_take [] (suc k) h = tt
cut_take (b ∷ bs) (suc k) h = (h.0, h.1, (λ p. h.2 (omega (arith, length-take k bs))), cut_take bs k h.3)

pub cut_drop : (bs : List (List ℕ)) (k : ℕ) → IsCut bs → IsCut (drop k bs)
unfolding IsCut
cut_drop bs zero h = h
cut_drop [] (suc k) h = tt
cut_drop (b ∷ bs) (suc k) h = cut_drop bs k h.3

-- no more bytes than room
pub most : (bs : List (List ℕ)) → IsCut bs → length (concat bs) ≤ 4096 * length bs
unfolding IsCut
most [] h = omega arith
most (b ∷ bs) h = let rest = most bs h.3 in let one = h.1 in omega (arith, length-append b (concat bs), rest, one)

-- and each block has one
pub least : (bs : List (List ℕ)) → IsCut bs → 0 < length bs → 4096 * length bs < length (concat bs) + 4096
unfolding IsCut
least [] h p = absurd (omega arith)
least (b ∷ []) h p = let one = h.0 in omega (arith, length-append b [], one)
least (b ∷ d ∷ bs) h p = grind (arith, least (d ∷ bs) h.3 (omega arith), length-append)

-- what stands before another block is full
pub full : (bs : List (List ℕ)) (k : ℕ) → IsCut bs → k < length bs → length (concat (take k bs)) ≡ 4096 * k
unfolding IsCut
full bs zero h p = omega arith
full [] (suc k) h p = absurd (omega arith)
full (b ∷ bs) (suc k) h p = grind (arith, full bs k h.3 (omega arith), length-append)

either : (n : ℕ) (cs bs : List (List ℕ)) → 0 < length (cs ++ bs) → (0 < length cs → n ≡ 4096) → (0 < length bs → n ≡ 4096) → n ≡ 4096
either n [] bs p f g = g p
either n (x ∷ xs) bs p f g = f (omega arith)

-- cut blocks after full ones
pub cut_append : (cs bs : List (List ℕ)) → IsCut cs → IsCut bs → (0 < length bs → length (concat cs) ≡ 4096 * length cs) → IsCut (cs ++ bs)
unfolding IsCut
cut_append [] bs h k f = k
cut_append (a ∷ cs) bs h k f =
    (h.0, h.1, whole, cut_append cs bs h.3 k rest)
  where
    rest : 0 < length bs → length (concat cs) ≡ 4096 * length cs
    rest p = let all = f p in let one = h.1 in omega (arith, length-append a (concat cs), all, one, most cs h.3)

    whole : 0 < length (cs ++ bs) → length a ≡ 4096
    whole p = either (length a) cs bs p h.2 (λ q. let all = f q in let one = h.1 in omega (arith, length-append a (concat cs), all, one, most cs h.3))

pub cut_one : (b : List ℕ) → 0 < length b → length b ≤ 4096 → IsCut (b ∷ [])
unfolding IsCut
cut_one b p q = (p, q, (λ r. absurd (omega arith)), tt)

pub cut_none : IsCut []
unfolding IsCut
cut_none = tt

-- ---- the bytes
split : (bs : List (List ℕ)) (k : ℕ) → concat bs ≡ concat (take k bs) ++ concat (drop k bs)
split bs k = ap concat (sym (take-append-drop k bs)) ∙ concat-append (take k bs) (drop k bs)

pub concat_take : (bs : List (List ℕ)) (k : ℕ) → IsCut bs → k ≤ length bs → concat (take k bs) ≡ take (4096 * k) (concat bs)
concat_take bs k h p = go (drop k bs) refl
  where
    go : (rest : List (List ℕ)) → rest ≡ drop k bs → concat (take k bs) ≡ take (4096 * k) (concat bs)
    go [] e =
        let all = take_all k bs (omega (arith, length-drop k bs, ap length e)) in
        ap concat all ∙ sym (take_all (4096 * k) (concat bs) (omega (arith, most bs h, length-drop k bs, ap length e)))
    go (x ∷ xs) e =
        let size = full bs k h (omega (arith, length-drop k bs, ap length e)) in
        sym (ap (take (4096 * k)) (split bs k) ∙ take_at (concat (take k bs)) (concat (drop k bs)) (4096 * k) size)

pub concat_drop : (bs : List (List ℕ)) (k : ℕ) → IsCut bs → k ≤ length bs → concat (drop k bs) ≡ drop (4096 * k) (concat bs)
concat_drop bs k h p = go (drop k bs) refl
  where
    go : (rest : List (List ℕ)) → rest ≡ drop k bs → concat (drop k bs) ≡ drop (4096 * k) (concat bs)
    go [] e =
        ap concat (sym e) ∙ sym (drop_all (4096 * k) (concat bs) (omega (arith, most bs h, length-drop k bs, ap length e)))
    go (x ∷ xs) e =
        let size = full bs k h (omega (arith, length-drop k bs, ap length e)) in
        sym (ap (drop (4096 * k)) (split bs k) ∙ drop_at (concat (take k bs)) (concat (drop k bs)) (4096 * k) size)

-- ---- one block
first_taken : (b : List ℕ) (bs : List (List ℕ)) → IsCut (b ∷ bs) → take 4096 (b ++ concat bs) ≡ b
unfolding IsCut
first_taken b [] cut = ap (take 4096) (append-nil b) ∙ take_all 4096 b cut.1
first_taken b (c ∷ bs) cut = take_at b (concat (c ∷ bs)) 4096 (cut.2 (omega arith))

pub block_at : (bs : List (List ℕ)) (k : ℕ) (d : List ℕ) → IsCut bs → k < length bs → get_or bs k d ≡ bytes_from (4096 * k) 4096 (concat bs)
block_at bs k d h p =
    let rests : concat (drop k bs) ≡ get_or bs k d ++ concat (drop (k + 1) bs) = ap concat (drop_more bs k d p) in
    sym (grind (arith, concat_drop, first_taken, drop_more, cut_drop))

pub block_past : (bs : List (List ℕ)) (k : ℕ) → IsCut bs → length bs ≤ k → [] ≡ bytes_from (4096 * k) 4096 (concat bs)
block_past bs k h p = sym (ap (take 4096) (drop_all (4096 * k) (concat bs) (omega (arith, most bs h))))

-- ---- cutting
-- the first `count` of the blocks that the bytes are cut into
pub record CutSoFar (blocks : List (List ℕ)) (count : ℕ) (bytes : List ℕ) : Type 0 where
  pub shape : IsCut blocks
  pub whole : concat blocks ≡ take (4096 * count) bytes
  pub many : length blocks ≡ count

pub cut_nothing : (bytes : List ℕ) → CutSoFar [] 0 bytes
cut_nothing bytes = record { shape = cut_none; whole = refl; many = refl }

pub cut_more : (blocks : List (List ℕ)) (count : ℕ) (bytes block : List ℕ) → CutSoFar blocks count bytes → 4096 * count < length bytes →
    block ≡ bytes_from (4096 * count) 4096 bytes
    → CutSoFar (blocks ++ block ∷ []) (count + 1) bytes
cut_more blocks count bytes block so_far some is = grind (
  arith,
  length-take 4096 (drop (4096 * count) bytes),
  length-take (4096 * count) bytes,
  length-drop (4096 * count) bytes,
  concat-append blocks
      (block ∷ []),
  append-nil block,
  cut_append,
  cut_one,
  take-add (4096 * count) 4096 bytes,
  length-append blocks (block ∷ []),
)

-- ---- joining
drop-over : (n : ℕ) (xs ys : List ℕ) → drop n (xs ++ ys) ≡ drop n xs ++ drop (n - length xs) ys
drop-over zero xs ys = let none : 0 - length xs ≡ 0 = omega arith in rw none
drop-over (suc n) [] ys = let all : suc n - 0 ≡ suc n = omega arith in rw all
drop-over (suc n) (x ∷ xs) ys = let less : suc n - length (x ∷ xs) ≡ n - length xs = omega arith in rw less (drop-over n xs ys)

-- what is joined of some blocks, and how much of the offset is left
pub record JoinedSoFar (blocks : List (List ℕ)) (offset most : ℕ) (joined : List ℕ) (skipped : ℕ) : Type 0 where
  pub bytes : joined ≡ bytes_from offset most (concat blocks)
  pub left : skipped ≡ offset - length (concat blocks)

pub joined_more : (blocks : List (List ℕ)) (block : List ℕ) (offset n : ℕ) (joined : List ℕ) (skipped : ℕ) → JoinedSoFar blocks offset n joined skipped
    → JoinedSoFar (blocks ++ block ∷ []) offset n (joined ++ bytes_from skipped (n - length joined) block) (skipped - length block)
joined_more blocks block offset n joined skipped so_far = grind (arith, concat-append, append-nil, length-take, drop-over, take-append, length-append)

-- blocks with the bytes of `k` full ones are as many
pub as_many : (bs : List (List ℕ)) (k : ℕ) → IsCut bs → length (concat bs) ≡ 4096 * k → length bs ≡ k
as_many [] k h e = omega (arith, e)
as_many (b ∷ bs) k h e = let low = least (b ∷ bs) h (omega arith) in let high = most (b ∷ bs) h in omega (arith, e, low, high)
