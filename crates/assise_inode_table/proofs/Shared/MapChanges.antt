-- Changes put into a map, one after another.
use Rattle.assise_inode_table.proofs.Common.{arith, ◌≡◌, ◌≢◌, inl, inr, ℕ, ◌+◌, ◌<◌, ◌==◌, ◌||◌, Bool, true, false, List, [], ◌∷◌, ◌++◌, if◌then◌else◌, cond}
use Rattle.assise_inode_table.proofs.Common.{length, take, slice_index_or, Option, Some, None, IsSome, refl, sym, ap, ◌∙◌, subst, cases_Bool, eq-eqb}
use Rattle.assise_inode_table.proofs.Common.{false≢true, or_parts, take_more, Effect, Content, InodeMap, regular, all_applied, contains, value_after}
use Rattle.assise_inode_table.proofs.Common.{with_value, AreDistinctChanges, ArePlaced, Lacks, found, is_among, placed, placed_one, map_without, Change}
use Rattle.std.specs.Option.{is_some}
use Rattle.std.specs.FinMap as map
use Rattle.assise_inode_table.proofs.Shared.EffectLists.{get-all_applied, same_inodes}
use Rattle.assise_inode_table.proofs.FewChanges.{among, distinct_prefix, chosen_other, chosen_same, found_append}
use Rattle.assise_inode_table.proofs.Shared.EffectValues.{contains-append, get-with_value}

-- ---- inodes that are taken out again

pub get-without : (m : InodeMap) (is : List ℕ) (j : ℕ) → map.get (map_without m is) j ≡ (if contains is j then None else map.get m j)
get-without m [] j = refl
get-without m (i ∷ is) j = grind (arith, get-without (map.remove m i) is j, get-with_value m i None j)

-- the map without an inode more, which wasn't there before
pub without_new : (m n : InodeMap) (made : List ℕ) (i : ℕ) → map.get m i ≡ None → ((j : ℕ) → i ≢ j → map.get n j ≡ map.get m j) → map_without n (made ++ i ∷ [])
    ≡ map_without m made
without_new m n made i new others = grind (arith, same_inodes, get-without, contains-append)

-- ---- inodes that are there for now

placed_there : (m : InodeMap) (i : ℕ) → is_some (map.get m i) ≡ true → placed_one m i ≡ m
placed_there m i h = ap (λ b. if b then m else map.insert m i (regular [])) h

placed_new : (m : InodeMap) (i : ℕ) → is_some (map.get m i) ≡ false → placed_one m i ≡ map.insert m i (regular [])
placed_new m i h = ap (λ b. if b then m else map.insert m i (regular [])) h

placed_else : (m : InodeMap) (i j : ℕ) → i ≢ j → map.get (placed_one m i) j ≡ map.get m j
placed_else m i j other =
    elim (cases_Bool (is_some (map.get m i))) [
      | inl there ↦ ap (λ n. map.get n j) (placed_there m i there)
      | inr new ↦ ap (λ n. map.get n j) (placed_new m i new) ∙ get-with_value m i (Some (regular [])) j ∙ chosen_other i j _ _ other
    ]

placed_some : (m : InodeMap) (i : ℕ) → is_some (map.get (placed_one m i) i) ≡ true
placed_some m i =
    elim (cases_Bool (is_some (map.get m i))) [
      | inl there ↦ ap (λ n. is_some (map.get n i)) (placed_there m i there) ∙ there
      | inr new ↦ ap (λ n. is_some (map.get n i)) (placed_new m i new) ∙ ap is_some (get-with_value m i (Some (regular [])) i ∙ chosen_same i i _ _ refl)
    ]

-- what is there stays
placed_stays : (m : InodeMap) (i j : ℕ) → is_some (map.get m j) ≡ true → is_some (map.get (placed_one m i) j) ≡ true
placed_stays m i j there = grind (arith, placed_else)

all_stay : (m : InodeMap) (cs : List Change) (j : ℕ) → is_some (map.get m j) ≡ true → is_some (map.get (placed m cs) j) ≡ true
all_stay m [] j there = there
all_stay m (c ∷ cs) j there = all_stay (placed_one m c.inode) cs j (placed_stays m c.inode j there)

pub are_placed : (m : InodeMap) (cs : List Change) → ArePlaced (placed m cs) cs
are_placed m [] = tt
are_placed m (c ∷ cs) = (all_stay (placed_one m c.inode) cs c.inode (placed_some m c.inode), are_placed (placed_one m c.inode) cs)

placed_append : (m : InodeMap) (cs ds : List Change) → placed m (cs ++ ds) ≡ placed (placed m cs) ds
placed_append m [] ds = refl
placed_append m (c ∷ cs) ds = placed_append (placed_one m c.inode) cs ds

pub one_more_placed : (m : InodeMap) (cs : List Change) (k : ℕ) (c : Change) → k < length cs → c ≡ slice_index_or cs k c → placed m (take (k + 1) cs)
    ≡ placed_one (placed m (take k cs)) c.inode
one_more_placed m cs k c within is = ap (placed m) (take_more cs k c within ∙ ap (λ x. take k cs ++ x ∷ []) (sym is)) ∙ placed_append m (take k cs) (c ∷ [])

-- only their own inodes are made
placed_others : (m : InodeMap) (cs : List Change) (j : ℕ) → is_among cs j ≡ false → map.get (placed m cs) j ≡ map.get m j
placed_others m [] j outside = refl
placed_others m (c ∷ cs) j outside =
    let both : ((c.inode == j) ≡ false) × (is_among cs j ≡ false) = or_parts (c.inode == j) (is_among cs j) outside in
    placed_others (placed_one m c.inode) cs j both.1 ∙ placed_else m c.inode j (λ same. false≢true (sym both.0 ∙ eq-eqb c.inode j same))

pub found_placed : (m : InodeMap) (cs : List Change) (j : ℕ) → found cs j (map.get (placed m cs) j) ≡ found cs j (map.get m j)
found_placed m cs j = grind (arith, among, placed_others)

-- ---- one change after another, the last one first

there_prefix : (m : InodeMap) (cs : List Change) (c : Change) → ArePlaced m (cs ++ c ∷ []) → ArePlaced m cs × IsSome (map.get m c.inode)
there_prefix m [] c h = (tt, h.0)
there_prefix m (x ∷ xs) c h = let rest = there_prefix m xs c h.1 in ((h.0, rest.0), rest.1)

still_there : (m n : InodeMap) (cs : List Change) (i : ℕ) → Lacks cs i → ((j : ℕ) → i ≢ j → map.get n j ≡ map.get m j) → ArePlaced m cs → ArePlaced n cs
still_there m n [] i lacks others h = tt
still_there m n (c ∷ cs) i lacks others h = (ap is_some (others c.inode (λ same. lacks.0 (sym same))) ∙ h.0, still_there m n cs i lacks.1 others h.1)

-- what is left to put in, over what was put in, is what all are over what there was
pub record IsLeft (old m : InodeMap) (all left : List Change) : Type 0 where
  pub distinct : AreDistinctChanges left
  pub there : ArePlaced m left
  pub values : (j : ℕ) → found left j (map.get m j) ≡ found all j (map.get old j)

pub all_left : (old m : InodeMap) (all : List Change) → AreDistinctChanges all → m ≡ placed old all → IsLeft old m all all
all_left old m all distinct is = grind (arith, are_placed, found_placed)

pub next_there : (old m : InodeMap) (all left rest : List Change) (c : Change) → IsLeft old m all left → left ≡ rest ++ c ∷ [] → IsSome (map.get m c.inode)
next_there old m all left rest c h is = (there_prefix m rest c (subst (ArePlaced m) is h.there)).1

pub next_left : (old m n : InodeMap) (all left rest : List Change) (c : Change) → IsLeft old m all left → left ≡ rest ++ c ∷ [] →
    n ≡ with_value m c.inode c.value → IsLeft old n all rest
next_left old m n all left rest c h is put = grind (arith, distinct_prefix, get-with_value, still_there, there_prefix, found_append)

-- ---- on copies

pub made_on_copies : (m n : InodeMap) (cs : List Change) (es : List Effect) → ((i : ℕ) → found cs i (map.get m i) ≡ value_after i (map.get m i) es) →
    ((i : ℕ) → map.get n i ≡ found cs i (map.get m i)) → n ≡ all_applied m es
made_on_copies m n cs es changes put = same_inodes _ _ (λ i. put i ∙ changes i ∙ sym (get-all_applied m es i))

-- ---- one more

-- the last one is taken out first
pub without_last : (m n : InodeMap) (all rest : List ℕ) (i : ℕ) → all ≡ rest ++ i ∷ [] → n ≡ map.remove m i → map_without n rest ≡ map_without m all
without_last m n all rest i is removed =
    same_inodes _ _ (λ j.
    grind (arith, get-without n rest j, get-without m (rest ++ i ∷ []) j, get-with_value m i None j, contains-append rest (i ∷ []) j))
  where
    go : {X : Type 0} (a b : Bool) (o : Option X) → (if a then None else (if b then None else o)) ≡ cond (a || (b || false)) None o
    go true b o = refl
    go false true o = refl
    go false false o = refl

pub no_content : {X : Type 0} (o : Option X) → is_some o ≡ false → o ≡ None
no_content None e = refl
no_content (Some x) e = cc

pub other_kept : (m n : InodeMap) (i : ℕ) (content : Content) → n ≡ map.insert m i content → (j : ℕ) → i ≢ j → map.get n j ≡ map.get m j
other_kept m n i content is j other = ap (λ x. map.get x j) is ∙ get-with_value m i (Some content) j ∙ chosen_other i j (Some content) (map.get m j) other
