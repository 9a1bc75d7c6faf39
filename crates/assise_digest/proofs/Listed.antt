-- What is listed of a tree so far, and what is pending.
use Rattle.assise_digest.proofs.Common.{◌≡◌, ℕ, ◌≤◌, List, [], ◌∷◌, ◌++◌, length, reverse, Option, Some, None, IsSome, is_some, Ok, refl, sym, ap, subst, ◌∙◌}
use Rattle.assise_digest.proofs.Common.{append_assoc, append-nil, length-append, arith, ok_or, cons_option, reverse-append, length-reverse, Tree, file, dir}
use Rattle.assise_digest.proofs.Common.{Entries, no_entries, entry, find, names_of, AreOrdered, find_first, found_later, Content, regular, directory, Links}
use Rattle.assise_digest.proofs.Common.{Values, Shape, link_of, shape_of, shape_of_tree, SpellsFrom, postorder, subtrees, subtrees_of, linked, targets}
use Rattle.std.specs.FinMap as map
use Rattle.assise_names.specs.declared.reply.TreeError.TheVariants.{NoEnt}
use Rattle.assise_inode_table.proofs.Shared.ReachedSpelling.{Child, child, shape_here, reached_is_there}
use Rattle.assise_inode_table.proofs.Shared.DirectoryNames.{same_found}
use Rattle.assise_inode_table.proofs.Shared.SpellingUnique.{spelled_is_ordered}
use Rattle.assise_digest.proofs.Forests.{forest, forest_ends}

-- ---- inodes, each with the tree that it spells
abbrev pub SpellEach : Values → List ℕ → List Tree → Type 0
SpellEach v [] [] = Unit {0}
SpellEach v (i ∷ is) (t ∷ ts) = SpellsFrom v i t × SpellEach v is ts
SpellEach v [] (t ∷ ts) = ⊥
SpellEach v (i ∷ is) [] = ⊥

each-append : (v : Values) (is js : List ℕ) (ts us : List Tree) → SpellEach v is ts → SpellEach v js us → SpellEach v (is ++ js) (ts ++ us)
each-append v [] js [] us a b = b
each-append v (i ∷ is) js (t ∷ ts) us a b = (a.0, each-append v is js ts us a.1 b)
each-append v [] js (t ∷ ts) us a b = absurd a
each-append v (i ∷ is) js [] us a b = absurd a

pub record EndsWith (v : Values) (is : List ℕ) (i : ℕ) (ts : List Tree) : Type 0 where
  pub prefix : List Tree
  pub last : Tree
  pub are : ts ≡ prefix ++ last ∷ []
  pub before : SpellEach v is prefix
  pub spelled : SpellsFrom v i last

each_ends : (v : Values) (is : List ℕ) (i : ℕ) (ts : List Tree) → SpellEach v (is ++ i ∷ []) ts → EndsWith v is i ts
each_ends v [] i [] s = absurd s
each_ends v [] i (t ∷ []) s = record { prefix = []; last = t; are = refl; before = tt; spelled = s.0 }
each_ends v [] i (t ∷ u ∷ ts) s = absurd s.1
each_ends v (j ∷ is) i [] s = absurd s
each_ends v (j ∷ is) i (t ∷ ts) s =
    let rest = each_ends v is i ts s.1 in
    record { prefix = t ∷ rest.prefix; last = rest.last; are = ap (λ us. t ∷ us) rest.are; before = (s.0, rest.before); spelled = rest.spelled }

-- ---- what an inode links to spells the subtrees
some_too : {A B : Type 0} (o : Option A) (p : Option B) (x : A) → o ≡ Some x → is_some o ≡ is_some p → (y : B) × (p ≡ Some y)
some_too o None x is same = let no = sym (ap is_some is) ∙ same in cc
some_too o (Some y) x is same = (y, refl)

module _ (v : Values) (i : ℕ) (es : Entries) (links : Links) (spelled : SpellsFrom v i (dir es)) (holds : v i ≡ Some (directory links))
    (names : names_of es ≡ map.keys links) where
  -- an entry links to an inode that spells its tree
  entry_spells : (name : List ℕ) (t : Tree) → find name es ≡ Some t → (k : ℕ) × (map.get links name ≡ Some k) × SpellsFrom v k t
  entry_spells name t there =
      let got = some_too (find name es) (map.get links name) t there (same_found es links names name) in
      let c : Child v (dir es) name got.0 = child v i (dir es) name got.0 spelled (ap (λ o. link_of o name) holds ∙ ap (λ o. ok_or o NoEnt) got.1) in
      let entries : es ≡ c.entries = cc (c.is) in
      let one : c.subtree ≡ t = cc (c.found, there, entries) in
      (got.0, got.1, subst (SpellsFrom v got.0) one c.spells)

  entries_spell : (fs : Entries) → AreOrdered fs → ((q : List ℕ) (t : Tree) → find q fs ≡ Some t → find q es ≡ Some t) →
      SpellEach v (linked links (names_of fs)) (subtrees_of fs)
  entries_spell no_entries s within = tt
  entries_spell (entry name t fs) s within =
      let here = entry_spells name t (within name t (find_first name t fs)) in
      let rest = entries_spell fs s.2 (λ q u there. within q u (found_later q name t u fs s.0 there)) in
      subst (λ o. SpellEach v (cons_option o (linked links (names_of fs))) (t ∷ subtrees_of fs)) (sym here.1) (here.2, rest)

links_spell : (v : Values) (i : ℕ) (t : Tree) (content : Content) → SpellsFrom v i t → v i ≡ Some content → shape_of (Some content) ≡ Ok (shape_of_tree t) →
    SpellEach v (targets content) (subtrees t)
links_spell v i (file bytes) (regular others) s holds shapes = tt
links_spell v i (file bytes) (directory links) s holds shapes = cc
links_spell v i (dir es) (regular others) s holds shapes = cc
links_spell v i (dir es) (directory links) s holds shapes =
    let names : names_of es ≡ map.keys links = cc in
    subst (λ names. SpellEach v (linked links names) (subtrees_of es)) names
    (entries_spell v i es links s holds names es (spelled_is_ordered v i (dir es) s) (λ q t there. there))

-- ---- the list
-- the trees that are pending have the first places in postorder, and the others are listed, the last first
pub record IsListed (v : Values) (t : Tree) (pending : List ℕ) (places : List Shape) : Type 0 where
  pub trees : List Tree
  pub spelled : SpellEach v pending trees
  pub whole : forest trees ++ reverse places ≡ postorder t

pub listed_as : (v : Values) (t : Tree) (is js : List ℕ) (ps qs : List Shape) → IsListed v t is ps → js ≡ is → qs ≡ ps → IsListed v t js qs
listed_as v t is js ps qs l a b = subst (λ ks. IsListed v t ks qs) (sym a) (subst (λ rs. IsListed v t is rs) (sym b) l)

pub listed_first : (v : Values) (t : Tree) (i : ℕ) → SpellsFrom v i t → IsListed v t (i ∷ []) []
listed_first v t i s = record { trees = t ∷ []; spelled = (s, tt); whole = append-nil (postorder t ++ []) ∙ append-nil (postorder t) }

module _ (v : Values) (t : Tree) (rest : List ℕ) (i : ℕ) (places : List Shape) (l : IsListed v t (rest ++ i ∷ []) places) where
  abbrev at_end : EndsWith v rest i l.trees
  at_end = each_ends v rest i l.trees l.spelled

  pub next_is_there : IsSome (v i)
  next_is_there = reached_is_there v i at_end.last [] i at_end.spelled refl

  pub listed_next : (content : Content) (s : Shape) → v i ≡ Some content → shape_of (Some content) ≡ Ok s →
      IsListed v t (rest ++ targets content) (places ++ s ∷ [])
  listed_next content s holds is =
      let e = at_end in
      let shapes : shape_of (Some content) ≡ Ok (shape_of_tree e.last) = sym (ap shape_of holds) ∙ shape_here v i e.last e.spelled in
      let shape : s ≡ shape_of_tree e.last = cc (is, shapes) in
      record {
        trees = e.prefix ++ subtrees e.last;
        spelled = each-append v rest (targets content) e.prefix (subtrees e.last) e.before (links_spell v i e.last content e.spelled holds shapes);
        whole = grind (arith, reverse-append, append_assoc, forest_ends);
      }

pub not_more : (v : Values) (t : Tree) (pending : List ℕ) (places : List Shape) → IsListed v t pending places → length places ≤ length (postorder t)
not_more v t pending places l = omega (arith, ap length l.whole, length-append (forest l.trees) (reverse places), length-reverse places)

pub all_listed : (v : Values) (t : Tree) (pending : List ℕ) (places : List Shape) → IsListed v t pending places → length pending ≡ 0 →
    reverse places ≡ postorder t
all_listed v t [] places l none = grind arith
all_listed v t (i ∷ pending) places l none = absurd (omega arith)
