-- Trees one after another, and their places in postorder: the list of the places tells the trees.
use Rattle.assise_digest.proofs.Common.{◌≡◌, ◌≤◌, suc, List, [], ◌∷◌, ◌++◌, length, reverse, refl, sym, ap, ◌∙◌, ◌⊎◌, inl, inr, append_assoc, length-append}
use Rattle.assise_digest.proofs.Common.{arith, reverse-reverse, reverse-append, same_from_push, flat_map, Tree, file, dir, Entries, no_entries, entry, names_of}
use Rattle.assise_digest.proofs.Common.{Shape, folder, shape_of_tree, postorder, postorder_of, subtrees, subtrees_of, degree}
use Rattle.std.proofs.lemmas.Grind.{flat_map-append}

-- ---- lists by their last element
pub record Ends {X : Type 0} (xs : List X) : Type 0 where
  pub prefix : List X
  pub last : X
  pub is : xs ≡ prefix ++ last ∷ []

pub ends : {X : Type 0} (x : X) (xs : List X) → Ends (x ∷ xs)
ends x [] = record { prefix = []; last = x; is = refl }
ends x (y ∷ xs) = let rest = ends y xs in record { prefix = x ∷ rest.prefix; last = rest.last; is = ap (λ ys. x ∷ ys) rest.is }

pub last_or_none : {X : Type 0} (xs : List X) → (xs ≡ []) ⊎ Ends xs
last_or_none [] = inl refl
last_or_none (x ∷ xs) = inr (ends x xs)

not_none : {X : Type 0} (xs : List X) (x : X) {P : Type 0} → [] ≡ xs ++ x ∷ [] → P
not_none [] x e = cc
not_none (y ∷ xs) x e = cc

-- parts of equal length are equal
pub same_parts : {X : Type 0} (prefix other xs ys : List X) → length xs ≡ length ys → prefix ++ xs ≡ other ++ ys → (prefix ≡ other) × (xs ≡ ys)
same_parts [] [] xs ys len e = (refl, e)
same_parts [] (b ∷ other) xs ys len e = absurd (omega (arith, ap length e, length-append other ys))
same_parts (a ∷ prefix) [] xs ys len e = absurd (omega (arith, ap length e, length-append prefix xs))
same_parts (a ∷ prefix) (b ∷ other) xs ys len e = grind (arith, same_parts prefix other xs ys len (cc))

-- ---- a tree and its subtrees
abbrev pub forest : List Tree → List Shape
forest ts = flat_map postorder ts

forest-subtrees_of : (es : Entries) → forest (subtrees_of es) ≡ postorder_of es
forest-subtrees_of no_entries = refl
forest-subtrees_of (entry name t es) = ap (λ ss. postorder t ++ ss) (forest-subtrees_of es)

pub postorder_ends : (t : Tree) → postorder t ≡ forest (subtrees t) ++ shape_of_tree t ∷ []
postorder_ends (file bytes) = refl
postorder_ends (dir es) = ap (λ ss. ss ++ folder (names_of es) ∷ []) (sym (forest-subtrees_of es))

-- the last place of trees is that of the last tree
pub forest_ends : (ts : List Tree) (t : Tree) → forest (ts ++ t ∷ []) ≡ forest (ts ++ subtrees t) ++ shape_of_tree t ∷ []
forest_ends ts t = grind (arith, flat_map-append, postorder_ends, append_assoc)

pub degree-subtrees_of : (es : Entries) → length (names_of es) ≡ length (subtrees_of es)
degree-subtrees_of no_entries = refl
degree-subtrees_of (entry name t es) = ap suc (degree-subtrees_of es)

pub degree-shape : (t : Tree) → degree (shape_of_tree t) ≡ length (subtrees t)
degree-shape (file bytes) = refl
degree-shape (dir es) = degree-subtrees_of es

same_entries : (es fs : Entries) → names_of es ≡ names_of fs → subtrees_of es ≡ subtrees_of fs → es ≡ fs
same_entries no_entries no_entries a b = refl
same_entries no_entries (entry m u fs) a b = cc
same_entries (entry n t es) no_entries a b = cc
same_entries (entry n t es) (entry m u fs) a b = grind (arith, same_entries es fs (cc) (cc))

pub same_tree : (t u : Tree) → shape_of_tree t ≡ shape_of_tree u → subtrees t ≡ subtrees u → t ≡ u
same_tree (file bytes) (file others) a b = cc
same_tree (file bytes) (dir fs) a b = cc
same_tree (dir es) (file others) a b = cc
same_tree (dir es) (dir fs) a b = ap dir (same_entries es fs (cc) b)

-- ---- the last place taken off
pub record Cut (ts : List Tree) (places : List Shape) (s : Shape) : Type 0 where
  pub prefix : List Tree
  pub last : Tree
  pub are : ts ≡ prefix ++ last ∷ []
  pub shape : shape_of_tree last ≡ s
  pub rest : forest (prefix ++ subtrees last) ≡ places

pub cut : (ts : List Tree) (places : List Shape) (s : Shape) → forest ts ≡ places ++ s ∷ [] → Cut ts places s
cut ts places s e = elim (last_or_none ts) [
  | inl none ↦ not_none places s (sym (ap forest none) ∙ e)
  | inr some ↦
      grind (arith, same_from_push, forest_ends)
]

none_of : (ts : List Tree) → forest ts ≡ [] → ts ≡ []
none_of ts e = elim (last_or_none ts) [
  | inl none ↦ none
  | inr some ↦ not_none _ (shape_of_tree some.last) (sym e ∙ ap forest some.is ∙ forest_ends some.prefix some.last)
]

reverse_first : (s : Shape) (places : List Shape) → reverse (s ∷ places) ≡ reverse places ++ s ∷ []
reverse_first s places = reverse-append (s ∷ []) places

-- the places of trees are those of no others
same_by : (places : List Shape) (ts us : List Tree) → forest ts ≡ reverse places → forest us ≡ reverse places → ts ≡ us
same_by [] ts us a b = none_of ts a ∙ sym (none_of us b)
same_by (s ∷ places) ts us a b =
    let x = cut ts (reverse places) s (a ∙ reverse_first s places) in
    let y = cut us (reverse places) s (b ∙ reverse_first s places) in
    let below = same_by places (x.prefix ++ subtrees x.last) (y.prefix ++ subtrees y.last) x.rest y.rest in
    let shapes : shape_of_tree x.last ≡ shape_of_tree y.last = x.shape ∙ sym y.shape in
    let parts = same_parts x.prefix y.prefix (subtrees x.last) (subtrees y.last) (sym (degree-shape x.last) ∙ ap degree shapes ∙ degree-shape y.last) below in
    let last = same_tree x.last y.last shapes parts.1 in
    x.are ∙ ap (λ fs. fs ++ x.last ∷ []) parts.0 ∙ ap (λ t. y.prefix ++ t ∷ []) last ∙ sym y.are

pub same_forest : (ts us : List Tree) → forest ts ≡ forest us → ts ≡ us
same_forest ts us e = grind (arith, reverse-reverse (forest us), same_by)

-- there are enough trees for the next place
pub enough : (places : List Shape) (s : Shape) (ts us : List Tree) → forest ts ++ s ∷ reverse places ≡ forest us → degree s ≤ length ts
enough [] s ts us e =
    let x = cut us (forest ts) s (sym e) in
    let same = same_forest (x.prefix ++ subtrees x.last) ts x.rest in
    omega (arith, ap degree x.shape, degree-shape x.last, ap length same, length-append x.prefix (subtrees x.last))
enough (p ∷ places) s ts us e =
    let x = cut us (forest ts ++ s ∷ reverse places) p
    (sym e ∙ ap (λ ps. forest ts ++ s ∷ ps) (reverse_first p places) ∙ sym (append_assoc (forest ts) (s ∷ reverse places) (p ∷ []))) in
    enough places s ts (x.prefix ++ subtrees x.last) (sym x.rest)
