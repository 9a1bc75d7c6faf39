-- What an inode that is reached spells: the tree at its path.
use Rattle.assise_inode_table.proofs.Common.{◌≡◌, ℕ, true, List, [], ◌∷◌, Option, Some, None, IsSome, is_some, Result, Ok, refl, sym, ap, subst, ◌∙◌, ok_or}
use Rattle.assise_inode_table.proofs.Common.{list_any, false≢true, TreeError, NoEnt, Tree, file, dir, Entries, same_name, find, at, names_of, ◌>>=◌, at_step}
use Rattle.assise_inode_table.proofs.Common.{Path, then_ok, Content, regular, directory, Links, Values, children, reach, link_of, Shape, folder, shape_of}
use Rattle.assise_inode_table.proofs.Common.{shape_of_tree, shown_in, SpellsFrom}
use Rattle.std.specs.FinMap as map
use Rattle.assise_inode_table.proofs.Shared.DirectoryNames.{is_some-find}
use Rattle.assise_inode_table.proofs.PathReach.{once_child, Away}
use Rattle.assise_inode_table.proofs.TreeShows.{shown_here, shown_dir, shown_below}

-- ---- what an inode shows of itself
pub shape_here : (v : Values) (r : ℕ) (t : Tree) → SpellsFrom v r t → shape_of (v r) ≡ Ok (shape_of_tree t)
shape_here v r t s = s.shows [] ∙ shown_here t

-- ---- one step
pub record Child (v : Values) (t : Tree) (name : List ℕ) (k : ℕ) : Type 0 where
  pub entries : Entries
  pub subtree : Tree
  pub is : t ≡ dir entries
  pub found : find name entries ≡ Some subtree
  pub spells : SpellsFrom v k subtree

some_is : {A : Type 0} (o : Option A) → is_some o ≡ true → (x : A) × (o ≡ Some x)
some_is None e = absurd (false≢true e)
some_is (Some x) e = (x, refl)

pub record LinkTo (v : Values) (r : ℕ) (name : List ℕ) (k : ℕ) : Type 0 where
  pub links : Links
  pub is : v r ≡ Some (directory links)
  pub got : map.get links name ≡ Some k

pub link_to : (v : Values) (r : ℕ) (name : List ℕ) (k : ℕ) → children v r name ≡ Ok k → LinkTo v r name k
link_to v r name k e = go (v r) refl e
  where
    got : (o : Option ℕ) → ok_or o NoEnt ≡ Ok k → o ≡ Some k
    got None f = cc
    got (Some i) f = cc

    go : (o : Option Content) → v r ≡ o → link_of o name ≡ Ok k → LinkTo v r name k
    go None is f = cc
    go (Some (regular bytes)) is f = cc
    go (Some (directory links)) is f = record { links = links; is = is; got = got (map.get links name) f }

pub child : (v : Values) (r : ℕ) (t : Tree) (name : List ℕ) (k : ℕ) → SpellsFrom v r t → children v r name ≡ Ok k → Child v t name k
child v r t name k s e = go t refl (sym (ap shape_of l.is) ∙ shape_here v r t s)
  where
    l : LinkTo v r name k
    l = link_to v r name k e

    below : (es : Entries) (u : Tree) → t ≡ dir es → find name es ≡ Some u → SpellsFrom v k u
    below es u is found = record {
      shows = λ q. sym (ap (λ o. (o >>= λ i. reach (children v) i q) >>= λ j. shape_of (v j)) e) ∙ s.shows (name ∷ q)
          ∙ ap (λ z. shown_in z (name ∷ q)) is ∙ shown_dir es name q ∙ ap (shown_below q) found;
      once = once_child (children v) r k name s.once e;
    }

    go : (z : Tree) → t ≡ z → ◌≡◌ {A = Result Shape TreeError} (Ok (folder (map.keys l.links))) (Ok (shape_of_tree z)) → Child v t name k
    go (file bytes) is f = cc
    go (dir es) is f =
        let names : map.keys l.links ≡ names_of es = cc in
        let there = some_is (find name es) (is_some-find name es ∙ ap (list_any (same_name name)) (sym names) ∙ sym (map.contains_key-keys l.links name)
        ∙ ap is_some l.got) in
        record { entries = es; subtree = there.0; is = is; found = there.1; spells = below es there.0 is there.1 }

-- ---- a path
pub record Below (v : Values) (t : Tree) (p : Path) (d : ℕ) : Type 0 where
  pub subtree : Tree
  pub place : at t p ≡ Ok subtree
  pub spells : SpellsFrom v d subtree

pub descend : (v : Values) (p : Path) (r : ℕ) (t : Tree) (d : ℕ) → SpellsFrom v r t → reach (children v) r p ≡ Ok d → Below v t p d
unfolding at
descend v [] r t d s e = let is : r ≡ d = cc in record { subtree = t; place = refl; spells = subst (λ i. SpellsFrom v i t) is s }
descend v (name ∷ p) r t d s e =
    let step = then_ok (children v r name) (λ i. reach (children v) i p) d e in
    let c = child v r t name step.0 s step.1 in
    let b = descend v p step.0 c.subtree d c.spells step.2 in
    record {
      subtree = b.subtree;
      place = ap (λ z. at z (name ∷ p)) c.is ∙ at_step c.entries name p c.subtree c.found ∙ b.place;
      spells = b.spells;
    }

-- a directory that is reached
pub record Directory (v : Values) (t : Tree) (p : Path) (d : ℕ) (links : Links) : Type 0 where
  pub entries : Entries
  pub place : at t p ≡ Ok (dir entries)
  pub spells : SpellsFrom v d (dir entries)
  pub names : names_of entries ≡ map.keys links

pub directory_at : (v : Values) (p : Path) (r : ℕ) (t : Tree) (d : ℕ) (links : Links) → SpellsFrom v r t → reach (children v) r p ≡ Ok d
    → v d ≡ Some (directory links) → Directory v t p d links
directory_at v p r t d links s parent here = let b = descend v p r t d s parent in go b.subtree b.place b.spells
  where
    go : (u : Tree) → at t p ≡ Ok u → SpellsFrom v d u → Directory v t p d links
    go (file bytes) place spells = let shapes = sym (ap shape_of here) ∙ shape_here v d (file bytes) spells in cc
    go (dir es) place spells =
        let shapes = sym (ap shape_of here) ∙ shape_here v d (dir es) spells in
        record { entries = es; place = place; spells = spells; names = cc }

-- ---- each inode that is reached is there
pub reached_is_there : (v : Values) (r : ℕ) (t : Tree) (p : Path) (j : ℕ) → SpellsFrom v r t → reach (children v) r p ≡ Ok j → IsSome (v j)
reached_is_there v r t p j s e = let b = descend v p r t j s e in go (v j) b.subtree (shape_here v j b.subtree b.spells)
  where
    go : (o : Option Content) (u : Tree) → shape_of o ≡ Ok (shape_of_tree u) → IsSome o
    go None u f = cc
    go (Some content) u f = refl

pub none_is_away : (v : Values) (r : ℕ) (t : Tree) (i : ℕ) → SpellsFrom v r t → v i ≡ None → Away (children v) r i
none_is_away v r t i s none p e = false≢true (sym (ap is_some none) ∙ reached_is_there v r t p i s e)
