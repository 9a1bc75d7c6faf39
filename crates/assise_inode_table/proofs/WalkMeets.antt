-- What a walk meets over inodes that spell a tree is what stands in the tree.
use Rattle.assise_inode_table.proofs.Common.{◌≡◌, ℕ, List, [], ◌∷◌, length, Option, Some, None, Result, Ok, Err, refl, ap, sym, ◌∙◌, arith, ok_or, Reply, Error}
use Rattle.assise_inode_table.proofs.Common.{TreeError, NoEnt, Effect, Tree, file, dir, Entries, no_entries, entry, count, at, names_of, ◌>>=◌, Content}
use Rattle.assise_inode_table.proofs.Common.{regular, directory, Links, Values, Interaction, reply_of, effects_of, then_or_error, walk_from, walk, link_of}
use Rattle.assise_inode_table.proofs.Common.{children, reach, shape_of, shape_of_tree, Spells}
use Rattle.std.specs.FinMap as map

-- ---- how a walk ends

abbrev pub settled : Values → Interaction → Reply × List Effect
settled v x = (reply_of v x, effects_of v x)

-- the inode at the end of a path, with what it holds
abbrev pub found : Values → ℕ → List (List ℕ) → Result (ℕ × Content) TreeError
found v i p = reach (children v) i p >>= λ j. ok_or (v j) NoEnt >>= λ c. Ok (j, c)

walk_ends : (v : Values) (i : ℕ) (p : List (List ℕ)) (next : ℕ → Content → Interaction) → settled v (walk_from i p next)
    ≡ settled v (then_or_error (found v i p) (λ f. next f.0 f.1))
walk_ends v i [] next = grind arith
walk_ends v i (name ∷ p) next = go (λ j. walk_ends v j p next) (link_of (v i) name)
  where
    go : ((j : ℕ) → settled v (walk_from j p next) ≡ settled v (then_or_error (found v j p) (λ f. next f.0 f.1))) → (r : Result ℕ TreeError) →
        settled v (then_or_error r (λ j. walk_from j p next))
        ≡ settled v (then_or_error {A = ℕ × Content} ((r >>= λ j. reach (children v) j p) >>= λ j. ok_or (v j) NoEnt >>= λ c. Ok (j, c))
        (λ f. next f.0 f.1))
    go ends (Ok j) = ends j
    go ends (Err e) = refl

pub walk_fails : (v : Values) (p : List (List ℕ)) (next : ℕ → Content → Interaction) (e : TreeError) → found v 0 p ≡ Err e →
    settled v (walk p next) ≡ (Error e, [])
walk_fails v p next e f = walk_ends v 0 p next ∙ ap (λ r. settled v (then_or_error r (λ f. next f.0 f.1))) f

pub walk_finds : (v : Values) (p : List (List ℕ)) (next : ℕ → Content → Interaction) (j : ℕ) (c : Content) → found v 0 p ≡ Ok (j, c) →
    settled v (walk p next) ≡ settled v (next j c)
walk_finds v p next j c f = walk_ends v 0 p next ∙ ap (λ r. settled v (then_or_error r (λ f. next f.0 f.1))) f

-- ---- what it finds

pub record FindsFile (v : Values) (t : Tree) (p : List (List ℕ)) : Type 0 where
  pub inode : ℕ
  pub bytes : List ℕ
  pub reached : reach (children v) 0 p ≡ Ok inode
  pub holds : v inode ≡ Some (regular bytes)
  pub there : at t p ≡ Ok (file bytes)

pub record FindsDirectory (v : Values) (t : Tree) (p : List (List ℕ)) : Type 0 where
  pub inode : ℕ
  pub links : Links
  pub entries : Entries
  pub reached : reach (children v) 0 p ≡ Ok inode
  pub holds : v inode ≡ Some (directory links)
  pub there : at t p ≡ Ok (dir entries)
  pub names : names_of entries ≡ map.keys links

pub data Meets (v : Values) (t : Tree) (p : List (List ℕ)) : Type 0 where
  nothing : (e : TreeError) → found v 0 p ≡ Err e → at t p ≡ Err e → Meets v t p
  a_file : FindsFile v t p → Meets v t p
  a_directory : FindsDirectory v t p → Meets v t p

pub found_there : (v : Values) (p : List (List ℕ)) (j : ℕ) (c : Content) → reach (children v) 0 p ≡ Ok j → v j ≡ Some c → found v 0 p ≡ Ok (j, c)
found_there v p j c r h = ap (λ o. o >>= λ j. ok_or (v j) NoEnt >>= λ c. Ok (j, c)) r ∙ ap (λ o. ok_or o NoEnt >>= λ c. Ok (j, c)) h

meets_at : (v : Values) (t : Tree) (p : List (List ℕ)) (j : ℕ) → reach (children v) 0 p ≡ Ok j → (o : Option Content) → v j ≡ o → (a : Result Tree TreeError) →
    at t p ≡ a →
    shape_of o ≡ (a >>= λ u. Ok (shape_of_tree u)) → Meets v t p
meets_at v t p j r None h (Err e) is link =
    let one : NoEnt ≡ e = cc in
    nothing NoEnt (ap (λ o. o >>= λ j. ok_or (v j) NoEnt >>= λ c. Ok (j, c)) r ∙ ap (λ o. ok_or o NoEnt >>= λ c. Ok (j, c)) h) (is ∙ ap Err (sym one))
meets_at v t p j r None h (Ok u) is link = cc
meets_at v t p j r (Some (regular b)) h (Err e) is link = cc
meets_at v t p j r (Some (regular b)) h (Ok (file d)) is link = grind arith
meets_at v t p j r (Some (regular b)) h (Ok (dir es)) is link = cc
meets_at v t p j r (Some (directory links)) h (Err e) is link = cc
meets_at v t p j r (Some (directory links)) h (Ok (file d)) is link = cc
meets_at v t p j r (Some (directory links)) h (Ok (dir es)) is link =
    a_directory (record { inode = j; links = links; entries = es; reached = r; holds = h; there = is; names = cc })

meets_by : (v : Values) (t : Tree) (p : List (List ℕ)) (r : Result ℕ TreeError) → reach (children v) 0 p ≡ r → (a : Result Tree TreeError) → at t p ≡ a →
    (r >>= λ j. shape_of (v j)) ≡ (a >>= λ u. Ok (shape_of_tree u)) → Meets v t p
meets_by v t p (Ok j) r a is link = meets_at v t p j r (v j) refl a is link
meets_by v t p (Err e) r (Ok u) is link = cc
meets_by v t p (Err e) r (Err f) is link =
    let one : e ≡ f = cc in
    nothing e (ap (λ o. o >>= λ j. ok_or (v j) NoEnt >>= λ c. Ok (j, c)) r) (is ∙ ap Err (sym one))

pub meets : (v : Values) (t : Tree) (p : List (List ℕ)) → Spells v t → Meets v t p
meets v t p s = meets_by v t p (reach (children v) 0 p) refl (at t p) refl (s.tree.shows p)

-- ---- the walk to what it finds

pub walk_to_file : (v : Values) (t : Tree) (p : List (List ℕ)) (next : ℕ → Content → Interaction) (f : FindsFile v t p) →
    settled v (walk p next) ≡ settled v (next f.inode (regular f.bytes))
walk_to_file v t p next f = walk_finds v p next f.inode (regular f.bytes) (found_there v p f.inode (regular f.bytes) f.reached f.holds)

pub walk_to_directory : (v : Values) (t : Tree) (p : List (List ℕ)) (next : ℕ → Content → Interaction) (d : FindsDirectory v t p) →
    settled v (walk p next) ≡ settled v (next d.inode (directory d.links))
walk_to_directory v t p next d = walk_finds v p next d.inode (directory d.links) (found_there v p d.inode (directory d.links) d.reached d.holds)

-- ---- names of a directory

pub count-names_of : (es : Entries) → count es ≡ length (names_of es)
count-names_of no_entries = refl
count-names_of (entry name t es) = omega (arith, count-names_of es)

-- as many entries as links
pub same_count : (es : Entries) (links : Links) → names_of es ≡ map.keys links → length (map.keys links) ≡ count es
same_count es links names = sym (count-names_of es ∙ ap length names)
