-- A walk to an entry meets what stands at the path of the entry, and the directory that has it.
use Rattle.assise_inode_table.proofs.Common.{◌≡◌, ℕ, List, [], ◌∷◌, ◌++◌, Option, Some, None, Result, Ok, Err, refl, ap, sym, ◌∙◌, ok_or, Error, TreeError}
use Rattle.assise_inode_table.proofs.Common.{NoEnt, ◌>>=◌, Path, then_ok, Content, directory, Links, Values, Interaction, then_or_error, walk_from, arith}
use Rattle.assise_inode_table.proofs.Common.{walk_to_entry, Children, children, reach, link_of}
use Rattle.std.specs.FinMap as map
use Rattle.assise_inode_table.proofs.Shared.ReachedSpelling.{LinkTo, link_to}
use Rattle.assise_inode_table.proofs.WalkMeets.{settled, found, walk_fails, walk_finds, found_there}

-- ---- the last step of a path

reach-last : (c : Children) (r : ℕ) (p : Path) (name : List ℕ) → reach c r (p ++ name ∷ []) ≡ (reach c r p >>= λ d. c d name)
reach-last c r [] name = grind arith
reach-last c r (first ∷ p) name = go (λ j. reach-last c j p name) (c r first)
  where
    go : ((j : ℕ) → reach c j (p ++ name ∷ []) ≡ (reach c j p >>= λ d. c d name)) → (o : Result ℕ TreeError) →
        (o >>= λ j. reach c j (p ++ name ∷ [])) ≡ ((o >>= λ j. reach c j p) >>= λ d. c d name)
    go rest (Ok j) = rest j
    go rest (Err e) = refl

-- ---- the directory that has the entry

pub record HasEntry (v : Values) (p : Path) (name : List ℕ) (i : ℕ) : Type 0 where
  pub parent : ℕ
  pub links : Links
  pub reached : reach (children v) 0 p ≡ Ok parent
  pub holds : v parent ≡ Some (directory links)
  pub present : map.get links name ≡ Some i

pub entry_at : (v : Values) (p : Path) (name : List ℕ) (i : ℕ) → reach (children v) 0 (p ++ name ∷ []) ≡ Ok i → HasEntry v p name i
entry_at v p name i e =
    let step = then_ok (reach (children v) 0 p) (λ d. children v d name) i (sym (reach-last (children v) 0 p name) ∙ e) in
    let l : LinkTo v step.0 name i = link_to v step.0 name i step.2 in
    record { parent = step.0; links = l.links; reached = step.1; holds = l.is; present = l.got }

-- ---- how the walk ends

pub walk_finds_entry : (v : Values) (p : Path) (name : List ℕ) (i : ℕ) (c : Content) (next : ℕ → ℕ → Content → Interaction) (h : HasEntry v p name i) →
    v i ≡ Some c →
    settled v (walk_to_entry p name next) ≡ settled v (next h.parent i c)
walk_finds_entry v p name i c next h holds =
    walk_finds v p (λ d content. then_or_error (link_of (Some content) name) (λ j. walk_from j [] (next d))) h.parent (directory h.links)
    (found_there v p h.parent (directory h.links) h.reached h.holds)
    ∙ ap (λ o. settled v (then_or_error (ok_or o NoEnt) (λ j. walk_from j [] (next h.parent)))) h.present
    ∙ ap (λ o. settled v (then_or_error (ok_or o NoEnt) (λ content. next h.parent i content))) holds

module _ (v : Values) (p : Path) (name : List ℕ) (e : TreeError) (next : ℕ → ℕ → Content → Interaction) where
  abbrev onward : ℕ → Content → Interaction
  onward d content = then_or_error (link_of (Some content) name) (λ j. walk_from j [] (next d))

  abbrev whole_of : Result ℕ TreeError → Result (ℕ × Content) TreeError
  whole_of r = r >>= λ j. ok_or (v j) NoEnt >>= λ c. Ok (j, c)

  at_entry : (d i : ℕ) (o : Option Content) → ◌≡◌ {A = Result (ℕ × Content) TreeError} (ok_or o NoEnt >>= λ c. Ok (i, c)) (Err e) →
      settled v (then_or_error (ok_or o NoEnt) (λ content. next d i content)) ≡ (Error e, [])
  at_entry d i None f = cc
  at_entry d i (Some c) f = cc

  at_link : (d : ℕ) (r : Result ℕ TreeError) → whole_of r ≡ Err e → settled v (then_or_error r (λ j. walk_from j [] (next d))) ≡ (Error e, [])
  at_link d (Ok i) f = at_entry d i (v i) f
  at_link d (Err x) f = cc

  at_parent : (d : ℕ) (o : Option Content) → reach (children v) 0 p ≡ Ok d → v d ≡ o → whole_of (link_of o name) ≡ Err e → settled v (walk_to_entry p name next)
      ≡ (Error e, [])
  at_parent d None reached holds f = walk_fails v p onward e (ap whole_of reached ∙ ap (λ o. ok_or o NoEnt >>= λ c. Ok (d, c)) holds ∙ f)
  at_parent d (Some c) reached holds f = walk_finds v p onward d c (found_there v p d c reached holds) ∙ at_link d (link_of (Some c) name) f

  on_the_way : (r : Result ℕ TreeError) → reach (children v) 0 p ≡ r → whole_of (r >>= λ d. children v d name) ≡ Err e → settled v (walk_to_entry p name next)
      ≡ (Error e, [])
  on_the_way (Ok d) is f = at_parent d (v d) is refl f
  on_the_way (Err x) is f = walk_fails v p onward e (ap whole_of is ∙ f)

  pub walk_fails_entry : found v 0 (p ++ name ∷ []) ≡ Err e → settled v (walk_to_entry p name next) ≡ (Error e, [])
  walk_fails_entry f = on_the_way (reach (children v) 0 p) refl (sym (ap whole_of (reach-last (children v) 0 p name)) ∙ f)
