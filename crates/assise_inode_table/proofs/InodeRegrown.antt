-- One inode changes, and so does the tree at its path.
use Rattle.assise_inode_table.proofs.Common.{◌≡◌, ℕ, false, List, [], ◌∷◌, ◌++◌, Option, Some, None, Result, Ok, Err, refl, sym, ap, ◌∙◌, ◌⊎◌, inl, inr}
use Rattle.assise_inode_table.proofs.Common.{option_map_or, TreeError, Tree, same_name, at, put, ◌>>=◌, one_name, Path, then_ok, Values, children, reach}
use Rattle.assise_inode_table.proofs.Common.{link_of, shape_of, shown_in, ReachesOnce, SpellsFrom, AgreeBut, arith}
use Rattle.assise_inode_table.proofs.Prefixes.{two_names, past, past_prefix, past_itself, past-Some}
use Rattle.assise_inode_table.proofs.PathReach.{reach_step, reach-append, once_child, Away, away_keeps, same_reach}
use Rattle.assise_inode_table.proofs.TreeShows.{shown-put}

-- past d the new paths, elsewhere the old ones
abbrev pub Detour : Values → Values → ℕ → ℕ → Path → Path → Type 0
Detour v w d r p q = reach (children w) r q ≡ option_map_or (λ rest. reach (children w) d rest) (past p q) (reach (children v) r q)

-- no path by another name leads to d
other_names : (v w : Values) (d r : ℕ) (name x : List ℕ) (p q : Path) → AgreeBut d v w → ReachesOnce (children v) r → reach (children v) r (name ∷ p) ≡ Ok d
    → same_name x name ≡ false → (o : Result ℕ TreeError) → children v r x ≡ o → (o >>= λ j. reach (children w) j q) ≡ (o >>= λ j. reach (children v) j q)
other_names v w d r name x p q others once parent differs (Err e) is = refl
other_names v w d r name x p q others once parent differs (Ok j) is =
    same_reach v w q j (away_keeps v w d j others (λ s h.
    let both = once (x ∷ s) (name ∷ p) d (reach_step (children v) r j x s is ∙ h) parent in
    let one : x ≡ name = cc in
    two_names x name differs one))

-- by the first name of the path the way goes on, by another one it stays
first_name : (v w : Values) (d r j : ℕ) (name x : List ℕ) (p q : Path) → AgreeBut d v w → ReachesOnce (children v) r → reach (children v) r (name ∷ p) ≡ Ok d
    → children v r name ≡ Ok j → Detour v w d j p q → (children v r x >>= λ k. reach (children w) k q)
    ≡ option_map_or (λ rest. reach (children w) d rest) (past (name ∷ p) (x ∷ q)) (reach (children v) r (x ∷ q))
first_name v w d r j name x p q others once parent there ih = grind (arith, one_name, other_names)

pub detour : (v w : Values) (d : ℕ) (p : Path) (r : ℕ) → AgreeBut d v w → ReachesOnce (children v) r → reach (children v) r p ≡ Ok d → (q : Path) →
    Detour v w d r p q
detour v w d [] r others once parent q = let is : r ≡ d = cc in ap (λ i. reach (children w) i q) is
detour v w d (name ∷ p) r others once parent [] = refl
detour v w d (name ∷ p) r others once parent (x ∷ q) =
    let step = then_ok (children v r name) (λ i. reach (children v) i p) d parent in
    ap (λ o. link_of o x >>= λ j. reach (children w) j q) (others r (λ e. let loop = once [] (name ∷ p) d (ap Ok e) parent in cc))
    ∙ first_name v w d r step.0 name x p q others once parent step.1 (detour v w d p step.0 others (once_child (children v) r step.0 name once step.1) step.2 q)

-- what d leads to is what it led to, or was not reached
abbrev pub IsOwn : Values → Values → ℕ → ℕ → Type 0
IsOwn v w r d = (a : Path) (j : ℕ) → reach (children w) d a ≡ Ok j → ((b : Path) × (reach (children v) d b ≡ Ok j)) ⊎ Away (children v) r j

-- The tree t spelled from r has `found` at the path p of the inode d, which comes to spell y.
module _ (v w : Values) (r d : ℕ) (t found y : Tree) (p : Path) (s : SpellsFrom v r t) (parent : reach (children v) r p ≡ Ok d) (place : at t p ≡ Ok found)
    (others : AgreeBut d v w) (new : SpellsFrom w d y) (own : IsOwn v w r d) where
  led : (q : Path) → Detour v w d r p q
  led q = detour v w d p r others s.once parent q

  pub inside : (a : Path) (j : ℕ) → reach (children w) d a ≡ Ok j → reach (children w) r (p ++ a) ≡ Ok j
  inside a j e = led (p ++ a) ∙ ap (λ o. option_map_or (λ rest. reach (children w) d rest) o (reach (children v) r (p ++ a))) (past_prefix p a) ∙ e

  pub outside : (q : Path) (j : ℕ) → past p q ≡ None → reach (children v) r q ≡ Ok j → reach (children w) r q ≡ Ok j
  outside q j none e = led q ∙ ap (λ o. option_map_or (λ rest. reach (children w) d rest) o (reach (children v) r q)) none ∙ e

  -- where a new path leads
  data Leads (q : Path) (j : ℕ) : Type 0 where
    through : (a : Path) → q ≡ p ++ a → reach (children w) d a ≡ Ok j → Leads q j
    besides : past p q ≡ None → reach (children v) r q ≡ Ok j → Leads q j

  leads : (q : Path) (j : ℕ) → reach (children w) r q ≡ Ok j → Leads q j
  leads q j e = go (past p q) refl
    where
      back : (o : Option Path) → past p q ≡ o → option_map_or (λ rest. reach (children w) d rest) o (reach (children v) r q) ≡ Ok j
      back o f = ap (λ x. option_map_or (λ rest. reach (children w) d rest) x (reach (children v) r q)) (sym f) ∙ sym (led q) ∙ e

      go : (o : Option Path) → past p q ≡ o → Leads q j
      go (Some a) f = through a (past-Some p q a f) (back (Some a) f)
      go None f = besides f (back None f)

  -- what a path outside leads to, d doesn't
  disjoint : (q a : Path) (j : ℕ) → past p q ≡ None → reach (children v) r q ≡ Ok j → reach (children w) d a ≡ Ok j → ⊥
  disjoint q a j none e f = go (own a j f)
    where
      go : ((b : Path) × (reach (children v) d b ≡ Ok j)) ⊎ Away (children v) r j → ⊥
      go (inl b) =
          let one = s.once q (p ++ b.0) j e (reach-append (children v) r p b.0 d parent ∙ b.1) in
          let some = sym none ∙ ap (past p) one ∙ past_prefix p b.0 in
          cc
      go (inr away) = away q e

  once_after : ReachesOnce (children w) r
  once_after a b j e f = search (leads, disjoint, arith) parts 3

  shown_outside : (q : Path) → past p q ≡ None → (o : Result ℕ TreeError) → reach (children v) r q ≡ o → (o >>= λ j. shape_of (w j))
      ≡ (o >>= λ j. shape_of (v j))
  shown_outside q none (Err e) is = refl
  shown_outside q none (Ok j) is = grind (arith, past_itself)

  shown : (q : Path) (o : Option Path) → past p q ≡ o
      → (option_map_or (λ rest. reach (children w) d rest) o (reach (children v) r q) >>= λ j. shape_of (w j)) ≡ option_map_or (λ rest. shown_in y rest) o
      (shown_in t q)
  shown q (Some a) e = new.shows a
  shown q None e = shown_outside q e (reach (children v) r q) refl ∙ s.shows q

  pub regrown : SpellsFrom w r (put t p y)
  regrown = search (led, shown, shown-put, once_after, arith) parts 3

  -- what was reached is reached, where d still leads to all that it led to
  pub still_reached : (j : ℕ) (q : Path) → reach (children v) r q ≡ Ok j →
      ((a : Path) → reach (children v) d a ≡ Ok j → (b : Path) × (reach (children w) d b ≡ Ok j))
      → (b : Path) × (reach (children w) r b ≡ Ok j)
  still_reached j q e below = go (past p q) refl
    where
      go : (o : Option Path) → past p q ≡ o → (b : Path) × (reach (children w) r b ≡ Ok j)
      go None f = (q, outside q j f e)
      go (Some a) f =
          let b = below a (sym (reach-append (children v) r p a d parent) ∙ ap (reach (children v) r) (sym (past-Some p q a f)) ∙ e) in
          (p ++ b.0, inside b.0 j b.1)
