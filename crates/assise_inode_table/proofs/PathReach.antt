-- What paths reach and show, and where it stays as inodes change.
use Rattle.assise_inode_table.proofs.Common.{arith, ◌≡◌, ◌≢◌, ℕ, List, [], ◌∷◌, ◌++◌, Result, Ok, Err, refl, sym, ap, subst, ◌∙◌, TreeError, Tree, ◌>>=◌, Path}
use Rattle.assise_inode_table.proofs.Common.{then_ok, Values, Children, children, reach, link_of, shown_from, ReachesOnce, SpellsFrom, AgreeBut}

-- ---- one step, and then the rest
pub reach_step : (c : Children) (r k : ℕ) (name : List ℕ) (q : Path) → c r name ≡ Ok k → reach c r (name ∷ q) ≡ reach c k q
reach_step c r k name q e = ap (λ o. o >>= λ j. reach c j q) e

pub reach-append : (c : Children) (r : ℕ) (p q : Path) (d : ℕ) → reach c r p ≡ Ok d → reach c r (p ++ q) ≡ reach c d q
reach-append c r [] q d e = let is : r ≡ d = cc in ap (λ i. reach c i q) is
reach-append c r (name ∷ p) q d e =
    let step = then_ok (c r name) (λ i. reach c i p) d e in
    reach_step c r step.0 name (p ++ q) step.1 ∙ reach-append c step.0 p q d step.2

-- ---- each inode once
pub once_child : (c : Children) (r k : ℕ) (name : List ℕ) → ReachesOnce c r → c r name ≡ Ok k → ReachesOnce c k
once_child c r k name once e p q j hp hq =
    let whole = once (name ∷ p) (name ∷ q) j (reach_step c r k name p e ∙ hp) (reach_step c r k name q e ∙ hq) in
    cc

pub once_below : (c : Children) (r : ℕ) (p : Path) (d : ℕ) → ReachesOnce c r → reach c r p ≡ Ok d → ReachesOnce c d
once_below c r [] d once e = let is : r ≡ d = cc in subst (ReachesOnce c) is once
once_below c r (name ∷ p) d once e =
    let step = then_ok (c r name) (λ i. reach c i p) d e in
    once_below c step.0 p d (once_child c r step.0 name once step.1) step.2

-- no path leads from j to d
abbrev pub Away : Children → ℕ → ℕ → Type 0
Away c j d = (q : Path) → reach c j q ≢ Ok d

-- what stands below an inode leads nowhere back
pub no_way_back : (c : Children) (d j : ℕ) (name : List ℕ) → ReachesOnce c d → c d name ≡ Ok j → Away c j d
no_way_back c d j name once e q h = let loop = once (name ∷ q) [] d (reach_step c d j name q e ∙ h) refl in cc

-- ---- what stays
-- each inode that is reached from j holds the same
abbrev pub Keeps : Values → Values → ℕ → Type 0
Keeps v w j = (q : Path) (k : ℕ) → reach (children v) j q ≡ Ok k → w k ≡ v k

keeps_child : (v w : Values) (j k : ℕ) (name : List ℕ) → Keeps v w j → children v j name ≡ Ok k → Keeps v w k
keeps_child v w j k name keeps e q i h = keeps (name ∷ q) i (reach_step (children v) j k name q e ∙ h)

pub away_keeps : (v w : Values) (d j : ℕ) → AgreeBut d v w → Away (children v) j d → Keeps v w j
away_keeps v w d j others away q k h = others k (λ is. away q (h ∙ ap Ok is))

pub same_rest : (c b : Children) (q : Path) (o : Result ℕ TreeError) → ((k : ℕ) → o ≡ Ok k → reach b k q ≡ reach c k q) → (o >>= λ k. reach b k q)
    ≡ (o >>= λ k. reach c k q)
same_rest c b q (Ok k) same = same k refl
same_rest c b q (Err e) same = refl

pub same_reach : (v w : Values) (q : Path) (j : ℕ) → Keeps v w j → reach (children w) j q ≡ reach (children v) j q
same_reach v w [] j keeps = refl
same_reach v w (name ∷ q) j keeps =
    ap (λ o. link_of o name >>= λ k. reach (children w) k q) (keeps [] j refl)
    ∙ same_rest (children v) (children w) q (children v j name) (λ k e. same_reach v w q k (keeps_child v w j k name keeps e))

pub same_shown : (v w : Values) (q : Path) (j : ℕ) → Keeps v w j → shown_from w j q ≡ shown_from v j q
same_shown v w q j keeps = grind (arith, same_reach)

-- what is not reached may change
pub kept_spells : (v w : Values) (r : ℕ) (t : Tree) → SpellsFrom v r t → Keeps v w r → SpellsFrom w r t
kept_spells v w r t s keeps = record {
  shows = λ q. same_shown v w q r keeps ∙ s.shows q;
  once = λ p q j e f. s.once p q j (sym (same_reach v w p r keeps) ∙ e) (sym (same_reach v w q r keeps) ∙ f);
}
