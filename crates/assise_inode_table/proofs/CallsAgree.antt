-- What a call does over inodes agrees with what it does on the tree that they spell.
use Rattle.assise_inode_table.proofs.Common.{◌≡◌, ℕ, true, List, [], None, refl, sym, subst, list_any, Reply, Effect, Tree, Values, after, makes, Spells}

-- the inode that the effects make was not there
abbrev pub IsNew : Values → ℕ → List Effect → Type 0
IsNew v fresh es = list_any (makes fresh) es ≡ true → v fresh ≡ None

-- the same reply, and after the effects the inodes spell the tree after the call
abbrev pub Agrees : Values → ℕ → Reply × List Effect → Reply × Tree → Type 0
Agrees v fresh o r = (o.0 ≡ r.0) × (IsNew v fresh o.1 → Spells (after v o.1) r.1)

pub agrees : (v : Values) (fresh : ℕ) (o : Reply × List Effect) (r : Reply × Tree) (reply : Reply) (es : List Effect) (u : Tree) → o ≡ (reply, es) →
    r ≡ (reply, u) →
    (IsNew v fresh es → Spells (after v es) u) → Agrees v fresh o r
agrees v fresh o r reply es u is answer spelled = subst (λ x. Agrees v fresh x r) (sym is) (subst (Agrees v fresh (reply, es)) (sym answer) (refl, spelled))

-- without effects the tree stays
pub agrees_quietly : (v : Values) (t : Tree) (fresh : ℕ) (o : Reply × List Effect) (r : Reply × Tree) (reply : Reply) → Spells v t → o ≡ (reply, []) →
    r ≡ (reply, t) → Agrees v fresh o r
agrees_quietly v t fresh o r reply s is answer = agrees v fresh o r reply [] t is answer (λ n. s)
