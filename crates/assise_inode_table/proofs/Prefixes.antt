-- Paths that begin with a prefix.
use Rattle.assise_inode_table.proofs.Common.{◌≡◌, ◌≢◌, ℕ, Bool, true, false, cond, List, [], ◌∷◌, ◌++◌, Option, Some, None, refl, sym, ap, ◌∙◌, false≢true}
use Rattle.assise_inode_table.proofs.Common.{same_name, same_itself, one_name, Path}
use Rattle.std.proofs.lemmas.List.{append-nil}

pub two_names : (x n : List ℕ) → same_name x n ≡ false → x ≢ n
two_names x n e h = false≢true (sym e ∙ ap (λ m. same_name m n) h ∙ same_itself n)

-- what is left of a path past a prefix
abbrev pub past : Path → Path → Option Path
past [] q = Some q
past (n ∷ p) [] = None
past (n ∷ p) (x ∷ q) = cond (same_name x n) (past p q) None

pub past_prefix : (p q : Path) → past p (p ++ q) ≡ Some q
past_prefix [] q = refl
past_prefix (n ∷ p) q = ap (λ b. cond b (past p (p ++ q)) None) (same_itself n) ∙ past_prefix p q

pub past_itself : (p : Path) → past p p ≡ Some []
past_itself p = sym (ap (past p) (append-nil p)) ∙ past_prefix p []

pub past-Some : (p q rest : Path) → past p q ≡ Some rest → q ≡ p ++ rest
past-Some [] q rest e = cc
past-Some (n ∷ p) [] rest e = cc
past-Some (n ∷ p) (x ∷ q) rest e = go (λ h. past-Some p q rest h) (same_name x n) refl e
  where
    go : (past p q ≡ Some rest → q ≡ p ++ rest) → (b : Bool) → same_name x n ≡ b → cond b (past p q) None ≡ Some rest → x ∷ q ≡ n ∷ (p ++ rest)
    go ih true f h = let one = one_name x n f in let tail = ih h in cc
    go ih false f h = cc
