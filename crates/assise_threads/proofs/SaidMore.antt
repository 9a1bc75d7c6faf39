-- More is said and written behind what was.
use Rattle.assise_threads.proofs.Common.{◌∙◌, ℕ, List, [], ◌∷◌, ◌++◌, Option, None, Some, sym, ap, subst, append_assoc, append-nil, Appends, Machine, IsSaid}
use Rattle.assise_threads.proofs.Common.{Said}

-- ---- what is written

pub adds_nothing : (u : Option (List ℕ)) → Appends u u []
adds_nothing None = tt
adds_nothing (Some xs) = sym (append-nil xs)

pub adds_more : (u v w : Option (List ℕ)) (a b : List ℕ) → Appends u v a → Appends v w b → Appends u w (a ++ b)
adds_more None v w a b x y = tt
adds_more (Some xs) None w a b x y = absurd x
adds_more (Some xs) (Some ys) None a b x y = y
adds_more (Some xs) (Some ys) (Some zs) a b x y = y ∙ ap (λ (t : List ℕ). t ++ b) x ∙ append_assoc xs a b

-- ---- what is said

pub said-append : (turns : ℕ) (a b d : Machine) (ss ts : List Said) → IsSaid turns a ss b → IsSaid turns b ts d → IsSaid turns a (ss ++ ts) d
said-append turns a b d [] ts same more = subst (λ z. IsSaid turns z ts d) same more
said-append turns a b d (s ∷ ss) ts (first, rest) more = (first, said-append turns s.machine b d ss ts rest more)
