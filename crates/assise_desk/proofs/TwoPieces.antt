-- Bytes that are put behind others.
use Rattle.assise_desk.proofs.Common.{◌≡◌, ℕ, List, ◌++◌, Option, None, Some, IfSome, MatchOption, take, ap, ◌∙◌, append_assoc}

-- what was put is a prefix and one piece, and then another piece is put
pub two_pieces : (r : Option ℕ) (P : Type 0) (out prefix before first second f s : List ℕ) → f ≡ first → s ≡ second → prefix ≡ before ++ f →
    MatchOption r P (λ next. take next out ≡ prefix ++ s) → IfSome r (λ next. take next out ≡ before ++ (first ++ second))
two_pieces None P out prefix before first second f s f_is s_is is h = tt
two_pieces (Some next) P out prefix before first second f s f_is s_is is h =
    h ∙ ap (λ x. x ++ s) is ∙ append_assoc before f s ∙ ap (λ x. before ++ (x ++ s)) f_is ∙ ap (λ x. before ++ (first ++ x)) s_is
