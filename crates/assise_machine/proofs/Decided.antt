-- Whether a history is legal can be decided, so that it is legal is known where it holds.
use Rattle.assise_machine.proofs.Common.{◌≡◌, ◌⊎◌, List, [], ◌∷◌, inl, inr, refl, ∥∥₁_elim, Op, Reply, answer, AreAnswered, Tree, EntryValue, Fits, IsLegal}
use Rattle.assise_machine.proofs.Common.{arith}
use Rattle.assise_names.specs.contracts.reply.ReplyPartialEq.TheImpl.{eq-value}
use Rattle.assise_history.proofs.Shared.SummaryAgrees.{is_allowed, may_follow}
use Rattle.assise_history.proofs.Shared.Legality.{legal-prefix, legal-last, legal-nil, legal-push}
use Rattle.assise_history.proofs.Shared.TestedElements.{by_ends}
use Rattle.assise_history.proofs.Shared.Replies.{equal_replies}

same_reply : (a b : Reply) → (a ≡ b) ⊎ (a ≡ b → ⊥)
same_reply a b = grind (arith, equal_replies a b (eq-value.it a b) refl)

is_answered : (t : Tree) (xs : List (Op × Reply)) → AreAnswered t xs ⊎ (AreAnswered t xs → ⊥)
is_answered t [] = inl tt
is_answered t (x ∷ xs) = grind (arith, is_answered (answer t x.0).1 xs, same_reply x.1 (answer t x.0).0)

is_fit : (h : List EntryValue) (e : EntryValue) → IsLegal h → Fits h e ⊎ (Fits h e → ⊥)
is_fit h e legal = grind (arith, is_answered, may_follow, is_allowed)

is_legal : (h : List EntryValue) → IsLegal h ⊎ (IsLegal h → ⊥)
is_legal =
    by_ends (λ h. IsLegal h ⊎ (IsLegal h → ⊥)) (inl legal-nil)
    (λ h e before.
    elim before [
      | inl legal ↦ grind (arith, is_fit h e legal, legal-push, legal-last)
      | inr wrong ↦ inr (λ all. wrong (legal-prefix h (e ∷ []) all))
    ])

pub legal_known : (h : List EntryValue) → ∥ IsLegal h ∥₁ → IsLegal h
legal_known h some =
    elim (is_legal h) [
      | inl legal ↦ legal
      | inr wrong ↦ absurd (∥∥₁_elim some (λ x y. absurd x) wrong)
    ]
