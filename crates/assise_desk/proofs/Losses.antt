-- How many bytes lost calls have.
use Rattle.assise_desk.proofs.Common.{◌≡◌, ◌∙◌, ℕ, ◌+◌, ◌*◌, ◌<◌, List, [], ◌∷◌, ◌++◌, length, take, Option, None, Some, IfSome, MatchOption, refl, ap, sym}
use Rattle.assise_desk.proofs.Common.{arith, length-append, to_le_bytes, w32, w64, DESK_BYTES, loss_bytes, losses_bytes}

pub losses-length : (losses : List (ℕ × ℕ)) → length (losses_bytes losses) ≡ 12 * length losses
losses-length [] = refl
losses-length ((client, call) ∷ losses) =
    omega (
      arith,
      losses-length losses,
      length-append (loss_bytes (client, call)) (losses_bytes losses),
      length-append (to_le_bytes w32 client)
          (to_le_bytes w64 call),
    )

-- there is room for one at the front
pub loss_shown : (place : Option ℕ) (before out : List ℕ) (loss : ℕ × ℕ) → MatchOption place (DESK_BYTES < 0 + 12) (λ next. next ≡ 0 + 12) →
    IfSome place (λ next. take next out ≡ take 0 before ++ loss_bytes loss) → take 12 out ≡ loss_bytes loss
loss_shown None before out loss none written = absurd (omega (arith, none))
loss_shown (Some next) before out loss is written = ap (λ n. take n out) (sym is) ∙ written
