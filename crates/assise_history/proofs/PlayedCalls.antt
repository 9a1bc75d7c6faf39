-- One entry more for the kept calls and their tree.
use Rattle.assise_history.proofs.Common.{◌≡◌, ◌↔◌, Bool, true, false, [], ◌∷◌, ◌++◌, refl, Bor, IsTrue, map-append, opening, answer, Call, Goes, IsPlayed}
use Rattle.assise_history.proofs.Common.{played_calls, arith}
use Rattle.assise_history.specs.declared.played.Played.{Played}
use Rattle.assise_history.proofs.Shared.Runs.{played_right, played_wrong}

pub goes_play : (p q : Played) (x : Bor Call) (reply : _) (same : Bool) → IsPlayed p → q.calls.items ≡ p.calls.items ++ x ∷ [] →
    (reply, q.tree) ≡ answer p.tree x.now.op → (IsTrue same ↔ (reply ≡ x.now.reply)) → Goes same (played_calls p ++ x.now ∷ []) q
goes_play p q x reply true played more step h = grind
    (arith, map-append, played_right opening (played_calls p) p.tree q.tree reply x.now played.0 played.1 step (h.0 refl))
goes_play p q x reply false played more step h =
    λ run. played_wrong opening (played_calls p) p.tree q.tree reply x.now played.1 step (λ right. let bad : false ≡ true = h.1 right in cc) run
