use Rattle.assise_private_log.proofs.Common.{◌≡◌, ℕ, ◌≤◌, ◌<◌, false, is_border}
use Rattle.assise_private_log.proofs.log_view.LogView.group_end.Given as goal

-- no border was passed
abbrev pub invariant-loop-border : goal.invariant-loop-border
invariant-loop-border l = (k : ℕ) → l.number ≤ k → k < l.border → is_border l.self k ≡ false
