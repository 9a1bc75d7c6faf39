-- The inodes that the first records of a list touch.
use Rattle.assise_machine.proofs.Common.{◌≡◌, ℕ, ◌≤◌, List, length, drop, take, ap, ◌∙◌, arith, take-append_seam, length-take, take-append-drop, take-map}
use Rattle.assise_machine.proofs.Common.{take-take, LogRecord, touched_by, all_effects, touched}
use Rattle.assise_record.proofs.Shared.Records.{all_effects-append}

-- of a prefix of a prefix

prefix_effects : (rs : List LogRecord) (k n : ℕ) → k ≤ n → take (length (all_effects (take k rs))) (all_effects (take n rs)) ≡ all_effects (take k rs)
prefix_effects rs k n low = grind
    (arith, take-append-drop k (take n rs), all_effects-append (take k (take n rs)) (drop k (take n rs)), take-take k n rs low, take-append_seam)

-- the inodes of the first records are the first of the inodes
pub prefix_touched : (rs : List LogRecord) (k n : ℕ) → k ≤ n → take (length (all_effects (take k rs))) (touched (all_effects (take n rs)))
    ≡ touched (all_effects (take k rs))
prefix_touched rs k n low = take-map touched_by (length (all_effects (take k rs))) (all_effects (take n rs)) ∙ ap touched (prefix_effects rs k n low)

-- and they are no more than all
pub fewer_effects : (rs : List LogRecord) (k n : ℕ) → k ≤ n → length (all_effects (take k rs)) ≤ length (all_effects (take n rs))
fewer_effects rs k n low = grind (arith, length-take (length (all_effects (take k rs))) (all_effects (take n rs)), prefix_effects rs k n low)
