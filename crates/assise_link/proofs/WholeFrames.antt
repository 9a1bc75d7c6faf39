-- What is read of the whole of a frame's bytes.
use Rattle.assise_link.proofs.Common.{◌≡◌, ◌∙◌, ℕ, ◌≤◌, List, [], ◌++◌, take, drop, append-nil, ap, sym, subst, BeginsWith, SpellsFrame}
use Rattle.std.proofs.lemmas.List.{take-append-drop}
use Rattle.assise_record.specs.LogFrame.{LogFrame}
use Rattle.assise_record.proofs.Shared.Unique.{no_more, one_frame}
use Rattle.assise_record.proofs.Shared.Versions.{later_spells}

-- what bytes are read as is the frame that they spell
pub same_frame : (newest k : ℕ) (bytes : List ℕ) (came sent : LogFrame) → newest ≤ 2 → BeginsWith newest bytes came k → SpellsFrame 2 bytes sent → came ≡ sent
same_frame newest k bytes came sent known begins spells =
    let prefix : SpellsFrame 2 (take k bytes) came = later_spells newest 2 came (take k bytes) known begins.prefix in
    let whole : take k bytes ++ drop k bytes ≡ bytes = take-append-drop k bytes in
    let none : drop k bytes ≡ [] = no_more 2 came sent (take k bytes) (drop k bytes) prefix (subst (λ x. SpellsFrame 2 x sent) (sym whole) spells) in
    let all : take k bytes ≡ bytes = sym (append-nil (take k bytes)) ∙ ap (λ r. take k bytes ++ r) (sym none) ∙ whole in
    one_frame 2 came sent bytes (subst (λ x. SpellsFrame 2 x came) all prefix) spells
