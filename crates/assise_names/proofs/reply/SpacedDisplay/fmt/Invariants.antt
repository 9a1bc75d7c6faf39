use Rattle.assise_names.proofs.Common.{◌∷◌, take, flat_map, HasWritten, IsPlainFormatter}
use Rattle.assise_names.proofs.reply.SpacedDisplay.fmt.Given as goal

abbrev pub invariant-loop-name : goal.invariant-loop-name
invariant-loop-name g l =
    IsPlainFormatter l.initial.f → HasWritten g.W.Write.write_str_gives l.initial.f (flat_map (λ n. 32 ∷ n) (take l.name-index l.name-items)) l.f
