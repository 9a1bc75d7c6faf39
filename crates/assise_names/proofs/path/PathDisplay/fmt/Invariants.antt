use Rattle.assise_names.proofs.Common.{◌∷◌, take, flat_map, HasWritten, IsPlainFormatter}
use Rattle.assise_names.proofs.path.PathDisplay.fmt.Given as goal

abbrev pub invariant-loop-name : goal.invariant-loop-name
invariant-loop-name g l =
    IsPlainFormatter l.initial.f → HasWritten g.W.Write.write_str_gives l.initial.f (flat_map (λ n. 47 ∷ n) (take l.name-index l.names)) l.f
