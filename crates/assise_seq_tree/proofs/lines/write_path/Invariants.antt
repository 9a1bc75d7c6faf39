use Rattle.assise_seq_tree.proofs.Common.{◌∷◌, take, flat_map, HasWritten, IsPlainFormatter}
use Rattle.assise_seq_tree.proofs.lines.write_path.Given as goal

abbrev pub invariant-loop-name : goal.invariant-loop-name
invariant-loop-name g l =
    IsPlainFormatter l.initial.f → HasWritten g.W.Write.write_str_gives l.initial.f (flat_map (λ name. 47 ∷ name.now) (take l.name-index l.path)) l.f
