use Rattle.assise_names.proofs.Common.{◌≡◌, ℕ, List, ◌++◌, HasWritten, IsPlainFormatter, chunks_rest, chunks_size, hex}
use Rattle.assise_names.proofs.reply.HexDisplay.fmt.Given as goal

abbrev pub invariant-loop-piece : goal.invariant-loop-piece
invariant-loop-piece g l = record {
  can_next : (goal.iterator-loop-piece g).can_next l.piece-iterator;
  finite : (goal.iterator-loop-piece g).is_finite l.piece-iterator;
  size : chunks_size l.piece-iterator ≡ 256;
  written : IsPlainFormatter l.initial.f → (done : List ℕ) × HasWritten g.W.Write.write_str_gives l.initial.f done l.f
      × (done ++ hex (chunks_rest l.piece-iterator) ≡ hex l.fn.self.0.now);
}
