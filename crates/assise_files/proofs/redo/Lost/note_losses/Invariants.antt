use Rattle.assise_files.proofs.Common.{◌≡◌, ◌||◌, ℕ, take, are_taken, is_taken_from}
use Rattle.assise_files.proofs.redo.Lost.note_losses.Given as goal

abbrev pub invariant-loop-loss : goal.invariant-loop-loss
invariant-loop-loss l = record {
  taken : (number : ℕ) → is_taken_from l.self.taken number ≡ (are_taken (take l.loss-index l.losses) l.client number || is_taken_from l.fn.self.taken number);
  changes : l.self.changes.items ≡ l.fn.self.changes.items;
}
