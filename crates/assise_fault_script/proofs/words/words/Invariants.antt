use Rattle.assise_fault_script.proofs.Common.{◌≡◌, ◌++◌, length, map, take, IsUtf8, words_of}
use Rattle.assise_fault_script.proofs.words.words.Given as goal

abbrev pub invariant-loop-piece : goal.invariant-loop-piece
invariant-loop-piece l = record {
  text : IsUtf8 l.rest;
  same : take 6 (map (λ w. w.now) l.words.items ++ words_of l.rest) ≡ take 6 (words_of l.fn.text);
}

abbrev pub decreases-loop-piece : goal.decreases-loop-piece
decreases-loop-piece l = length l.rest
