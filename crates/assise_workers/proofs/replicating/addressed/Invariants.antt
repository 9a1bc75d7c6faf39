use Rattle.assise_workers.proofs.Common.{◌≡◌, ◌++◌, AreReadBy, letters_seen}
use Rattle.assise_workers.proofs.replicating.addressed.Given as goal

-- the frames so far have the versions that their nodes read
abbrev pub invariant-loop-frame : goal.invariant-loop-frame
invariant-loop-frame g l = record {
  all : letters_seen l.letters.items ++ l.frame-iterator.rest.items ≡ l.fn.frames.items;
  read : AreReadBy (g.S.Replicated.reads l.fn.state) l.letters.items;
}
