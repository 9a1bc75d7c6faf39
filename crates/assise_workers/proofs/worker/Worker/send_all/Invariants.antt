use Rattle.assise_workers.proofs.Common.{◌≡◌, ◌++◌, ℕ, perfect, HasCarried, AreReadBy, letters_seen, GoesOn, seen_at}
use Rattle.assise_workers.proofs.worker.Worker.send_all.Given as goal

-- the worker goes on, and the letters so far went to their nodes
abbrev pub invariant-loop-letter : goal.invariant-loop-letter
invariant-loop-letter g l = record {
  goes : GoesOn l.fn.self l.self;
  stays : g.L.Link.kind l.link ≡ g.L.Link.kind l.fn.link;
  all : l.yielded ++ l.letter-iterator.rest.items ≡ l.fn.letters.items;
  carried : (reads : ℕ → ℕ) → AreReadBy reads l.yielded → HasCarried g.S.Growing.history g.S.Replicated.acts (g.L.Link.kind l.fn.link ≡ perfect) reads
      (letters_seen l.yielded) l.taken (seen_at l.fn.self) (seen_at l.self);
}
