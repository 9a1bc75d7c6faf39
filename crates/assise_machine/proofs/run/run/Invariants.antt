use Rattle.assise_machine.proofs.Common.{◌≡◌, ◌≤◌, ℕ, ◌++◌, Contains, length, take, machine, revokers, AllApplied, AllServed, all_opened, last_first}
use Rattle.assise_machine.proofs.Common.{stock_left, stocked, told}
use Rattle.std.specs.Vec.{vec_capacity}
use Rattle.assise_machine.proofs.run.run.Given as goal

-- the events so far were served, with a prefix of the stock left, and the clients that were opened store what went from it
abbrev pub invariant-loop-event : goal.invariant-loop-event
invariant-loop-event g l = record {
  served : AllServed (length l.fn.stock.items) (machine l.fn.cluster) (told (take l.event-index l.events) l.answers.items) (machine l.cluster);
  applied : AllApplied g.C.Revokes.answers (stocked l.fn.cluster l.fn.stock.items) (told (take l.event-index l.events) l.answers.items)
      (stocked l.cluster l.stock.items);
  stock : length l.stock.items ≡ stock_left (length l.fn.stock.items) (told (take l.event-index l.events) l.answers.items);
  prefix : l.stock.items ≡ take (length l.stock.items) l.fn.stock.items;
  count : length l.answers.items ≡ l.event-index;
  gets : l.fn.stock.items ≡ l.stock.items ++ last_first (revokers l.cluster) (all_opened (told (take l.event-index l.events) l.answers.items));
  others : (c : ℕ) → (Contains (all_opened (told (take l.event-index l.events) l.answers.items)) c → ⊥) → revokers l.cluster c ≡ revokers l.fn.cluster c;
  room : length l.events ≤ vec_capacity l.answers;
}
