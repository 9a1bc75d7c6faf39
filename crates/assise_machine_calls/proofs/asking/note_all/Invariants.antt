use Rattle.assise_machine_calls.proofs.Common.{◌≡◌, ◌+◌, ◌≤◌, ◌++◌, length, vec_capacity, Among, Asked, IsNumber, with_goals}
use Rattle.assise_machine_calls.proofs.asking.note_all.Given as goal

abbrev pub invariant-loop-answer : goal.invariant-loop-answer
invariant-loop-answer l = record {
  known : (a : Asked) → Among l.answer-iterator.rest.items a → IsNumber l.clients a.client;
  room : length l.cuts.items + length l.answer-iterator.rest.items ≤ vec_capacity l.cuts;
  goals : with_goals l.answer-iterator.rest.items l.clients ≡ with_goals l.fn.asked.rest.items l.initial.clients;
  cuts : l.cuts.items ++ l.answer-iterator.rest.items ≡ l.initial.cuts.items ++ l.fn.asked.rest.items;
}
