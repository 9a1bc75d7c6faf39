use Rattle.assise_machine_state.proofs.Common.{◌≡◌, ◌+◌, ◌≤◌, ◌++◌, length, vec_capacity}
use Rattle.assise_machine_state.proofs.noting.note_all.Given as goal

abbrev pub invariant-loop-answer : goal.invariant-loop-answer
invariant-loop-answer l = (l.cuts.items ++ l.answer-iterator.rest.items ≡ l.initial.cuts.items ++ l.fn.asked.rest.items)
    × (length l.cuts.items + length l.answer-iterator.rest.items ≤ vec_capacity l.cuts)
