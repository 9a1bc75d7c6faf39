use Rattle.assise_machine_calls.proofs.Common.{inl, inr, refl, subst, sym, append_assoc, arith, rules, Among}
use Rattle.assise_machine_calls.proofs.RevokerAnswers.{still_known}
use Rattle.assise_machine_calls.proofs.asking.note_all.Goals as goal

pub raise_goal-requires : goal.raise_goal-requires
raise_goal-requires c = record
    { client = c.loop-answer.invariant.known c.in-Some.answer (subst (λ xs. Among xs c.in-Some.answer) (sym c.in-Some.ensures.steps.0) (inl refl)) }

pub loop-answer-preserved : goal.loop-answer-preserved
loop-answer-preserved c = record {
  known = λ a among. still_known c.loop-answer.clients c.raise_goal.new.self c.in-Some.answer.client c.in-Some.answer.cut c.raise_goal.ensures a.client
      (c.loop-answer.invariant.known a (subst (λ xs. Among xs a) (sym c.in-Some.ensures.steps.0) (inr among)));
  room = search rules;
  goals = search rules;
  cuts = grind (arith, append_assoc);
}
