use Rattle.assise_rounds.proofs.Shared.ReturnTrace.{return_trace}
use Rattle.assise_rounds.proofs.Shared.Traces.{trace_of, round_trace, tries_trace}
use Rattle.assise_rounds.proofs.laws.what_is_done_is_a_trace_of_events.Goals as goal

pub returns-clause-turn : goal.returns-clause-turn
returns-clause-turn g c = λ link n count m es m' h. trace_of m m' es h.happen

pub returns-clause-round : goal.returns-clause-round
returns-clause-round g c = λ links m es m' h. round_trace m es m' h

pub returns-clause-once : goal.returns-clause-once
returns-clause-once g c = λ busy m es m' h. round_trace m es m' h.does

pub returns-clause-tries : goal.returns-clause-tries
returns-clause-tries g c = λ links turns n op r m es m' h. tries_trace turns n op r m es m' h

pub returns-clause-comes_back : goal.returns-clause-comes_back
returns-clause-comes_back g c = return_trace
