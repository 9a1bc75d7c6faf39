use Rattle.assise_threads.proofs.crew.Crew.answer.Goals as goal

pub returns-in-Carry-clause-answered : goal.returns-in-Carry-clause-answered
returns-in-Carry-clause-answered g c = rw c.in-Carry.is c.carry.ensures.carries

pub returns-in-Back-clause-answered : goal.returns-in-Back-clause-answered
returns-in-Back-clause-answered g c = rw c.in-Back.is c.bring_back.ensures.comes
