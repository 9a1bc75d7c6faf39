use Rattle.assise_history.proofs.played.Played.take.Goals as goal

pub returns-then-drop_lost-clause-ok : goal.returns-then-drop_lost-clause-ok
returns-then-drop_lost-clause-ok c = rw (← c.kind.ensures, c.in-Fail.is, ← c.as_slice.ensures.value, ← c.drop_lost.ensures.left) c.replay.ensures.ok
