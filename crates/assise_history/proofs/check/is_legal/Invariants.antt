use Rattle.assise_history.proofs.Common.{◌≡◌, take, kept, IsLegal, summary, IsPlayed, played_calls}
use Rattle.assise_history.proofs.check.is_legal.Given as goal

abbrev pub invariant-loop-entry : goal.invariant-loop-entry
invariant-loop-entry l = record {
  legal : IsLegal (take l.entry-index l.entries);
  known : l.prefix ≡ summary (take l.entry-index l.entries);
  kept_is : played_calls l.played ≡ kept (take l.entry-index l.entries);
  played_is : IsPlayed l.played;
}
