-- The entries that the headline tells events by are those of the laws.
use Rattle.assise_machine.proofs.Common.{rules, ◌≡◌, List, [], ◌∷◌, ◌++◌, append-nil, append_assoc, sym, EntryValue, all_entries, entries_of, Event, entry_of}
use Rattle.assise_machine.proofs.Common.{history_after, answer_seen, event_seen, told, arith}
use Rattle.assise_machine.specs.declared.answer.Answer.{Answer}
use Rattle.assise_machine.specs.declared.event.Event.TheVariants.{Open}

same_entry : (h : List EntryValue) (e : Event) (a : Answer) → entry_of h e a ≡ entries_of h (event_seen e) (answer_seen a)
same_entry h (Open n u) a = search rules
same_entry h _ a = search rules

pub history_told : (h : List EntryValue) (es : List Event) (bs : List Answer) → history_after h es bs ≡ h ++ all_entries h (told es bs)
history_told h [] bs = sym (append-nil h)
history_told h (e ∷ es) [] = sym (append-nil h)
history_told h (e ∷ es) (b ∷ bs) = grind (arith, history_told (h ++ entry_of h e b) es bs, append_assoc)
