-- The printed lines of a history, byte by byte.
use Rattle.std.specs.Prelude.{ℕ, List, [], ◌∷◌, ◌++◌, length, codes}
use Rattle.std.specs.List.{flat_map}
use Rattle.std.specs.Fmt.{decimal}
use Rattle.assise_names.specs.Text.{op_text, reply_text}
use Rattle.assise_names.specs.declared.durability.Durability.{Durability}
use Rattle.assise_names.specs.declared.durability.Durability.TheVariants.{Pessimistic, Optimistic}
use Rattle.assise_history.specs.declared.call.Call.{Call}
use Rattle.assise_history.specs.declared.call.Loss.{Loss}
use Rattle.assise_history.specs.Entries.{EntryValue, opens, calls, crashes, fails, returns}

abbrev pub loss_text : Loss → List ℕ
loss_text l = codes " " ++ decimal l.client ++ codes ":" ++ decimal l.first

-- a space before each client with the number of its first lost call
abbrev pub losses_text : List Loss → List ℕ
losses_text losses = flat_map loss_text losses

abbrev pub call_text : Call → List ℕ
call_text x = codes "call " ++ decimal x.client ++ codes " " ++ decimal x.number ++ codes " " ++ op_text x.op ++ codes " = " ++ reply_text x.reply

-- how a client was opened, where it isn't the usual way
abbrev pub durability_text : Durability → List ℕ
durability_text Pessimistic = []
durability_text Optimistic = codes " optimistic"

abbrev pub entry_text : EntryValue → List ℕ
entry_text (opens c n u) = codes "open " ++ decimal c ++ codes " " ++ decimal n ++ durability_text u
entry_text (calls x) = call_text x
entry_text (crashes c) = codes "crash " ++ decimal c
entry_text (fails n losses) = codes "fail " ++ decimal n ++ losses_text losses
entry_text (returns n) = codes "return " ++ decimal n

-- a line feed, and then the entry
abbrev pub entry_line : EntryValue → List ℕ
entry_line e = 10 ∷ entry_text e

-- the count of the entries, and then a line for each
abbrev pub history_text : List EntryValue → List ℕ
history_text h = codes "history " ++ decimal (length h) ++ flat_map entry_line h
