-- Kinds of replies.
use Rattle.std.specs.Prelude.{}
use Rattle.assise_names.specs.declared.reply.Reply.{Reply}
use Rattle.assise_names.specs.declared.reply.Reply.TheVariants.{Done, Bytes, Names, File, Dir, Error}

-- the reply has bytes or names that were read
abbrev pub HoldsWhatWasRead : Reply → Type 0
HoldsWhatWasRead (Bytes bytes) = Unit {0}
HoldsWhatWasRead (Names names) = Unit {0}
HoldsWhatWasRead Done = ⊥
HoldsWhatWasRead (File size) = ⊥
HoldsWhatWasRead (Dir entries) = ⊥
HoldsWhatWasRead (Error error) = ⊥
