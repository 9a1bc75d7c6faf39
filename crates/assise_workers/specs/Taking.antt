-- What a node's frames are when they are taken out, and whether one is taken in.
-- van Renesse and Schneider, chain replication (OSDI 2004), section 2.
use Rattle.std.specs.Prelude.{ℕ, List}
use Rattle.assise_history.specs.Entries.{EntryValue}
use Rattle.assise_libfs.specs.InTurns.{InOneTurn}
use Rattle.assise_model_events.specs.Events.{Answer, ClusterEvent, outgoing, received, sent}
use Rattle.assise_workers.specs.Letters.{AreReadBy, letters_seen}
use Rattle.assise_workers.specs.declared.letter.Letter.{Letter}

-- in one take these are what the node sends, each to come in a version that its node reads then
pub record TakesOut {S : Type 0} (history : S → List EntryValue) (acts : S → ClusterEvent → Answer → S → Type 0) (reads : S → ℕ → ℕ) (n : ℕ) (letters : List Letter) (old new : List EntryValue) : Type 0 where
  pub taken : InOneTurn history acts (outgoing n) (sent (letters_seen letters)) old new
  pub read : AreReadBy (reads taken.before) letters

-- one where a frame was taken in
abbrev pub taken_for : Answer → ℕ
taken_for (received place) = 1
taken_for a = 0
