-- Frames that are to be sent.
-- van Renesse and Schneider, chain replication (OSDI 2004), section 2.
use Rattle.std.specs.Prelude.{◌≡◌, ℕ, List, map}
use Rattle.std.specs.List.{AllByRecursion}
use Rattle.assise_record.specs.LogFrame.{LogFrame}
use Rattle.assise_workers.specs.declared.letter.Letter.{Letter}

-- a frame, and the node that it is for
abbrev pub letter_of : Letter → LogFrame × ℕ
letter_of l = (l.frame, l.next)

abbrev pub letters_seen : List Letter → List (LogFrame × ℕ)
letters_seen ls = map letter_of ls

-- each is to come in a version that its node reads
abbrev pub AreReadBy : (ℕ → ℕ) → List Letter → Type 0
AreReadBy reads ls = AllByRecursion (λ l. l.newest ≡ reads l.next) ls
