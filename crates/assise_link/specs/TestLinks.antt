-- What a link of tests keeps, and of which kind it is.
-- van Renesse and Schneider, chain replication (OSDI 2004), section 2 (the channels between servers).
use Rattle.std.specs.Prelude.{◌≡◌, ℕ, List, [], ◌∷◌, Option, None, Some}
use Rattle.std.specs.Global.{Vec}
use Rattle.assise_link.specs.Kinds.{Kind, LinkState, cut, delay, fault, lose, perfect, repeat}
use Rattle.assise_link.specs.declared.test_link.TestLink.{TestLink}
use Rattle.assise_link.specs.declared.test_link.TestLink.TheVariants.{Perfect, Lose, Repeat, Delay, Cut, Fault}

-- what the carry before was handed, where it is kept
abbrev pub kept_items : Option (Vec ℕ) → Option (List ℕ)
kept_items None = None
kept_items (Some before) = Some before.items

abbrev pub kept_lists : Option (List ℕ) → List (List ℕ)
kept_lists None = []
kept_lists (Some before) = before ∷ []

-- ---- by kind

abbrev pub kept_by : TestLink → Option (List ℕ)
kept_by (Perfect l) = None
kept_by (Lose l) = None
kept_by (Repeat l) = kept_items l.before
kept_by (Delay l) = kept_items l.before
kept_by (Cut l) = None
kept_by (Fault l) = None

abbrev pub fault_count : TestLink → ℕ
fault_count (Perfect l) = l.faults.count
fault_count (Lose l) = 0
fault_count (Repeat l) = l.faults.count
fault_count (Delay l) = l.faults.count
fault_count (Cut l) = l.faults.count
fault_count (Fault l) = l.faults.count

abbrev pub state_of : TestLink → LinkState
state_of l = record { kept = kept_by l; faults = fault_count l }

abbrev pub kind_of_link : TestLink → Kind
kind_of_link (Perfect l) = perfect
kind_of_link (Lose l) = lose
kind_of_link (Repeat l) = repeat
kind_of_link (Delay l) = delay
kind_of_link (Cut l) = cut l.most
kind_of_link (Fault l) = fault

-- a link of this kind that carried nothing
pub record IsUnusedLink (k : Kind) (l : TestLink) : Type 0 where
  pub kind : kind_of_link l ≡ k
  pub state : state_of l ≡ record { kept = None; faults = 0 }
