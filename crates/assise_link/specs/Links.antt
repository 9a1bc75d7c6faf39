-- What a carry over a link answers, and what comes over.
-- van Renesse and Schneider, chain replication (OSDI 2004), section 2 (the channels between servers).
use Rattle.std.specs.Prelude.{◌≡◌, ◌⊎◌, ℕ, ◌++◌, Contains, List, Option, None, Some, Result, Ok, Err}
use Rattle.std.specs.Global.{Vec}
use Rattle.assise_record.specs.LogFrame.{LogFrame}
use Rattle.assise_record.specs.Spelling.{BeginsWith, spelling}
use Rattle.assise_link.specs.declared.link.LinkFault.{LinkFault}

-- what a carry answers: bytes came, nothing did, or the link had a fault
pub data LinkAnswer : Type 0 where
  gave : (bytes : List ℕ) → LinkAnswer
  nothing : LinkAnswer
  failed : (fault : LinkFault) → LinkAnswer

abbrev pub link_answer : Result (Option (Vec ℕ)) LinkFault → LinkAnswer
link_answer (Ok (Some came)) = gave came.items
link_answer (Ok None) = nothing
link_answer (Err fault) = failed fault

-- what came is a prefix of the bytes that were handed in, or of bytes that were stored
pub record IsPrefixOnLink (bytes : List ℕ) (stored : List (List ℕ)) (came : List ℕ) : Type 0 where
  pub whole : List ℕ
  pub known : (whole ≡ bytes) ⊎ Contains stored whole
  pub rest : List ℕ
  pub prefix : whole ≡ came ++ rest

-- a link that carries so gives only what it is handed
abbrev pub IsFaithful : (List ℕ → LinkAnswer → Type 0) → Type 0
IsFaithful carried = (bytes came : List ℕ) → carried bytes (gave came) → came ≡ bytes

-- the bytes of the frame that was sent were carried so, and what the link gave begins with the frame that came, where versions up to
-- the newest are read
pub record ComesOver (newest : ℕ) (carried : List ℕ → LinkAnswer → Type 0) (sent came : LogFrame) : Type 0 where
  pub bytes : List ℕ
  pub given : carried (spelling sent) (gave bytes)
  pub used : ℕ
  pub begins : BeginsWith newest bytes came used
