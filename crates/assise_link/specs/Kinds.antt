-- What a carry does over a link of each kind.
-- van Renesse and Schneider, chain replication (OSDI 2004), section 2 (the channels between servers).
use Rattle.std.specs.Prelude.{◌≡◌, ℕ, ◌+◌, List, Option, None, Some, take}
use Rattle.assise_link.specs.declared.link.LinkFault.{LinkFault}
use Rattle.assise_link.specs.declared.link.LinkFault.TheVariants.{Device, Memory}
use Rattle.assise_link.specs.Links.{LinkAnswer, failed, gave, nothing}

-- what a link does with what it is handed
pub data Kind : Type 0 where
  perfect : Kind
  lose : Kind
  repeat : Kind
  delay : Kind
  cut : (most : ℕ) → Kind
  fault : Kind

-- what a link keeps of the carry before, and how many faults it has had
pub record LinkState : Type 0 where
  pub kept : Option (List ℕ)
  pub faults : ℕ

-- a fault is answered and counted; where no more can be counted, nothing comes
pub data IsFault (f : LinkFault) (s : LinkState) (a : LinkAnswer) (t : LinkState) : Type 0 where
  is_counted : a ≡ failed f → t ≡ record { kept = s.kept; faults = s.faults + 1 } → IsFault f s a t
  is_past : s.faults ≡ 18446744073709551615 → a ≡ nothing → t ≡ s → IsFault f s a t

-- this is answered and this kept, or there is no memory for it
pub data IsDone (answer : LinkAnswer) (kept : Option (List ℕ)) (s : LinkState) (a : LinkAnswer) (t : LinkState) : Type 0 where
  is_done : a ≡ answer → t ≡ record { kept = kept; faults = s.faults } → IsDone answer kept s a t
  lacks_memory : IsFault Memory s a t → IsDone answer kept s a t

-- what was kept is answered, if something was
abbrev pub kept_answer : Option (List ℕ) → LinkAnswer
kept_answer None = nothing
kept_answer (Some before) = gave before

-- what is handed in is answered and kept, and the next time that again
abbrev pub Repeats : Option (List ℕ) → List ℕ → LinkState → LinkAnswer → LinkState → Type 0
Repeats None bytes s a t = IsDone (gave bytes) (Some bytes) s a t
Repeats (Some before) bytes s a t = (a ≡ gave before) × (t ≡ record { kept = None; faults = s.faults })

-- what is answered where these bytes are handed in, and what the link is then
abbrev pub Carries : Kind → List ℕ → LinkState → LinkAnswer → LinkState → Type 0
Carries perfect bytes s a t = IsDone (gave bytes) s.kept s a t
Carries lose bytes s a t = (a ≡ nothing) × (t ≡ s)
Carries repeat bytes s a t = Repeats s.kept bytes s a t
Carries delay bytes s a t = IsDone (kept_answer s.kept) (Some bytes) s a t
Carries (cut most) bytes s a t = IsDone (gave (take most bytes)) s.kept s a t
Carries fault bytes s a t = IsFault Device s a t
