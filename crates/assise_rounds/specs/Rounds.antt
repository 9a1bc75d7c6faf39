-- What a cluster does between the tries of a call: replicate turns, and rounds.
-- Assise (OSDI 2020), section 3 (replication along a chain, digests, leases); van Renesse and Schneider, chain replication
-- (OSDI 2004), section 2.
use Rattle.std.specs.Prelude.{◌≡◌, ◌≤◌, ◌==◌, ℕ, zero, suc, Bool, true, false, not, List, [], ◌∷◌, ◌++◌, filter, length, map, Option, None, Some, IfSome, ⊤}
use Rattle.std.specs.List.{AllByRecursion, list_any}
use Rattle.assise_names.specs.declared.refusal.Refusal.{Refusal}
use Rattle.assise_names.specs.declared.limits.TheConstants.{MOST_NODES}
use Rattle.assise_record.specs.LogFrame.{LogFrame}
use Rattle.assise_manager.specs.NodeLevels.{level_of, newest}
use Rattle.assise_model_events.specs.Events.{Answer, deliver, digest, digested, outgoing, received, refused, release_ready, released, sent}
use Rattle.assise_model_events.specs.Faults.{node_fault}
use Rattle.assise_model_events.specs.Happenings.{AllHappen}
use Rattle.assise_model_events.specs.Machine.{Machine}
use Rattle.assise_rounds.specs.Traces.{IsEvent, Nothing, Then, Told}

-- ---- a replicate turn

-- a frame that was sent, and the node that it is for; and the frame that came there with what the node answered it, or nothing where
-- the link lost or kept it, had a fault or gave bytes that spell no frame, or where there was no memory
pub record Carried : Type 0 where
  pub frame : LogFrame
  pub node : ℕ
  pub came : Option (LogFrame × Answer)

abbrev pub letter : Carried → LogFrame × ℕ
letter c = (c.frame, c.node)

abbrev pub delivery : ℕ → Option (LogFrame × Answer) → Told
delivery n None = []
delivery n (Some (f, a)) = (deliver f n, a) ∷ []

abbrev pub deliveries : List Carried → Told
deliveries [] = []
deliveries (c ∷ cs) = delivery c.node c.came ++ deliveries cs

-- the node took the frame in
abbrev pub is_taken_in : Option (LogFrame × Answer) → Bool
is_taken_in (Some (f, received place)) = true
is_taken_in _ = false

abbrev pub taken : List Carried → ℕ
taken cs = length (filter (λ c. is_taken_in c.came) cs)

-- what came, if anything did, is the frame that was sent
abbrev pub IsSame : LogFrame → Option (LogFrame × Answer) → Type 0
IsSame frame came = IfSome came (λ c. c.0 ≡ frame)

abbrev pub AreSame : List Carried → Type 0
AreSame carried = AllByRecursion (λ c. IsSame c.frame c.came) carried

-- what came is of a version that the node reads
abbrev pub IsReadable : Machine → ℕ → Option (LogFrame × Answer) → Type 0
IsReadable m n came = IfSome came (λ c. c.0.version ≤ newest (level_of m.members.levels n))

-- a frame goes over a link to node n, which takes in what comes or doesn't; over a faithful link that frame comes, if any does
pub record DeliversOver (faithful : Type 0) (f : LogFrame) (n : ℕ) (is_in : Bool) (m m' : Machine) : Type 0 where
  pub came : Option (LogFrame × Answer)
  pub same : faithful → IsSame f came
  pub readable : IsReadable m n came
  pub taken : is_in ≡ is_taken_in came
  pub happen : AllHappen m (delivery n came) m'

-- these frames go over a link to the nodes that they are for, one after another, and `count` are taken in
pub record AreCarried (faithful : Type 0) (frames : List (LogFrame × ℕ)) (count : ℕ) (m m' : Machine) : Type 0 where
  pub carried : List Carried
  pub same : faithful → AreSame carried
  pub letters : map letter carried ≡ frames
  pub counts : count ≡ taken carried
  pub happen : AllHappen m (deliveries carried) m'

-- what node n sends goes over a link to the nodes that it is for, one frame after another; `count` are taken in
pub record Replicates (faithful : Type 0) (n count : ℕ) (m : Machine) (es : Told) (m' : Machine) : Type 0 where
  pub carried : List Carried
  pub same : faithful → AreSame carried
  pub counts : count ≡ taken carried
  pub told : es ≡ (outgoing n, sent (map letter carried)) ∷ deliveries carried
  pub happen : AllHappen m es m'

-- it does, or what it sends is refused
pub data TakesTurn (faithful : Type 0) (n : ℕ) (m : Machine) (es : Told) (m' : Machine) : Type 0 where
  replicates : (count : ℕ) → Replicates faithful n count m es m' → TakesTurn faithful n m es m'
  is_refused : (r : Refusal) → IsEvent (outgoing n) (refused r) m es m' → TakesTurn faithful n m es m'

-- ---- a round

-- node n digests once
pub record DigestsOnce (n : ℕ) (m : Machine) (es : Told) (m' : Machine) : Type 0 where
  pub answer : Answer
  pub event : IsEvent (digest n) answer m es m'

-- leases go that may
pub record ReleasesOnce (m : Machine) (es : Told) (m' : Machine) : Type 0 where
  pub answer : Answer
  pub event : IsEvent release_ready answer m es m'

-- the node does it if nothing is wrong with it
abbrev pub UnlessAtFault : Option Refusal → (Machine → Told → Machine → Type 0) → Machine → Told → Machine → Type 0
UnlessAtFault None Does m es m' = Does m es m'
UnlessAtFault (Some r) Does m es m' = Nothing m es m'

abbrev pub IfFull : (ℕ → Machine → Told → Machine → Type 0) → ℕ → Machine → Told → Machine → Type 0
IfFull Does n m es m' = UnlessAtFault (node_fault m n) (Does n) m es m'

-- each full node of nodes 1 to this does it, by ascending number
abbrev pub EachFull : (ℕ → Machine → Told → Machine → Type 0) → ℕ → Machine → Told → Machine → Type 0
EachFull Does zero m es m' = Nothing m es m'
EachFull Does (suc n) m es m' = Then (EachFull Does n) (IfFull Does (suc n)) m es m'

-- the most nodes of a cluster
-- each full node makes a replicate turn over its own link, each digests, and leases go
pub record IsRound (faithful : ℕ → Type 0) (m : Machine) (es : Told) (m' : Machine) : Type 0 where
  pub round : Then (EachFull (λ n. TakesTurn (faithful n) n) MOST_NODES) (Then (EachFull DigestsOnce MOST_NODES) ReleasesOnce) m es m'

-- ---- whether there was anything to do

-- the answer tells of work that was done, or is left: frames were sent, though they may be lost on their way; records were digested;
-- leases went; or the event was refused, which in a round is as out of memory
abbrev pub is_work : Answer → Bool
is_work (sent frames) = not (length frames == 0)
is_work (digested count) = not (count == 0)
is_work (released count) = not (count == 0)
is_work _ = true

abbrev pub did_work : Told → Bool
did_work es = list_any (λ e. is_work e.1) es

-- it is done, and this says whether there was anything to do
pub record WithWork (Does : Machine → Told → Machine → Type 0) (busy : Bool) (m : Machine) (es : Told) (m' : Machine) : Type 0 where
  pub does : Does m es m'
  pub work : busy ≡ did_work es

-- one round over these links, in which there was something to do, or nothing
abbrev pub RoundsOver : (ℕ → Type 0) → Bool → Machine → Told → Machine → Type 0
RoundsOver faithful busy m es m' = WithWork (IsRound faithful) busy m es m'

-- one round in which each frame that comes is the one that was sent
abbrev pub RoundsOnce : Bool → Machine → Told → Machine → Type 0
RoundsOnce busy m es m' = RoundsOver (λ n. ⊤) busy m es m'
