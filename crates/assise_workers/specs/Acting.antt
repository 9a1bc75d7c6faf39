-- What a worker's turn is: events of the state, each between a take and its give.
-- Assise (OSDI 2020), section 3 (a process of each node replicates and digests); van Renesse and Schneider, chain replication
-- (OSDI 2004), section 2.
use Rattle.std.specs.Prelude.{◌≡◌, ◌<◌, ◌≤◌, ◌+◌, ◌⊎◌, ℕ, List, [], ◌∷◌, Option, None, Some, Result, Ok, Err, IfSome, map, min}
use Rattle.std.specs.List.{AllByRecursion}
use Rattle.assise_names.specs.declared.refusal.Refusal.{Refusal}
use Rattle.assise_history.specs.Entries.{EntryValue}
use Rattle.assise_keeper.specs.Clients.{Extends}
use Rattle.assise_libfs.specs.InTurns.{InOneTurn}
use Rattle.assise_machine.specs.Answers.{digesting_answer}
use Rattle.assise_model_events.specs.Events.{Answer, ClusterEvent, digest, outgoing, release_ready, released, sent as sent_answer}
use Rattle.assise_record.specs.LogFrame.{LogFrame}
use Rattle.assise_rounds.specs.Rounds.{AreSame, Carried, deliveries, letter, taken}
use Rattle.assise_workers.specs.declared.worker.TurnEnd.{TurnEnd}
use Rattle.assise_workers.specs.declared.worker.TurnEnd.TheVariants.{Did, Refused, Stopped}

-- what came, if anything did, is of a version up to this
abbrev pub IsRead : (newest : ℕ) → Option (LogFrame × Answer) → Type 0
IsRead newest came = IfSome came (λ c. c.0.version ≤ newest)

-- `n` were taken in, as far as 64 bits tell
pub record Counts (n : ℕ) (carried : List Carried) : Type 0 where
  pub few : n ≤ taken carried
  pub all : taken carried < 18446744073709551616 → n ≡ taken carried

-- how many records were digested: none where that is refused
abbrev pub digested_count : Result ℕ Refusal → ℕ
digested_count (Ok n) = n
digested_count (Err r) = 0

module _ {S : Type 0} (history : S → List EntryValue) (acts : S → ClusterEvent → Answer → S → Type 0) where
  -- these events happened, each in a take of its own, with these answers
  abbrev pub HasDone : List (ClusterEvent × Answer) → List EntryValue → List EntryValue → Type 0
  HasDone [] old new = new ≡ old
  HasDone (x ∷ xs) old new = (mid : List EntryValue) × (InOneTurn history acts x.0 x.1 old mid × HasDone xs mid new)

  -- Frames went over a link, each to the node that it is for, which reads versions up to this: over a faithful link what comes there, if
  -- anything does, is the frame. `count` were taken in, and nothing else happened.
  pub record HasCarried (faithful : Type 0) (reads : ℕ → ℕ) (letters : List (LogFrame × ℕ)) (count : ℕ) (old new : List EntryValue) : Type 0 where
    pub carried : List Carried
    pub all : map letter carried ≡ letters
    pub same : faithful → AreSame carried
    pub read : AllByRecursion (λ c. IsRead (reads c.node) c.came) carried
    pub done : HasDone (deliveries carried) old new
    pub counts : Counts count carried

  -- what came of one letter: it is counted, where the worker isn't stopped
  abbrev pub Sends : (faithful : Type 0) (reads : ℕ → ℕ) → LogFrame × ℕ → Option ℕ → List EntryValue → List EntryValue → Type 0
  Sends faithful reads l (Some n) old new = HasCarried faithful reads (l ∷ []) n old new
  Sends faithful reads l None old new = (n : ℕ) × HasCarried faithful reads (l ∷ []) n old new

  -- what came of all
  abbrev pub SendsAll : (faithful : Type 0) (reads : ℕ → ℕ) → List (LogFrame × ℕ) → TurnEnd → List EntryValue → List EntryValue → Type 0
  SendsAll faithful reads letters (Did n) old new = HasCarried faithful reads letters n old new
  SendsAll faithful reads letters (Refused r) old new = ⊥
  SendsAll faithful reads letters Stopped old new = (n : ℕ) × HasCarried faithful reads letters n old new

  -- the frames that an answer sends went to the nodes that they are for; or there was a refusal
  abbrev pub Went : (faithful : Type 0) (reads : ℕ → ℕ) → Answer → TurnEnd → List EntryValue → List EntryValue → Type 0
  Went faithful reads answer end old new =
      ((letters : List (LogFrame × ℕ)) × ((answer ≡ sent_answer letters) × SendsAll faithful reads letters end old new)) ⊎ ((r : Refusal) × ((end ≡ Refused r) × (new ≡ old)))

  -- the node's frames were taken out, in a state in which nodes read versions up to this, and went to the nodes that they are for; or that
  -- was refused
  pub record Replicates (faithful : Type 0) (reads : S → ℕ → ℕ) (n : ℕ) (end : TurnEnd) (old new : List EntryValue) : Type 0 where
    pub answer : Answer
    pub mid : List EntryValue
    pub sent : InOneTurn history acts (outgoing n) answer old mid
    pub went : Went faithful (reads sent.before) answer end mid new

  -- In one take the node digested, and leases went that may: nothing else happened. They are `count`, as far as 64 bits tell.
  pub record Digests (n count : ℕ) (old new : List EntryValue) : Type 0 where
    pub before : S
    pub between : S
    pub after : S
    pub digested : Result ℕ Refusal
    pub freed : ℕ
    pub extends : Extends (history before) old
    pub digests : acts before (digest n) (digesting_answer digested) between
    pub releases : acts between release_ready (released freed) after
    pub counted : count ≡ min (digested_count digested + freed) 18446744073709551615
    pub seen : new ≡ history after

  -- what a digester's turn came to: nothing, where the worker is stopped
  abbrev pub DigestsSome : ℕ → TurnEnd → List EntryValue → List EntryValue → Type 0
  DigestsSome n (Did count) old new = Digests n count old new
  DigestsSome n (Refused r) old new = ⊥
  DigestsSome n Stopped old new = new ≡ old

-- what two turns came to, one after the other: a refusal hides nothing that the other did
abbrev pub both_ends : TurnEnd → TurnEnd → TurnEnd
both_ends Stopped next = Stopped
both_ends (Did m) Stopped = Stopped
both_ends (Did m) (Did n) = Did (min (m + n) 18446744073709551615)
both_ends (Did m) (Refused r) = Did m
both_ends (Refused r) Stopped = Stopped
both_ends (Refused r) (Did n) = Did n
both_ends (Refused r) (Refused q) = Refused q

-- turns, each behind the other: what each came to, the last one first
abbrev pub TurnAfterTurn : (turn : TurnEnd → List EntryValue → List EntryValue → Type 0) → List TurnEnd → List EntryValue → List EntryValue → Type 0
TurnAfterTurn turn [] old new = new ≡ old
TurnAfterTurn turn (end ∷ ends) old new = (mid : List EntryValue) × (TurnAfterTurn turn ends old mid × turn end mid new)
