-- Turns of clients: in each an event happens to the state, between a take and its give.
-- Assise (OSDI 2020), section 3 (CC-NVM: a process takes leases and writes its own log).
use Rattle.std.specs.Prelude.{◌≡◌, ℕ, zero, suc, ◌<◌, List, Option, None, Some, Result, Ok, Err, ◌⊎◌}
use Rattle.assise_names.specs.declared.call.Op.{Op}
use Rattle.assise_names.specs.declared.refusal.Refusal.{Refusal}
use Rattle.assise_names.specs.declared.refusal.Refusal.TheVariants.{OutOfMemory, Busy, NodeDown, ClientGone, InodesSpent, TooLarge, LastNode, BadNode, BadClient, WrongPhase, StaleMessage, LogFull}
use Rattle.assise_names.specs.declared.reply.Reply.{Reply}
use Rattle.assise_history.specs.Entries.{EntryValue}
use Rattle.assise_history.specs.Legal.{calls_made}
use Rattle.assise_keeper.specs.declared.pass.Pass.{Pass}
use Rattle.assise_keeper.specs.declared.view.Opens.TheVariants.{Alone}
use Rattle.assise_keeper.specs.Clients.{Extends}
use Rattle.assise_keeper.specs.Passes.{last, opens, seen}
use Rattle.assise_keeper.specs.Rule.{IsLed}
use Rattle.assise_model_events.specs.Events.{Answer, ClusterEvent, not_yet, refused, replied, try_call}

-- what one try is answered
abbrev pub tried_answer : Result (Option Reply) Refusal → Answer
tried_answer (Ok (Some reply)) = replied reply
tried_answer (Ok None) = not_yet
tried_answer (Err refusal) = refused refusal

-- the event happened, with this answer, to a state whose history goes on from what was seen, and the history after it is what is seen then
pub record InOneTurn {S : Type 0} (history : S → List EntryValue) (acts : S → ClusterEvent → Answer → S → Type 0) (e : ClusterEvent) (a : Answer) (old new : List EntryValue) : Type 0 where
  pub before : S
  pub after : S
  pub extends : Extends (history before) old
  pub does : acts before e a after
  pub seen : new ≡ history after

-- A turn of a pass: what the pass had seen last led to the state that was taken, by work alone where it alone may open clients; the event
-- happened to that state, with this answer; and the pass has seen what came of it.
pub record IsPassTurn {S : Type 0} (history : S → List EntryValue) (leads works : S → S → Type 0) (acts : S → ClusterEvent → Answer → S → Type 0) (e : ClusterEvent) (a : Answer) (old new : Pass S) : Type 0 where
  pub before : S
  pub after : S
  pub led : IsLed leads (last old) (Some before)
  pub worked : opens old ≡ Alone → IsLed works (last old) (Some before)
  pub extends : Extends (history before) (seen old)
  pub does : acts before e a after
  pub is_last : last new ≡ Some after
  pub is_seen : seen new ≡ history after

-- the client has made as many calls as a count of 64 bits can tell
abbrev pub IsFullOf : ℕ → List EntryValue → Type 0
IsFullOf c h = calls_made c h ≡ 18446744073709551615

module _ {S : Type 0} (history : S → List EntryValue) (acts : S → ClusterEvent → Answer → S → Type 0) (c : ℕ) (op : Op) where
  -- in each of the turns the call was tried and only awaited
  abbrev pub HasWaited : ℕ → List EntryValue → List EntryValue → Type 0
  HasWaited zero old new = new ≡ old
  HasWaited (suc k) old new = (mid : List EntryValue) × (HasWaited k old mid × InOneTurn history acts (try_call c op) not_yet mid new)

  -- then it was tried once more, and answered so
  pub record EndsBy (limit : ℕ) (a : Answer) (old new : List EntryValue) : Type 0 where
    pub waits : ℕ
    pub few : waits < limit
    pub mid : List EntryValue
    pub waited : HasWaited waits old mid
    pub last : InOneTurn history acts (try_call c op) a mid new

  -- or no more, as the client has made all the calls that there are numbers for
  pub record EndsUntried (limit : ℕ) (old new : List EntryValue) : Type 0 where
    pub waits : ℕ
    pub few : waits < limit
    pub waited : HasWaited waits old new
    pub full : IsFullOf c new

  -- A call is tried in turns until a try isn't awaited; it is refused with Busy where all its turns are spent.
  abbrev pub TurnsTo : (limit : ℕ) → Result Reply Refusal → List EntryValue → List EntryValue → Type 0
  TurnsTo limit (Ok reply) old new = EndsBy limit (replied reply) old new
  TurnsTo limit (Err Busy) old new = HasWaited limit old new
  TurnsTo limit (Err OutOfMemory) old new = EndsBy limit (refused OutOfMemory) old new ⊎ EndsUntried limit old new
  TurnsTo limit (Err NodeDown) old new = EndsBy limit (refused NodeDown) old new
  TurnsTo limit (Err ClientGone) old new = EndsBy limit (refused ClientGone) old new
  TurnsTo limit (Err InodesSpent) old new = EndsBy limit (refused InodesSpent) old new
  TurnsTo limit (Err TooLarge) old new = EndsBy limit (refused TooLarge) old new
  TurnsTo limit (Err LastNode) old new = EndsBy limit (refused LastNode) old new
  TurnsTo limit (Err BadNode) old new = EndsBy limit (refused BadNode) old new
  TurnsTo limit (Err BadClient) old new = EndsBy limit (refused BadClient) old new
  TurnsTo limit (Err WrongPhase) old new = EndsBy limit (refused WrongPhase) old new
  TurnsTo limit (Err StaleMessage) old new = EndsBy limit (refused StaleMessage) old new
  TurnsTo limit (Err LogFull) old new = EndsBy limit (refused LogFull) old new

  -- one turn of a call: a try; or none, as no number is left for it
  abbrev pub TurnsOnce : Result (Option Reply) Refusal → List EntryValue → List EntryValue → Type 0
  TurnsOnce r old new = InOneTurn history acts (try_call c op) (tried_answer r) old new ⊎ ((r ≡ Err OutOfMemory) × ((new ≡ old) × IsFullOf c new))
