-- The calls of a list, with what came of each.
-- Assise (OSDI 2020), section 3 (a process's calls in order).
use Rattle.std.specs.Prelude.{◌≡◌, ℕ, ◌+◌, List, [], ◌∷◌, ◌++◌, length, Result, Ok, Err, IfErr}
use Rattle.assise_names.specs.declared.call.Op.{Op}
use Rattle.assise_names.specs.declared.refusal.Refusal.{Refusal}
use Rattle.assise_names.specs.declared.reply.Reply.{Reply}
use Rattle.assise_history.specs.Entries.{EntryValue, calls}
use Rattle.assise_history.specs.Legal.{calls_made}
use Rattle.assise_keeper.specs.Clients.{calls_by, Extends}
use Rattle.assise_libfs.specs.Calling.{MayRefuse, SeesCall}
use Rattle.assise_libfs.specs.InTurns.{TurnsTo}
use Rattle.assise_model_events.specs.Events.{Answer, ClusterEvent}

-- the calls that were answered, each with its reply, numbered on from k; a refused one is none
abbrev pub told_all : ℕ → ℕ → List Op → List (Result Reply Refusal) → List EntryValue
told_all c k [] rs = []
told_all c k (op ∷ ops) [] = []
told_all c k (op ∷ ops) (Ok reply ∷ rs) = calls (record { client = c; number = k; op = op; reply = reply }) ∷ told_all c (k + 1) ops rs
told_all c k (op ∷ ops) (Err refusal ∷ rs) = told_all c k ops rs

-- what came of a call of a client, whose calls have `limit` turns each, by turns of its own
abbrev pub Turned : {S : Type 0} → (S → List EntryValue) → (S → ClusterEvent → Answer → S → Type 0) → (limit : ℕ) → ℕ → Op → List EntryValue → Result Reply Refusal → List EntryValue → Type 0
Turned history acts limit c op old r new = TurnsTo history acts c op limit r old new

-- What came of one call, whose turns were such: what was seen goes on by the call with its reply; or it is refused, for what is seen then.
abbrev pub IsCallMade : (ℕ → Op → List EntryValue → Result Reply Refusal → List EntryValue → Type 0) → ℕ → Op → List EntryValue → Result Reply Refusal → List EntryValue → Type 0
IsCallMade T c op old r new = SeesCall c op old r new × (IfErr r (MayRefuse c op new) × T c op old r new)

-- so from call to call
abbrev pub AreCallsMade : (ℕ → Op → List EntryValue → Result Reply Refusal → List EntryValue → Type 0) → ℕ → List Op → List EntryValue → List (Result Reply Refusal) → List EntryValue → Type 0
AreCallsMade T c [] old [] new = new ≡ old
AreCallsMade T c [] old (r ∷ rs) new = ⊥
AreCallsMade T c (op ∷ ops) old [] new = ⊥
AreCallsMade T c (op ∷ ops) old (r ∷ rs) new = (mid : List EntryValue) × (IsCallMade T c op old r mid × AreCallsMade T c ops mid rs new)

-- a client made these calls in order, and this came of each: what was seen goes on, and of the client by the calls that were answered
pub record SeesAll (T : ℕ → Op → List EntryValue → Result Reply Refusal → List EntryValue → Type 0) (c : ℕ) (ops : List Op) (old : List EntryValue) (rs : List (Result Reply Refusal)) (new : List EntryValue) : Type 0 where
  pub count : length rs ≡ length ops
  pub extends : Extends new old
  pub told : calls_by c new ≡ calls_by c old ++ told_all c (calls_made c old) ops rs
  pub each : AreCallsMade T c ops old rs new
