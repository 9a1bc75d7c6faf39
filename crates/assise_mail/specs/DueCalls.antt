-- Calls in order, for each of which a reply is due, and where they stop.
use Rattle.std.specs.Prelude.{◌≡◌, ℕ, List, [], ◌∷◌, ◌++◌, map, Result, Ok, Err}
use Rattle.assise_names.specs.declared.call.Op.{Op}
use Rattle.assise_names.specs.declared.call.Op.TheVariants.{Create, Write, Rename, Stat, Unlink, Dsync}
use Rattle.assise_names.specs.declared.refusal.Refusal.{Refusal}
use Rattle.assise_names.specs.declared.refusal.Refusal.TheVariants.{OutOfMemory}
use Rattle.assise_names.specs.declared.reply.Reply.{Reply}
use Rattle.assise_names.specs.declared.reply.Reply.TheVariants.{Bytes, Done, Error, Names}
use Rattle.assise_names.specs.declared.reply.TreeError.TheVariants.{NoEnt}
use Rattle.assise_history.specs.Entries.{EntryValue}
use Rattle.assise_libfs.specs.Calling.{SeesCall}
use Rattle.assise_workers.specs.Told.{SeesAll}
use Rattle.assise_mail.specs.declared.fault.MailFault.{MailFault}
use Rattle.assise_mail.specs.declared.fault.MailFault.TheVariants.{Answered, Refused}
use Rattle.assise_mail.specs.declared.due_call.DueCall.{DueCall}

abbrev pub ops_of : List DueCall → List Op
ops_of calls = map (λ (x : DueCall). x.op) calls

abbrev pub replies_of : List DueCall → List (Result Reply Refusal)
replies_of calls = map (λ (x : DueCall). Ok x.reply) calls

abbrev pub call_done : Op → DueCall
call_done op = record { op = op; reply = Done }

-- a message is written to a draft, and synced; nothing is at its place, to which it is moved, and that is synced
abbrev pub delivery_calls : (draft place : List (List ℕ)) (message : List ℕ) → List DueCall
delivery_calls draft place message =
    call_done (Create draft) ∷ call_done (Write draft 0 message) ∷ call_done Dsync
    ∷ record { op = Stat place; reply = Error NoEnt } ∷ call_done (Rename draft place) ∷ call_done Dsync ∷ []

abbrev pub removal_calls : (place : List (List ℕ)) → List DueCall
removal_calls place = call_done (Unlink place) ∷ call_done Dsync ∷ []

-- ---- what stops them

abbrev pub fault_of : Result Reply Refusal → MailFault
fault_of (Ok reply) = Answered reply
fault_of (Err refusal) = Refused refusal

-- no call was made, for want of memory
abbrev pub LacksMemory : MailFault → (old new : List EntryValue) → Type 0
LacksMemory fault old new = (fault ≡ Refused OutOfMemory) × (new ≡ old)

-- a call was made, and came to what isn't due: that is the fault
pub record ComesToElse (c : ℕ) (op : Op) (IsDue : Reply → Type 0) (old : List EntryValue) (is : MailFault) (new : List EntryValue) : Type 0 where
  pub came : Result Reply Refusal
  pub sees : SeesCall c op old came new
  pub fault : is ≡ fault_of came
  pub undue : (reply : Reply) → came ≡ Ok reply → IsDue reply → ⊥

-- whatever turns a call took
abbrev pub AnyTurns : ℕ → Op → List EntryValue → Result Reply Refusal → List EntryValue → Type 0
AnyTurns c op old r new = Unit {0}

-- some first calls came to what is due, and the next one didn't
pub record StopsAt (c : ℕ) (calls : List DueCall) (old : List EntryValue) (fault : MailFault) (new : List EntryValue) : Type 0 where
  pub made : List DueCall
  pub wanted : DueCall
  pub rest : List DueCall
  pub between : List EntryValue
  pub split : calls ≡ made ++ wanted ∷ rest
  pub sees : SeesAll AnyTurns c (ops_of made) old (replies_of made) between
  pub stops : ComesToElse c wanted.op (λ reply. reply ≡ wanted.reply) between fault new

abbrev pub IsNames : Reply → Type 0
IsNames reply = (names : List (List ℕ)) × (reply ≡ Names names)

abbrev pub IsBytes : Reply → Type 0
IsBytes reply = (bytes : List ℕ) × (reply ≡ Bytes bytes)
