-- What a client's call adds to a history, what its caller has seen then, and why it is refused.
-- Assise (OSDI 2020), section 3 (CC-NVM: prefix crash consistency); POSIX.1-2017, section 2.9.7 (each call appears as made at once).
use Rattle.std.specs.Prelude.{◌≡◌, ℕ, ◌<◌, List, [], ◌∷◌, ◌++◌, length, Option, Some, None, Result, Ok, Err}
use Rattle.assise_names.specs.declared.call.Op.{Op}
use Rattle.assise_names.specs.declared.call.Op.TheVariants.{Create, Mkdir, Write}
use Rattle.assise_names.specs.declared.refusal.Refusal.{Refusal}
use Rattle.assise_names.specs.declared.refusal.Refusal.TheVariants.{OutOfMemory, Busy, NodeDown, ClientGone, InodesSpent, TooLarge, LastNode, BadNode, BadClient, WrongPhase, StaleMessage, LogFull}
use Rattle.assise_names.specs.declared.reply.Reply.{Reply}
use Rattle.assise_history.specs.Entries.{EntryValue, calls}
use Rattle.assise_history.specs.Legal.{IsAlive, IsOpenedOn, MayCall, calls_made}
use Rattle.assise_keeper.specs.Clients.{calls_by, ExtendsByOne}
use Rattle.assise_model_history.specs.Numbered.{made_in}
use Rattle.assise_libfs.specs.Lives.{HasLostNode, HasCrashed}

-- the client's next call after this history, with its reply
abbrev pub told_call : ℕ → List EntryValue → Op → Reply → EntryValue
told_call c h op reply = calls (record { client = c; number = calls_made c h; op = op; reply = reply })

-- what was seen goes on by entries that aren't calls of the client
pub record ExtendsByOthers (c : ℕ) (old new : List EntryValue) : Type 0 where
  pub between : List EntryValue
  pub split : new ≡ old ++ between
  pub others : calls_by c between ≡ []
  pub same : calls_by c new ≡ calls_by c old

-- ---- one try: it is answered, it waits (None), or it is refused

-- what it adds to a history: the call where it is answered, else nothing
abbrev pub Tries : ℕ → Op → List EntryValue → Result (Option Reply) Refusal → List EntryValue → Type 0
Tries c op h (Ok (Some reply)) h' = h' ≡ h ++ told_call c h op reply ∷ []
Tries c op h (Ok None) h' = h' ≡ h
Tries c op h (Err refusal) h' = h' ≡ h

-- what its caller has seen then
abbrev pub SeesTry : ℕ → Op → List EntryValue → Result (Option Reply) Refusal → List EntryValue → Type 0
SeesTry c op old (Ok (Some reply)) new = ExtendsByOne c old new (told_call c old op reply)
SeesTry c op old (Ok None) new = ExtendsByOthers c old new
SeesTry c op old (Err refusal) new = ExtendsByOthers c old new

-- how many calls it answers
abbrev pub answers : Result (Option Reply) Refusal → ℕ
answers (Ok (Some reply)) = 1
answers (Ok None) = 0
answers (Err refusal) = 0

-- ---- a call: tries until one is answered or refused

-- Where it is answered, what was seen goes on by entries that aren't the client's calls, and then by this call with its reply; its
-- number is the count of the client's calls before. Where it is refused, what was seen has no call of the client more.
abbrev pub SeesCall : ℕ → Op → List EntryValue → Result Reply Refusal → List EntryValue → Type 0
SeesCall c op old (Ok reply) new = ExtendsByOne c old new (told_call c old op reply)
SeesCall c op old (Err refusal) new = ExtendsByOthers c old new

-- ---- why a call is refused

-- it makes a file or a directory
abbrev pub MakesInode : Op → Type 0
MakesInode (Create p) = Unit {0}
MakesInode (Mkdir p) = Unit {0}
MakesInode _ = ⊥

-- it writes more than 65,536 bytes
abbrev pub WritesTooMuch : Op → Type 0
WritesTooMuch (Write p offset bytes) = 65536 < length bytes
WritesTooMuch _ = ⊥

-- the client's node has failed since it was opened, and it hasn't crashed
abbrev pub IsCutOff : ℕ → List EntryValue → Type 0
IsCutOff c h = HasLostNode c h × IsAlive h c

-- the call makes a file or a directory, and the client, which may call, has made all inodes that it may
abbrev pub HasSpentInodes : ℕ → Op → List EntryValue → Type 0
HasSpentInodes c op h = MakesInode op × (∥ MayCall h c ∥₁ × (made_in c h ≡ 1048576))

-- Why a try may be refused after this history: first that the client was never opened, then that it crashed, then that its node failed,
-- then what is wrong of the call.
abbrev pub MayRefuseTry : ℕ → Op → List EntryValue → Refusal → Type 0
MayRefuseTry c op h OutOfMemory = Unit {0}
MayRefuseTry c op h Busy = ⊥
MayRefuseTry c op h NodeDown = ∥ IsCutOff c h ∥₁
MayRefuseTry c op h ClientGone = ∥ HasCrashed c h ∥₁
MayRefuseTry c op h InodesSpent = HasSpentInodes c op h
MayRefuseTry c op h TooLarge = WritesTooMuch op × ∥ MayCall h c ∥₁
MayRefuseTry c op h LastNode = ⊥
MayRefuseTry c op h BadNode = ⊥
MayRefuseTry c op h BadClient = (n : ℕ) → IsOpenedOn h c n → ⊥
MayRefuseTry c op h WrongPhase = ⊥
MayRefuseTry c op h StaleMessage = ⊥
MayRefuseTry c op h LogFull = ∥ MayCall h c ∥₁

-- a call may be refused so, when its caller has seen this history: Busy is for spent turns
abbrev pub MayRefuse : ℕ → Op → List EntryValue → Refusal → Type 0
MayRefuse c op h OutOfMemory = Unit {0}
MayRefuse c op h Busy = Unit {0}
MayRefuse c op h NodeDown = ∥ IsCutOff c h ∥₁
MayRefuse c op h ClientGone = ∥ HasCrashed c h ∥₁
MayRefuse c op h InodesSpent = HasSpentInodes c op h
MayRefuse c op h TooLarge = WritesTooMuch op × ∥ MayCall h c ∥₁
MayRefuse c op h LastNode = ⊥
MayRefuse c op h BadNode = ⊥
MayRefuse c op h BadClient = ⊥
MayRefuse c op h WrongPhase = ⊥
MayRefuse c op h StaleMessage = ⊥
MayRefuse c op h LogFull = ∥ MayCall h c ∥₁
