-- Why a client can't be opened.
-- Assise (OSDI 2020), section 3 (fail-over: clients go on at another node).
use Rattle.std.specs.Prelude.{◌≡◌, ℕ, List}
use Rattle.assise_names.specs.declared.limits.TheConstants.{MOST_CLIENTS}
use Rattle.assise_names.specs.declared.refusal.Refusal.{Refusal}
use Rattle.assise_names.specs.declared.refusal.Refusal.TheVariants.{OutOfMemory, Busy, NodeDown, ClientGone, InodesSpent, TooLarge, LastNode, BadNode, BadClient, WrongPhase, StaleMessage, LogFull}
use Rattle.assise_history.specs.Entries.{EntryValue}
use Rattle.assise_history.specs.Legal.{IsDown, clients_opened}

-- an open on the node may be refused so after this history: for too many clients only where the node isn't down
abbrev pub MayRefuseOpen : ℕ → List EntryValue → Refusal → Type 0
MayRefuseOpen n h OutOfMemory = Unit {0}
MayRefuseOpen n h Busy = ⊥
MayRefuseOpen n h NodeDown = ∥ IsDown h n ∥₁
MayRefuseOpen n h ClientGone = ⊥
MayRefuseOpen n h InodesSpent = ⊥
MayRefuseOpen n h TooLarge = ⊥
MayRefuseOpen n h LastNode = ⊥
MayRefuseOpen n h BadNode = Unit {0}
MayRefuseOpen n h BadClient = (IsDown h n → ⊥) × (clients_opened h ≡ MOST_CLIENTS)
MayRefuseOpen n h WrongPhase = ⊥
MayRefuseOpen n h StaleMessage = ⊥
MayRefuseOpen n h LogFull = ⊥
