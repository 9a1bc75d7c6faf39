-- Whose revokers are stored where a script opens clients.
-- Assise (OSDI 2020), section 3 (CC-NVM: a holder whose lease is revoked says what has to be replicated before).
use Rattle.std.specs.Prelude.{◌≡◌, ◌<◌, ℕ, ⊤, List, ◌++◌, vec_capacity, vec_len}
use Rattle.std.specs.Option.{option_to_list}
use Rattle.assise_fault_script.specs.declared.command.Command.{Command}
use Rattle.assise_fault_script.specs.declared.command.Command.TheVariants.{Cluster, Manual, Open, Call, Carry, Link, Hot, Digest, Release, Crash, Fail, Back, Refill, Join, Raise, Tree as TreeOf, History, Check}
use Rattle.assise_fault_script.specs.declared.command.RevokerKind.{RevokerKind}
use Rattle.assise_fault_script.specs.declared.command.RevokerKind.TheVariants.{Least, Whole, Eights}
use Rattle.assise_machine.specs.Clusters.{revokers}
use Rattle.assise_console.specs.declared.response.Response.{Response}
use Rattle.assise_console.specs.declared.response.Response.TheVariants.{Client}
use Rattle.assise_console.specs.declared.console.ConsoleOf.{ConsoleOf}
use Rattle.assise_console.specs.declared.stock.Stock.{Stock}

-- the revokers of a kind that are left
abbrev pub revokers_left : {C : Type 0} → RevokerKind → Stock C → List C
revokers_left Least s = s.least.items
revokers_left Whole s = s.whole.items
revokers_left Eights s = s.eights.items

-- there is memory for one revoker of a kind more
abbrev pub HasSpare : {C : Type 0} → RevokerKind → Stock C → Type 0
HasSpare Least s = vec_len s.least < vec_capacity s.least
HasSpare Whole s = vec_len s.whole < vec_capacity s.whole
HasSpare Eights s = vec_len s.eights < vec_capacity s.eights

-- a client that is opened stores the last revoker of this kind; where none is opened that stays, and all else stays anyhow
pub record StoresLast {C : Type 0} (kind : RevokerKind) (a : Response) (old new : ConsoleOf C) : Type 0 where
  pub takes : (c : ℕ) → a ≡ Client c → revokers_left kind old.stock ≡ revokers_left kind new.stock ++ option_to_list (revokers new.cluster c)
  pub kept : ((c : ℕ) → a ≡ Client c → ⊥) → revokers_left kind new.stock ≡ revokers_left kind old.stock
  pub kinds : (k : RevokerKind) → (k ≡ kind → ⊥) → revokers_left k new.stock ≡ revokers_left k old.stock
  pub others : (c : ℕ) → (a ≡ Client c → ⊥) → revokers new.cluster c ≡ revokers old.cluster c

-- where the command is an open
abbrev pub Stores : {C : Type 0} → Command → Response → ConsoleOf C → ConsoleOf C → Type 0
Stores (Open n kind u) a old new = StoresLast kind a old new
Stores (Cluster n l h) a old new = ⊤
Stores Manual a old new = ⊤
Stores (Call c op) a old new = ⊤
Stores (Carry n) a old new = ⊤
Stores (Link n kind) a old new = ⊤
Stores (Hot n capacity) a old new = ⊤
Stores (Digest n) a old new = ⊤
Stores Release a old new = ⊤
Stores (Crash c) a old new = ⊤
Stores (Fail n) a old new = ⊤
Stores (Back n) a old new = ⊤
Stores (Refill n) a old new = ⊤
Stores (Join n) a old new = ⊤
Stores (Raise n) a old new = ⊤
Stores (TreeOf n) a old new = ⊤
Stores History a old new = ⊤
Stores Check a old new = ⊤
