-- What a ledger keeps of its history.
use Rattle.std.specs.Prelude.{◌≡◌, ℕ, ◌≤◌, List}
use Rattle.std.proofs.Math.Bridge.{le_prop}
use Rattle.std.proofs.Math.Logic.{∥∥₁_elim}
use Rattle.assise_history.specs.Entries.{EntryValue}
use Rattle.assise_history.specs.Legal.{IsDown, IsLegal, MayCall, clients_opened}
use Rattle.assise_history.specs.Opened.{OpensOnce}
use Rattle.assise_history.proofs.Shared.ClientCounts.{opens_once}

-- it is legal, clients 1 to n were opened and may call, and no node is down
pub record IsLedger (n : ℕ) (h : List EntryValue) : Type 0 where
  pub legal : IsLegal h
  pub count : n ≡ clients_opened h
  pub calls : (c : ℕ) → 1 ≤ c → c ≤ n → MayCall h c
  pub up : (m : ℕ) → IsDown h m → ⊥

-- each of its clients is opened once
pub opened_once : (n : ℕ) (h : List EntryValue) → ∥ IsLedger n h ∥₁ → OpensOnce h
opened_once n h k = λ c. ∥∥₁_elim k le_prop (λ l. opens_once h l.legal c)
