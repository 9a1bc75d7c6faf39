-- Whose keeper clients are lent, and how many turns a call of theirs has.
use Rattle.std.specs.Prelude.{◌≡◌, ℕ, List}
use Rattle.std.specs.List.{AllByRecursion}
use Rattle.assise_keeper.specs.declared.keeper.Keeper.{Keeper}
use Rattle.assise_libfs.specs.Clients.{keeper_of, limit_of}
use Rattle.assise_libfs.specs.declared.libfs.LibFs.{LibFs}

-- the clients are of this keeper
abbrev pub AreAt : {S : Type 0} → Keeper S → List (LibFs S) → Type 0
AreAt k ls = AllByRecursion (λ l. keeper_of l ≡ k) ls

-- a call of each has `turns` turns
abbrev pub HaveTurns : {S : Type 0} → ℕ → List (LibFs S) → Type 0
HaveTurns turns ls = AllByRecursion (λ l. limit_of l ≡ turns) ls

abbrev pub AreClients : {S : Type 0} → Keeper S → ℕ → List (LibFs S) → Type 0
AreClients k turns ls = AreAt k ls × HaveTurns turns ls
