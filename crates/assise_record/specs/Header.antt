-- What stands in a frame before its records: the count of them, and how many bytes they have.
use Rattle.std.specs.Prelude.{ℕ}

pub record Header : Type 0 where
  pub version : ℕ
  pub epoch : ℕ
  pub client : ℕ
  pub first : ℕ
  pub count : ℕ
  pub size : ℕ
