-- The effects of one call, as a log of updates keeps them: Assise (OSDI 2020), section 3; Strata (SOSP 2017), section 3.
use Rattle.std.specs.Prelude.{ℕ, List}
use Rattle.assise_record.specs.declared.effect.Effect.{Effect}

pub record LogRecord : Type 0 where
  pub call : ℕ
  pub effects : List Effect
