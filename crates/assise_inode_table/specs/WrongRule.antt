-- A wrong rule of what counts for nothing: an unlink makes each earlier link of its directory of no account, whatever its name.
-- POSIX.1-2017, unlink(): the named entry alone is removed.
use Rattle.std.specs.Prelude.{◌==◌, Bool, false, ◌||◌, if◌then◌else◌, List, [], ◌∷◌}
use Rattle.assise_record.specs.declared.effect.Effect.{Effect}
use Rattle.assise_record.specs.declared.effect.Effect.TheVariants.{Link, Unlink}
use Rattle.assise_record.specs.Coalesced.{overrides}

abbrev pub wrongly_overrides : Effect → Effect → Bool
wrongly_overrides (Unlink d name) (Link b other j) = b == d
wrongly_overrides f e = overrides f e

abbrev pub wrongly_overridden : Effect → List Effect → Bool
wrongly_overridden e [] = false
wrongly_overridden e (f ∷ fs) = wrongly_overrides f e || wrongly_overridden e fs

abbrev pub wrongly_coalesced : List Effect → List Effect
wrongly_coalesced [] = []
wrongly_coalesced (e ∷ es) = if wrongly_overridden e es then wrongly_coalesced es else e ∷ wrongly_coalesced es
