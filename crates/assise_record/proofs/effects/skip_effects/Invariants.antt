use Rattle.assise_record.proofs.Common.{◌≡◌, ◌-◌, many_at, effect_at, rest_of}
use Rattle.assise_record.proofs.effects.skip_effects.Given as goal

abbrev pub invariant-loop : goal.invariant-loop
invariant-loop l = rest_of (many_at effect_at (l.count - l.counter) l.rest) ≡ rest_of (many_at effect_at l.count l.bytes)
