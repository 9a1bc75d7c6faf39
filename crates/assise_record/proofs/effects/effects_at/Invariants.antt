use Rattle.assise_record.proofs.Common.{◌≡◌, ◌-◌, ◌++◌, many_at, effect_at}
use Rattle.assise_record.proofs.Loop.{through}
use Rattle.assise_record.proofs.effects.effects_at.Given as goal

abbrev pub invariant-loop : goal.invariant-loop
invariant-loop l = through (λ xs. l.effects.items ++ xs) (many_at effect_at (l.count - l.counter) l.bytes) ≡ many_at effect_at l.count l.fn.bytes
