use Rattle.assise_threads.proofs.Common.{◌≡◌, map, take, calls_in}
use Rattle.assise_threads.proofs.lists.calls_of.Given as goal

-- the calls so far
abbrev pub invariant-loop-line : goal.invariant-loop-line
invariant-loop-line l = map (λ op. op.now) l.calls.items ≡ calls_in l.client (take l.line-index l.stretch)
