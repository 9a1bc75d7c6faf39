-- Kept calls and the tree after them.
use Rattle.std.specs.Prelude.{◌≡◌, Bool, List, map, MatchBool}
use Rattle.assise_seq_tree.specs.Tree.{opening}
use Rattle.assise_history.specs.declared.call.Call.{Call}
use Rattle.assise_history.specs.declared.played.Played.{Played}
use Rattle.assise_history.specs.Kept.{IsRun, tree_after}

abbrev pub played_calls : Played → List Call
played_calls p = map (λ x. x.now) p.calls.items

-- the calls are a run, and the tree is the one that they leave
abbrev pub IsPlayed : Played → Type 0
IsPlayed p = IsRun opening (played_calls p) × (p.tree ≡ tree_after opening (played_calls p))

-- these calls are a run, and were played; or they are none
abbrev pub Goes : Bool → List Call → Played → Type 0
Goes right cs p = MatchBool right ((played_calls p ≡ cs) × IsPlayed p) (IsRun opening cs → ⊥)
