-- How many commands in front are calls, and what is said next.
use Rattle.std.specs.Prelude.{◌≡◌, ℕ, suc, List, [], ◌∷◌, Option}
use Rattle.assise_model_events.specs.Machine.{Machine}
use Rattle.assise_fault_script.specs.declared.command.Command.{Command}
use Rattle.assise_fault_script.specs.declared.command.Command.TheVariants.{Call}
use Rattle.assise_fault_script.specs.declared.parse.NumberedCommand.{NumberedCommand}
use Rattle.assise_threads.specs.Openings.{Sights}
use Rattle.assise_threads.specs.Spoken.{IsOneSaid, IsStretchSaid}
use Rattle.assise_threads.specs.Stretches.{IsClientCall}

-- one more than behind it, or none
abbrev pub counts_call : Command → ℕ → ℕ
counts_call (Call c op) behind = suc behind
counts_call command behind = 0

abbrev pub calls_ahead : List NumberedCommand → ℕ
calls_ahead [] = 0
calls_ahead (l ∷ ls) = counts_call l.command (calls_ahead ls)

-- a stretch of calls was served, or one command that is no call was answered
pub data AreSaidNext (turns : ℕ) (ls : List NumberedCommand) (seen : Machine) (before : Sights) (now : Machine) (after : Sights) (old new : Option (List ℕ)) : Type 0 where
  is_stretch : now ≡ seen → IsStretchSaid turns ls seen before after old new → AreSaidNext turns ls seen before now after old new
  is_one : (l : NumberedCommand) → ls ≡ l ∷ [] → (IsClientCall l.command → ⊥) → IsOneSaid turns l seen before now after old new → AreSaidNext turns ls seen before now after old new
