-- What one stretch of calls, or one command of the main thread, adds to what was said.
-- Assise (OSDI 2020), section 3.
use Rattle.std.specs.Prelude.{◌≡◌, ◌<◌, ℕ, List, [], IfSome, Option}
use Rattle.std.specs.Io.KnownBytes.{Appends}
use Rattle.assise_history.specs.Entries.{EntryValue}
use Rattle.assise_model_events.specs.Machine.{Machine}
use Rattle.assise_keeper.specs.Clients.{openings, openings_of}
use Rattle.assise_fault_script.specs.declared.parse.NumberedCommand.{NumberedCommand}
use Rattle.assise_console.specs.declared.response.Response.{Response}
use Rattle.assise_console.specs.Lines.{line_text}
use Rattle.assise_threads.specs.Answered.{AnswersCommand}
use Rattle.assise_threads.specs.Fronts.{HearsOn}
use Rattle.assise_threads.specs.Openings.{OpensJust, Sights, opening_in, openings_said, with_opened}
use Rattle.assise_threads.specs.Hearing.{HasHeard, HearsStretch, sight_of}
use Rattle.assise_threads.specs.Runs.{IsSaid}
use Rattle.assise_threads.specs.Said.{Said, commands_said, said_lines}

-- the lines of a stretch of calls were written, and each client heard its own
pub record IsStretchSaid (turns : ℕ) (stretch : List NumberedCommand) (seen : Machine) (before after : Sights) (old new : Option (List ℕ)) : Type 0 where
  pub said : List Said
  pub each : commands_said said ≡ stretch
  pub main : IsSaid turns seen said seen
  pub appends : Appends old new (said_lines said)
  pub clients : (c : ℕ) → HearsStretch turns c said (sight_of c before) (sight_of c after)
  pub on : (c : ℕ) → HearsOn turns c (sight_of c before) said (sight_of c after)
  pub quiet : openings_said said ≡ []

-- a command of the main thread was answered, and its line was written; no client was opened but the one that it tells of
pub record IsOneSaid (turns : ℕ) (l : NumberedCommand) (seen : Machine) (before : Sights) (now : Machine) (after : Sights) (old new : Option (List ℕ)) : Type 0 where
  pub answer : Response
  pub answered : AnswersCommand turns l.command answer seen now
  pub opened : OpensJust (opening_in l.command answer) seen.history now.history
  pub appends : Appends old new (line_text l.line now.history answer)
  pub clients : after ≡ with_opened before now.history (opening_in l.command answer)

-- all commands so far were answered from this machine on, their lines were written, each client heard its own, and they tell of all openings that were seen
pub record AreAllSaid (turns : ℕ) (first : Machine) (commands : List NumberedCommand) (seen : Machine) (clients : Sights) (old new : Option (List ℕ)) : Type 0 where
  pub said : List Said
  pub each : commands_said said ≡ commands
  pub main : IsSaid turns first said seen
  pub appends : Appends old new (said_lines said)
  pub heard : (c : ℕ) → HasHeard turns c said (sight_of c clients)
  pub known : (c : ℕ) → IfSome (sight_of c clients) (λ h. 0 < openings c seen.history)
  pub opened : openings_of seen.history ≡ openings_said said
