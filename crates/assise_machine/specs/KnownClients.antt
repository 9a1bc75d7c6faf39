-- What is known of a client, in words of the history.
use Rattle.std.specs.Prelude.{◌≡◌, ℕ, List}
use Rattle.std.specs.List.{list_any}
use Rattle.assise_history.specs.Entries.{EntryValue}
use Rattle.assise_history.specs.Legal.{IsOpenedOn, calls_made, is_crash_of, is_failure_of}
use Rattle.assise_machine_state.specs.ClientValues.{ClientValue}

-- the client was opened on its node; it crashed, or its node failed, exactly where an entry since says so; and its answered calls
-- are counted
pub record IsKnownClient (h : List EntryValue) (c : ℕ) (known : ClientValue) : Type 0 where
  pub opened : IsOpenedOn h c known.home
  pub crashed : known.crashed ≡ list_any (is_crash_of c) opened.since
  pub failed : known.failed ≡ list_any (is_failure_of known.home) opened.since
  pub calls : known.next ≡ calls_made c h
