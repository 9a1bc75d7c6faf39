-- The command line: `assise SCRIPT [--turns N] [--threads]`.
use Rattle.std.specs.Prelude.{ℕ, Bool, true, false, List, [], ◌∷◌, Option, Some, codes, option_map, pos}
use Rattle.std.specs.Option.{option_map_or}
use Rattle.std.specs.Str.{bytes_eq}
use Rattle.std.specs.Str.Parse.{digits_value, without_leading_plus}
use Rattle.clap.specs.Words.{App, Kinds, Rule, Text, fault_of, first_of, matches_of, new_app, new_rule, one_of, takes, with_rule}
use Rattle.clap.specs.declared.builder.ArgAction.TheVariants.{Set, SetTrue}
use Rattle.clap.specs.declared.builder.value_parser.ValueParser.TheVariants.{Signed, Bool as TrueOrFalse}

-- the argument that has to be there
abbrev pub script_rule : Rule
script_rule = record (new_rule (codes "SCRIPT")) { action = Some Set; required = true }

-- the option `--turns N`: a number from 1 to 1,000,000, and 100,000 where none is named
abbrev pub turns_rule : Rule
turns_rule = record (new_rule (codes "turns")) {
  long = Some (codes "turns");
  action = Some Set;
  value_names = 1;
  defaults = codes "100000" ∷ [];
  parser = Some (Signed (pos 1) (pos 1000000));
}

-- the flag `--threads`
abbrev pub threads_rule : Rule
threads_rule = record (new_rule (codes "threads")) { long = Some (codes "threads"); action = Some SetTrue; parser = Some TrueOrFalse }

-- a program that tells its version
abbrev pub named : App
named = let plain = new_app (codes "assise") in record plain { top = record (plain.top) { has_version = true } }

abbrev pub program : App
program = with_rule (with_rule (with_rule named script_rule) turns_rule) threads_rule

-- what the words of a command line name as the script, where they are taken; the first word is the program's own
abbrev pub script_of : List Text → Option Text
script_of words = first_of (codes "SCRIPT") (matches_of program words)

-- the number that decimal digits write; a plus may stand before them
abbrev pub number_written : Text → ℕ
number_written digits = digits_value 10 (without_leading_plus digits)

-- how often a call is tried at most: the number that the words name, or the default
abbrev pub turns_of : List Text → Option ℕ
turns_of words = option_map number_written (one_of (codes "turns") (matches_of program words))

-- the flag is used: this is read of it then
abbrev pub reads_true : Option Text → Bool
reads_true read = option_map_or (λ t. bytes_eq t (codes "true")) read false

-- whether a thread is asked for for each client: the words have the flag, where they are taken
abbrev pub threads_of : List Text → Bool
threads_of words = reads_true (one_of (codes "threads") (matches_of program words))

-- the words are a command line of the program: they name one script, at most one number of turns, which is in its
-- range, at most once `--threads`, and nothing else
unfoldable pub is_taken : List Text → Bool
is_taken words = takes program words

-- what may be answered in place of a script: nothing where the words have no fault
unfoldable pub faults_of : List Text → Kinds
faults_of words = fault_of program words
