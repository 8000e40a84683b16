-- The command that clap is given, files and options with one value each and no help, and what its matches give.
use Rattle.std.specs.Prelude.{◌≡◌, All, Bool, cond, true, not, ◌&&◌, List, [], ◌∷◌, map, Some, None, codes, unwrap_or, bytes_eq}
use Rattle.std.specs.List.{list_all}
use Rattle.clap.specs.Faults.{is_simple_and_free}
use Rattle.clap.specs.Lexer.{has_byte}
use Rattle.clap.specs.Matches.{found_of}
use Rattle.clap.specs.Walk.{Row, Rule, all_of, first_of, is_empty, rows_of}
use Rattle.clap.specs.Simple.{App, Shape, built, filled, new_rule, new_shape, with_index}
use Rattle.clap.specs.declared.builder.action.ArgAction.TheVariants.{Append, Set}
use Rattle.clap.specs.declared.parser.matches.ArgMatches.{ArgMatches}
use Rattle.command_line.specs.Words.{Given, IsGiven, Text}

abbrev pub file_written : Rule
file_written = record (new_rule (codes "file")) { action = Some Append }

abbrev pub option_written : Text → Rule
option_written n = record (new_rule n) { long = Some n; action = Some Set }

abbrev pub written : Text → List Text → App
written name options = record {
  top = record (new_shape name) {
    rules = file_written ∷ map option_written options;
    disable_help_flag = true;
  };
  subs = [];
}

-- as clap builds it
abbrev pub file_rule : Rule
file_rule = with_index 1 (filled file_written)

abbrev pub option_rule : Text → Rule
option_rule n = filled (option_written n)

abbrev pub rules_for : List Text → List Rule
rules_for options = file_rule ∷ map option_rule options

abbrev pub shape_for : Text → List Text → Shape
shape_for name options = record (new_shape name) {
  rules = rules_for options;
  disable_help_flag = true;
  disable_help_subcommand = true;
  is_built = true;
}

-- an option's name has a byte and no `=`, and isn't the id of the files
abbrev pub fits : Text → Bool
fits n = not (bytes_eq (codes "file") n) && (not (has_byte 61 n) && not (is_empty n))

-- clap's contracts tell what the command takes
pub record IsFit (name : Text) (options : List Text) : Type 0 where
  pub simple : is_simple_and_free (written name options) ≡ true
  pub built_so : built (written name options) ≡ record { top = shape_for name options; subs = [] }
  pub names : list_all fits options ≡ true

abbrev pub rows_in : ArgMatches → List Row
rows_in m = rows_of (found_of m)

-- the values of an id
abbrev pub values_of : Text → List Row → List Text
values_of id rows = unwrap_or (all_of id rows) []

-- what rows give; `file` is the id of the files, and no option
abbrev pub given_in : List Row → Given
given_in rows = record {
  value = λ option. cond (bytes_eq (codes "file") option) None (first_of option rows);
  files = values_of (codes "file") rows;
}

-- the value of each of these options, where it has one, is neither empty nor `-`
abbrev pub HasGivenValues : List Text → List Row → Type 0
HasGivenValues options rows = All (λ n. (v : Text) → first_of n rows ≡ Some v → IsGiven v) options
