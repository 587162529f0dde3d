-- The command lines that `clap` is told of, and what it finds by them.
use Rattle.std.specs.Prelude.{◌≡◌, ℕ, true, List, [], ◌∷◌, drop, Option, Some, codes, slice_get}
use Rattle.clap.specs.Matches.{first_value, found_of}
use Rattle.clap.specs.Simple.{App, new_app, new_rule, on_top, with_rule}
use Rattle.clap.specs.Walk.{Rule}
use Rattle.clap.specs.declared.builder.action.ArgAction.TheVariants.{Set}
use Rattle.clap.specs.declared.parser.matches.ArgMatches.{ArgMatches}
use Rattle.hd_words.specs.declared.command_lines.CommandLine.{CommandLine}
use Rattle.hd_words.specs.declared.command_lines.CommandLine.TheVariants.{Dales, Run, Check}
use Rattle.hd_words.specs.declared.found.Stage.TheVariants.{Options}
use Rattle.hd_words.specs.Forms.{form_of, dales_form, run_form, check_form}
use Rattle.hd_words.specs.GivenWords.{Given, given_of}
use Rattle.hd_words.specs.Requests.{Request}

-- the argument of a name
abbrev pub name_rule : List ℕ → Rule
name_rule id = record (new_rule id) { action = Some Set }

-- the argument of an option, whose id is its name
abbrev pub option_rule : List ℕ → Rule
option_rule id = record (new_rule id) { long = Some id; action = Some Set }

-- a command with no argument, and without the flags that `clap` adds
abbrev pub plain_app : List ℕ → App
plain_app name =
    on_top (λ s. record s { disable_help_flag = true; disable_version_flag = true }) (new_app name)

-- a command that takes two names
abbrev pub app_of_two : List ℕ → List ℕ → List ℕ → App
app_of_two name first second = with_rule (with_rule (plain_app name) (name_rule first)) (name_rule second)

-- each command line, as `clap` is told of it
abbrev pub app_for : CommandLine → App
app_for Dales = with_rule (plain_app (codes "dales")) (name_rule (codes "SURFACE"))
app_for Run = with_rule (with_rule (app_of_two (codes "run") (codes "SURFACE") (codes "SCRIPT"))
    (option_rule (codes "tile"))) (option_rule (codes "save"))
app_for Check = app_of_two (codes "check") (codes "SURFACE") (codes "CERT")

-- what a command line asks for, by what is given
abbrev pub form_by : CommandLine → Given → Option Request
form_by Dales given = dales_form given
form_by Run given = run_form given
form_by Check given = check_form given

-- the words have the form of this command line
pub record HasForm (line : CommandLine) (words : List (List ℕ)) : Type 0 where
  pub given : Given
  pub request : Request
  pub gives : given_of Options (drop 1 words) ≡ Some given
  pub asks : form_by line given ≡ Some request
  pub is : form_of words ≡ Some request

-- the ids of a command line's names, in their order
abbrev pub ids_of : CommandLine → List (List ℕ)
ids_of Dales = codes "SURFACE" ∷ []
ids_of Run = codes "SURFACE" ∷ codes "SCRIPT" ∷ []
ids_of Check = codes "SURFACE" ∷ codes "CERT" ∷ []

-- the matches have each name and each value of an option under its id
pub record Holds (ids : List (List ℕ)) (given : Given) (m : ArgMatches) : Type 0 where
  pub names : (i : ℕ) (id : List ℕ) → slice_get ids i ≡ Some id → first_value (found_of m) id ≡ slice_get given.names i
  pub tile : first_value (found_of m) (codes "tile") ≡ slice_get given.tiles 0
  pub save : first_value (found_of m) (codes "save") ≡ slice_get given.saves 0

-- the matches have what the words give
abbrev pub HasGiven : CommandLine → List (List ℕ) → ArgMatches → Type 0
HasGiven line words m =
    (given : Given) → given_of Options (drop 1 words) ≡ Some given → Holds (ids_of line) given m

-- what the matches have is what this request of a command line is made of
abbrev pub Asks : CommandLine → ArgMatches → Request → Type 0
Asks line m request =
    (given : Given) × Holds (ids_of line) given m × (form_by line given ≡ Some request)
