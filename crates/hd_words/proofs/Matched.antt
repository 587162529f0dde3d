-- What matches hold of what words ask for.
use Rattle.std.proofs.Common.{◌≡◌, ◌∙◌, ℕ, Bool, true, false, refl, sym, ap, subst, List, [], ◌∷◌, Option, Some, None, codes, if◌then◌else◌}
use Rattle.std.specs.Prelude.{is_some, slice_get}
use Rattle.std.specs.Option.{option_map}
use Rattle.std.specs.Str.{bytes_eq}
use Rattle.clap.specs.Matches.{first_value, found_of}
use Rattle.clap.specs.declared.parser.matches.ArgMatches.{ArgMatches}
use Rattle.hd_words.specs.CommandLines.{Asks, HasForm, HasGiven, Holds, form_by}
use Rattle.hd_words.specs.Limits.{usual_tile}
use Rattle.hd_words.specs.Forms.{check_form, dales_form, demo_form, form_named, form_of, run_form}
use Rattle.hd_words.specs.GivenWords.{Given, given_of}
use Rattle.hd_words.specs.Requests.{Request, command_for, run_command, Run as RunOf, Check as CheckOf, Demonstrate as DemoOf}
use Rattle.hd_words.specs.declared.command.Command.{Command}
use Rattle.hd_words.specs.declared.command.Command.TheVariants as command
use Rattle.hd_words.specs.declared.command_lines.CommandLine.{CommandLine}
use Rattle.hd_words.specs.declared.command_lines.CommandLine.TheVariants.{Dales, Run, Check}
use Rattle.hd_words.specs.declared.demo.Demo.{Demo}
use Rattle.hd_words.specs.declared.found.Stage.TheVariants.{Options}
use Rattle.hd_words.proofs.Forms.{CheckFound-form, CheckOf-same, DalesFound-form, DemoFound-form, option_map-some, RunFound-form, RunOf-same, option_and_then-some}

-- the command line of a command, where its names are texts
abbrev pub line_of : Command → Option CommandLine
line_of command.Dales = Some Dales
line_of (command.Run tile) = Some Run
line_of command.Check = Some Check
line_of (command.Demo demo) = None

-- words that ask by a command have the form of its command line
pub record AsksBy (line : CommandLine) (asked : Command) (words : List (List ℕ)) : Type 0 where
  pub form : HasForm line words
  pub command_is : command_for form.request ≡ asked

pub Asks-by : (words : List (List ℕ)) (asked : Command) (line : CommandLine) → option_map command_for (form_of words) ≡ Some asked → line_of asked ≡ Some line → AsksBy line asked words
Asks-by [] asked line is lined = absurd (cc)
Asks-by (name ∷ rest) asked line is lined =
    let (request, found, same) = option_map-some (form_of (name ∷ rest)) command_for asked is in
    let (given, gives, asks) = option_and_then-some (given_of Options rest) (form_named name) request found in
    go request found same given gives (bytes_eq name (codes "dales")) (bytes_eq name (codes "run")) (bytes_eq name (codes "check")) (bytes_eq name (codes "demo")) asks
  where
    by : (request : Request) → form_of (name ∷ rest) ≡ Some request → command_for request ≡ asked → (given : Given) → given_of Options rest ≡ Some given → (mine : CommandLine)
        → line_of (command_for request) ≡ Some mine → form_by mine given ≡ Some request
        → AsksBy line asked (name ∷ rest)
    by request found same given gives mine mine_is asks =
        let e : mine ≡ line = cc in
        record { form = record { given = given; request = request; gives = gives; asks = subst (λ (l : CommandLine). form_by l given ≡ Some request) e asks; is = found }; command_is = same }

    go : (request : Request) → form_of (name ∷ rest) ≡ Some request → command_for request ≡ asked → (given : Given) → given_of Options rest ≡ Some given → (dales run check demo : Bool)
        → (if dales then dales_form given else if run then run_form given else if check then check_form given else if demo then demo_form given else None) ≡ Some request
        → AsksBy line asked (name ∷ rest)
    go request found same given gives true run check demo asks =
        let all = DalesFound-form given.names given.tiles given.saves request asks in
        by request found same given gives Dales (ap (λ (r : Request). line_of (command_for r)) all.request_is) asks
    go request found same given gives false true check demo asks =
        let all = RunFound-form given.names given.tiles given.saves request asks in
        by request found same given gives Run (ap (λ (r : Request). line_of (command_for r)) all.request_is) asks
    go request found same given gives false false true demo asks =
        let all = CheckFound-form given.names given.tiles given.saves request asks in
        by request found same given gives Check (ap (λ (r : Request). line_of (command_for r)) all.request_is) asks
    go request found same given gives false false false true asks =
        let all = DemoFound-form given.names given.tiles given.saves request asks in
        let none : line_of (command_for request) ≡ None = ap (λ (r : Request). line_of (command_for r)) all.request_is in
        absurd (cc)
    go request found same given gives false false false false asks = absurd (cc)

-- words that ask by the command `demo` ask for its numbers
pub DemoOf-asked : (words : List (List ℕ)) (demo : Demo) → option_map command_for (form_of words) ≡ Some (command.Demo demo) → form_of words ≡ Some (DemoOf demo)
DemoOf-asked words demo is =
    let (request, found, same) = option_map-some (form_of words) command_for (command.Demo demo) is in
    found ∙ ap Some (go request same)
  where
    go : (request : Request) → command_for request ≡ command.Demo demo → request ≡ DemoOf demo
    go (RunOf run) same = absurd (no_run run.script run.tile same)
      where
        no_run : (script : Option (List ℕ)) (tile : ℕ) → run_command script tile ≡ command.Demo demo → ⊥
        no_run None tile e = cc
        no_run (Some text) tile e = cc
    go (CheckOf check) same = absurd (cc)
    go (DemoOf numbers) same = cc

-- the name under an id, by its place
name_at : (ids names : List (List ℕ)) (given : Given) (m : ArgMatches) (i : ℕ) (id name : List ℕ) → Holds ids given m → given.names ≡ names → slice_get ids i ≡ Some id → slice_get names i ≡ Some name
    → first_value (found_of m) id ≡ Some name
name_at ids names given m i id name holds names_are at is = holds.names i id at ∙ ap (λ (ns : List (List ℕ)). slice_get ns i) names_are ∙ is

same_some : {X : Type 0} (o : Option X) (x y : X) → o ≡ Some x → o ≡ Some y → x ≡ y
same_some o x y first second = cc

some_is : {X : Type 0} (o : Option X) (x : X) → o ≡ Some x → is_some o ≡ true
some_is o x is = ap is_some is

module _ (m : ArgMatches) (request : Request) where
  pub Asks-dales_names : Asks Dales m request → is_some (first_value (found_of m) (codes "SURFACE")) ≡ true
  Asks-dales_names (given, holds, is) =
      let found = DalesFound-form given.names given.tiles given.saves request is in
      some_is _ _ (name_at _ _ given m 0 _ _ holds found.names_are refl refl)

  pub RunOf-dales : (surface : List ℕ) → Asks Dales m request → first_value (found_of m) (codes "SURFACE") ≡ Some surface
      → RunOf (record { surface = surface; script = None; tile = usual_tile; save = None }) ≡ request
  RunOf-dales surface (given, holds, is) at =
      let found = DalesFound-form given.names given.tiles given.saves request is in
      let surface_is = same_some _ _ _ at (name_at _ _ given m 0 _ _ holds found.names_are refl refl) in
      ap (λ (n : List ℕ). RunOf (record { surface = n; script = None; tile = usual_tile; save = None })) surface_is ∙ sym found.request_is

  pub Asks-run_names : Asks Run m request → (is_some (first_value (found_of m) (codes "SURFACE")) ≡ true) × (is_some (first_value (found_of m) (codes "SCRIPT")) ≡ true)
  Asks-run_names (given, holds, is) =
      let found = RunFound-form given.names given.tiles given.saves request is in
      (some_is _ _ (name_at _ _ given m 0 _ _ holds found.names_are refl refl), some_is _ _ (name_at _ _ given m 1 _ _ holds found.names_are refl refl))

  pub RunOf-asked : (surface script : List ℕ) (tile : ℕ) (save : Option (List ℕ)) → Asks Run m request → command_for request ≡ command.Run tile
      → first_value (found_of m) (codes "SURFACE") ≡ Some surface
      → first_value (found_of m) (codes "SCRIPT") ≡ Some script → save ≡ first_value (found_of m) (codes "save")
      → RunOf (record { surface = surface; script = Some script; tile = tile; save = save }) ≡ request
  RunOf-asked surface script tile save (given, holds, is) named surface_at script_at save_at =
      let found = RunFound-form given.names given.tiles given.saves request is in
      let surface_is = same_some _ _ _ surface_at (name_at _ _ given m 0 _ _ holds found.names_are refl refl) in
      let script_is = same_some _ _ _ script_at (name_at _ _ given m 1 _ _ holds found.names_are refl refl) in
      let tiles : command.Run tile ≡ command.Run found.side = sym named ∙ ap command_for found.request_is in
      let tile_same : tile ≡ found.side = cc in
      let save_is = save_at ∙ holds.save in
      ap (λ (t : ℕ). RunOf (record { surface = surface; script = Some script; tile = t; save = save })) tile_same
      ∙ RunOf-same surface found.surface script found.script found.side save (slice_get given.saves 0) surface_is script_is save_is ∙ sym found.request_is

  pub Asks-check_names : Asks Check m request → (is_some (first_value (found_of m) (codes "SURFACE")) ≡ true) × (is_some (first_value (found_of m) (codes "CERT")) ≡ true)
  Asks-check_names (given, holds, is) =
      let found = CheckFound-form given.names given.tiles given.saves request is in
      (some_is _ _ (name_at _ _ given m 0 _ _ holds found.names_are refl refl), some_is _ _ (name_at _ _ given m 1 _ _ holds found.names_are refl refl))

  pub CheckOf-asked : (surface certificate : List ℕ) → Asks Check m request → first_value (found_of m) (codes "SURFACE") ≡ Some surface → first_value (found_of m) (codes "CERT") ≡ Some certificate
      → CheckOf (record { surface = surface; certificate = certificate }) ≡ request
  CheckOf-asked surface certificate (given, holds, is) surface_at certificate_at =
      let found = CheckFound-form given.names given.tiles given.saves request is in
      let surface_is = same_some _ _ _ surface_at (name_at _ _ given m 0 _ _ holds found.names_are refl refl) in
      let certificate_is = same_some _ _ _ certificate_at (name_at _ _ given m 1 _ _ holds found.names_are refl refl) in
      CheckOf-same surface found.surface certificate found.certificate surface_is certificate_is ∙ sym found.request_is

-- words that have the form of a command line ask by it
pub Asks-of : (line : CommandLine) (words : List (List ℕ)) (m : ArgMatches) (form : HasForm line words) → HasGiven line words m → Asks line m form.request
Asks-of line words m form has = (form.given, has form.given form.gives, form.asks)
