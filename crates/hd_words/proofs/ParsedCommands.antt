-- The program's command lines take words that have their form, and find what they give.
use Rattle.std.proofs.Common.{◌≡◌, ◌∙◌, ◌<◌, ◌≤◌, ℕ, Bool, cond, true, false, zero, suc, refl, sym, ap, ap₂, subst, arith, List, [], ◌∷◌, length, drop, Option, Some, None, codes, if◌then◌else◌}
use Rattle.std.specs.Prelude.{⊤, slice_get}
use Rattle.std.specs.Option.{option_map, option_and_then}
use Rattle.std.specs.List.{fold}
use Rattle.std.specs.Str.{bytes_eq}
use Rattle.std.proofs.lemmas.Slice.Eq.{bytes_eq-Decides}
use Rattle.clap.specs.Built.{AddsArg}
use Rattle.clap.specs.Matches.{first_value, found_of}
use Rattle.clap.specs.Simple.{App, HasMatchesOf, app_of, is_simple, matches_of, with_rule}
use Rattle.clap.specs.Takes.{takes}
use Rattle.clap.specs.Walk.{Row, Rule, Text, arg_by_id, arg_by_index, arg_by_long, first_of, has_row, nothing_held, rows_of, rule_of, settled, walk_from, walked, with_default}
use Rattle.clap.specs.declared.builder.arg.Arg.{Arg}
use Rattle.clap.specs.declared.builder.command.Command.{Command}
use Rattle.clap.specs.declared.parser.matches.ArgMatches.{ArgMatches}
use Rattle.clap.proofs.WalkLemmas.{first_value-rows}
use Rattle.hd_words.specs.CommandLines.{HasForm, HasGiven, Holds, app_for, ids_of}
use Rattle.hd_words.specs.GivenWords.{Given}
use Rattle.hd_words.specs.declared.command_lines.CommandLine.{CommandLine}
use Rattle.hd_words.specs.declared.command_lines.CommandLine.TheVariants.{Dales, Run, Check}
use Rattle.hd_words.proofs.Forms.{form_by-fits, saves_of, tiles_of}
use Rattle.hd_words.proofs.ParsedKeys.{Key, Name, Save, Tile, id_of, said, taken, value_at}
use Rattle.hd_words.proofs.ParsedWords.{Goes, Reads, Goes-all}

-- one more argument
pub with_rule-added : (old new : Command) (a : Arg) (app : App) (rule : Rule) → AddsArg old a new → a.global ≡ false → app_of old ≡ app → rule_of a ≡ rule → app_of new ≡ with_rule app rule
with_rule-added old new a app rule more own is rule_is = more.shape own ∙ ap₂ with_rule is rule_is

abbrev option_rule_of : Text → Rule
option_rule_of id = taken id (Some id) None

-- the arguments of each command line, once it is built
abbrev rules_for : CommandLine → List Rule
rules_for Dales = taken (codes "SURFACE") None (Some 1) ∷ []
rules_for Run = taken (codes "SURFACE") None (Some 1) ∷ taken (codes "SCRIPT") None (Some 2) ∷ option_rule_of (codes "tile") ∷ option_rule_of (codes "save") ∷ []
rules_for Check = taken (codes "SURFACE") None (Some 1) ∷ taken (codes "CERT") None (Some 2) ∷ []

abbrev word_of : CommandLine → Text
word_of Dales = codes "dales"
word_of Run = codes "run"
word_of Check = codes "check"

-- the argument with an id
place_in : List Text → Text → ℕ
place_in [] x = 0
place_in (y ∷ ys) x = if bytes_eq y x then 0 else suc (place_in ys x)

key_of : List Text → Text → Key
key_of ids x = if bytes_eq x (codes "tile") then Tile else if bytes_eq x (codes "save") then Save else Name (place_in ids x)

at_text : (P : Text → Type 0) (x y : Text) → Some x ≡ Some y → P x → P y
at_text P x y is h =
    let same : x ≡ y = cc in
    subst P same h

known : (line : CommandLine) (k : Key) (x : Text) → id_of (ids_of line) k ≡ Some x → key_of (ids_of line) x ≡ k
unfolding key_of place_in
known Dales Tile x is = at_text (λ y. key_of (ids_of Dales) y ≡ Tile) _ x is refl
known Dales Save x is = at_text (λ y. key_of (ids_of Dales) y ≡ Save) _ x is refl
known Dales (Name zero) x is = at_text (λ y. key_of (ids_of Dales) y ≡ Name 0) _ x is refl
known Dales (Name (suc i)) x is = absurd (cc)
known Run Tile x is = at_text (λ y. key_of (ids_of Run) y ≡ Tile) _ x is refl
known Run Save x is = at_text (λ y. key_of (ids_of Run) y ≡ Save) _ x is refl
known Run (Name zero) x is = at_text (λ y. key_of (ids_of Run) y ≡ Name 0) _ x is refl
known Run (Name (suc zero)) x is = at_text (λ y. key_of (ids_of Run) y ≡ Name 1) _ x is refl
known Run (Name (suc (suc i))) x is = absurd (cc)
known Check Tile x is = at_text (λ y. key_of (ids_of Check) y ≡ Tile) _ x is refl
known Check Save x is = at_text (λ y. key_of (ids_of Check) y ≡ Save) _ x is refl
known Check (Name zero) x is = at_text (λ y. key_of (ids_of Check) y ≡ Name 0) _ x is refl
known Check (Name (suc zero)) x is = at_text (λ y. key_of (ids_of Check) y ≡ Name 1) _ x is refl
known Check (Name (suc (suc i))) x is = absurd (cc)

differ : (line : CommandLine) (j k : Key) (x y : Text) → id_of (ids_of line) j ≡ Some x → id_of (ids_of line) k ≡ Some y → bytes_eq x y ≡ true → j ≡ k
differ line j k x y first second same = sym (known line j x first) ∙ ap (key_of (ids_of line)) ((bytes_eq-Decides x y).0 same) ∙ known line k y second

abbrev IsNamed : List Rule → ℕ → Text → Type 0
IsNamed rules i id = (arg_by_index rules (suc i) ≡ Some (taken id None (Some (suc i)))) × (arg_by_id rules id ≡ Some (taken id None (Some (suc i))))

named : (line : CommandLine) (i : ℕ) (id : Text) → slice_get (ids_of line) i ≡ Some id → IsNamed (rules_for line) i id
named Dales zero id is = at_text (IsNamed (rules_for Dales) 0) _ id is (refl, refl)
named Dales (suc i) id is = absurd (cc)
named Run zero id is = at_text (IsNamed (rules_for Run) 0) _ id is (refl, refl)
named Run (suc zero) id is = at_text (IsNamed (rules_for Run) 1) _ id is (refl, refl)
named Run (suc (suc i)) id is = absurd (cc)
named Check zero id is = at_text (IsNamed (rules_for Check) 0) _ id is (refl, refl)
named Check (suc zero) id is = at_text (IsNamed (rules_for Check) 1) _ id is (refl, refl)
named Check (suc (suc i)) id is = absurd (cc)

-- where there is an option, it is found by its name
abbrev HasOption : List Rule → Text → Type 0
HasOption rules id = (arg_by_long rules id ≡ Some (option_rule_of id)) × (arg_by_id rules id ≡ Some (option_rule_of id))

tile_found : (line : CommandLine) → 0 < tiles_of line → HasOption (rules_for line) (codes "tile")
tile_found Dales some = absurd (omega arith)
tile_found Run some = (refl, refl)
tile_found Check some = absurd (omega arith)

save_found : (line : CommandLine) → 0 < saves_of line → HasOption (rules_for line) (codes "save")
save_found Dales some = absurd (omega arith)
save_found Run some = (refl, refl)
save_found Check some = absurd (omega arith)

few : (line : CommandLine) → (length (ids_of line) ≤ 4) × (tiles_of line ≤ 1) × (saves_of line ≤ 1)
few Dales = (omega arith, omega arith, omega arith)
few Run = (omega arith, omega arith, omega arith)
few Check = (omega arith, omega arith, omega arith)

reads : (line : CommandLine) → Reads (rules_for line) (ids_of line) (tiles_of line) (saves_of line)
reads line = record {
  differ = differ line;
  named = named line;
  tile_found = tile_found line;
  save_found = save_found line;
  few_names = (few line).0;
  few_tiles = (few line).1;
  few_saves = (few line).2;
}

-- the walk over the words of a command
abbrev WalksAll : CommandLine → List Text → Given → Type 0
WalksAll line words given = Goes (word_of line) (rules_for line) (ids_of line) (tiles_of line) (saves_of line) (reads line) (walk_from nothing_held) words given

takes_all : (line : CommandLine) (words : List Text) (given : Given) → WalksAll line (drop 1 words) given → takes (app_for line) words ≡ true
takes_all Dales words given goes = rw (goes.stopped, goes.passes, goes.holds.passes) refl
takes_all Run words given goes = rw (goes.stopped, goes.passes, goes.holds.passes) refl
takes_all Check words given goes = rw (goes.stopped, goes.passes, goes.holds.passes) refl

-- no argument has a default
abbrev HasNoDefaults : List Rule → Type 0
HasNoDefaults [] = ⊤
HasNoDefaults (rule ∷ rules) = (rule.defaults ≡ []) × HasNoDefaults rules

no_default : (rule : Rule) (rows : List Row) → rule.defaults ≡ [] → with_default rows rule ≡ rows
no_default rule rows none = rw none (go (has_row rule.id rows))
  where
    go : (b : Bool) → cond b rows rows ≡ rows
    go true = refl
    go false = refl

no_defaults : (rules : List Rule) (rows : List Row) → HasNoDefaults rules → fold with_default rows rules ≡ rows
no_defaults [] rows none = refl
no_defaults (rule ∷ rules) rows none = ap (λ rs. fold with_default rs rules) (no_default rule rows none.0) ∙ no_defaults rules rows none.1

matches_are : (line : CommandLine) (words : List Text)
    → matches_of (app_for line) words ≡ (settled (rules_for line) (fold (walked (rules_for line) []) (walk_from nothing_held) (drop 1 words)).held).rows
matches_are Dales words = no_defaults (rules_for Dales) _ (refl, tt)
matches_are Run words = no_defaults (rules_for Run) _ (refl, (refl, (refl, (refl, tt))))
matches_are Check words = no_defaults (rules_for Check) _ (refl, (refl, tt))

simple : (line : CommandLine) → is_simple (app_for line) ≡ true
simple Dales = refl
simple Run = refl
simple Check = refl

-- the first value of a row that is there
said_first : (id : Text) (given : Option Text) → option_and_then (λ (r : Row). slice_get r.values 0) (option_map (said id) given) ≡ given
said_first id None = refl
said_first id (Some text) = refl

holds_all : (line : CommandLine) (words : List Text) (given : Given) (m : ArgMatches) → WalksAll line (drop 1 words) given → HasMatchesOf (app_for line) words m → Holds (ids_of line) given m
holds_all line words given m goes matches = record {
  names = λ i id is. value_of (Name i) id is;
  tile = value_of Tile (codes "tile") refl;
  save = value_of Save (codes "save") refl;
}
  where
    rows_are : rows_of (found_of m) ≡ (settled (rules_for line) (fold (walked (rules_for line) []) (walk_from nothing_held) (drop 1 words)).held).rows
    rows_are = (matches (simple line)).0 ∙ matches_are line words

    value_of : (k : Key) (id : Text) → id_of (ids_of line) k ≡ Some id → first_value (found_of m) id ≡ value_at k given
    value_of k id is =
        first_value-rows (found_of m) id ∙ ap (first_of id) rows_are
        ∙ ap (option_and_then (λ (r : Row). slice_get r.values 0)) (goes.holds.rows k id is) ∙ said_first id (value_at k given)

walks_formed : (line : CommandLine) (words : List Text) (form : HasForm line words) → WalksAll line (drop 1 words) form.given
walks_formed line words form =
    Goes-all (word_of line) (rules_for line) (ids_of line) (tiles_of line) (saves_of line) (reads line) (drop 1 words) form.given form.gives (form_by-fits line form.given form.request form.asks)

-- words that have their form are taken, and the matches have what they give
pub app_for-takes : (line : CommandLine) (words : List Text) → HasForm line words → takes (app_for line) words ≡ true
app_for-takes line words form = takes_all line words form.given (walks_formed line words form)

pub HasGiven-parsed : (line : CommandLine) (words : List Text) (m : ArgMatches) → HasForm line words → HasMatchesOf (app_for line) words m → HasGiven line words m
HasGiven-parsed line words m form matches other other_is =
    let all : Some form.given ≡ Some other = sym form.gives ∙ other_is in
    let same : form.given ≡ other = cc in
    subst (λ (g : Given). Holds (ids_of line) g m) same (holds_all line words form.given m (walks_formed line words form) matches)
