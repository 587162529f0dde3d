-- The form of the program's words.
use Rattle.std.specs.Prelude.{◌&&◌, ℕ, List, [], ◌∷◌, length, Option, Some, None, codes, nat_le, if◌then◌else◌}
use Rattle.std.specs.Option.{option_map, option_and_then}
use Rattle.std.specs.Str.{bytes_eq}
use Rattle.std.specs.Str.Parse.{digits_value}
use Rattle.hd_num.specs.Whole.{is_numeral}
use Rattle.hd_words.specs.declared.found.Stage.TheVariants.{Options}
use Rattle.hd_words.specs.Demo.{demo_of}
use Rattle.hd_words.specs.Limits.{greatest_tile, least_tile, usual_tile}
use Rattle.hd_words.specs.Requests.{Request, Run, Check, Demonstrate}
use Rattle.hd_words.specs.GivenWords.{Given, begins_with_dash, given_of}

-- the side of a tile, where `--tile` is given at most once: the usual one, or one to three digits with a value
-- between the least and the greatest
abbrev pub tile_of : List (List ℕ) → Option ℕ
tile_of [] = Some usual_tile
tile_of (value ∷ []) =
    if is_numeral value && nat_le (length value) 3 && nat_le least_tile (digits_value 10 value)
    && nat_le (digits_value 10 value) greatest_tile then Some (digits_value 10 value) else None
tile_of (value ∷ (other ∷ more)) = None

-- a name that is not empty
abbrev pub filled : List ℕ → Option (List ℕ)
filled [] = None
filled (byte ∷ bytes) = Some (byte ∷ bytes)

-- a name to save under: it is not empty and does not begin with `-`
abbrev pub savable : List ℕ → Option (List ℕ)
savable value = if begins_with_dash value then None else filled value

-- the name to save under, or none, where `--save` is given at most once
abbrev pub save_of : List (List ℕ) → Option (Option (List ℕ))
save_of [] = Some None
save_of (value ∷ []) = option_map (λ name. Some name) (savable value)
save_of (value ∷ (other ∷ more)) = None

-- what `dales` asks for, by the names and the values of `--tile` and of `--save`
abbrev pub dales_form_by : List (List ℕ) → List (List ℕ) → List (List ℕ) → Option Request
dales_form_by (surface ∷ []) [] [] =
    option_map (λ name. Run (record { surface = name; script = None; tile = usual_tile; save = None })) (filled surface)
dales_form_by _ _ _ = None

-- `dales SURFACE` has one name and no option
abbrev pub dales_form : Given → Option Request
dales_form given = dales_form_by given.names given.tiles given.saves

-- what `run` asks for, by the names and the values of `--tile` and of `--save`
abbrev pub run_form_by : List (List ℕ) → List (List ℕ) → List (List ℕ) → Option Request
run_form_by (surface ∷ (script ∷ [])) tiles saves =
    option_and_then (λ name. option_and_then (λ second. option_and_then (λ side.
    option_map (λ save. Run (record { surface = name; script = Some second; tile = side; save = save })) (save_of saves))
    (tile_of tiles)) (filled script)) (filled surface)
run_form_by _ _ _ = None

-- `run SURFACE SCRIPT` has two names, and may have `--tile` and `--save`
abbrev pub run_form : Given → Option Request
run_form given = run_form_by given.names given.tiles given.saves

-- what `check` asks for, by the names and the values of `--tile` and of `--save`
abbrev pub check_form_by : List (List ℕ) → List (List ℕ) → List (List ℕ) → Option Request
check_form_by (surface ∷ (certificate ∷ [])) [] [] =
    option_and_then (λ name. option_map (λ second. Check (record { surface = name; certificate = second })) (filled certificate))
    (filled surface)
check_form_by _ _ _ = None

-- `check SURFACE CERT` has two names and no option
abbrev pub check_form : Given → Option Request
check_form given = check_form_by given.names given.tiles given.saves

-- what `demo` asks for, by the names and the values of `--tile` and of `--save`
abbrev pub demo_form_by : List (List ℕ) → List (List ℕ) → List (List ℕ) → Option Request
demo_form_by (points ∷ (profiles ∷ (number ∷ (edits ∷ [])))) tiles [] =
    option_and_then (λ side. option_map (λ demo. Demonstrate demo) (demo_of points profiles number edits side))
    (tile_of tiles)
demo_form_by _ _ _ = None

-- `demo W H NUMBER EDITS` has four names, each of them a count, and may have `--tile`
abbrev pub demo_form : Given → Option Request
demo_form given = demo_form_by given.names given.tiles given.saves

-- what the command of a name asks for, by what is given
abbrev pub form_named : List ℕ → Given → Option Request
form_named name given =
    if bytes_eq name (codes "dales") then dales_form given
    else if bytes_eq name (codes "run") then run_form given
    else if bytes_eq name (codes "check") then check_form given
    else if bytes_eq name (codes "demo") then demo_form given
    else None

-- what the words ask for, where they have their form
abbrev pub form_of : List (List ℕ) → Option Request
form_of [] = None
form_of (name ∷ words) = option_and_then (form_named name) (given_of Options words)
