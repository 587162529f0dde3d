-- The form of words, by what they give.
use Rattle.std.proofs.Common.{◌≡◌, ◌∙◌, ◌≤◌, ◌&&◌, ℕ, Bool, true, false, refl, sym, ap, arith, List, [], ◌∷◌, length, Option, Some, None, codes, nat_eq, if◌then◌else◌}
use Rattle.std.specs.Prelude.{slice_get}
use Rattle.std.specs.Option.{option_map, option_and_then, option_to_list}
use Rattle.std.specs.Str.{bytes_eq}
use Rattle.hd_num.specs.Whole.{is_numeral}
use Rattle.hd_words.specs.CommandLines.{form_by, ids_of}
use Rattle.hd_words.specs.Demo.{demo_of}
use Rattle.hd_words.specs.Limits.{usual_tile}
use Rattle.hd_words.specs.Forms.{check_form, check_form_by, dales_form, dales_form_by, demo_form, demo_form_by, filled, form_named, form_of, run_form, run_form_by, savable, save_of, tile_of}
use Rattle.hd_words.specs.GivenWords.{Given, begins_with_dash, given_of}
use Rattle.hd_words.specs.Requests.{Request, Run as RunOf, Check as CheckOf, Demonstrate as DemoOf}
use Rattle.hd_words.specs.WordSteps.{HasNoForm}
use Rattle.hd_words.specs.declared.command_lines.CommandLine.{CommandLine}
use Rattle.hd_words.specs.declared.command_lines.CommandLine.TheVariants.{Dales, Run, Check}
use Rattle.hd_words.specs.declared.demo.Demo.{Demo}
use Rattle.hd_words.specs.declared.found.Stage.TheVariants.{Options}
use Rattle.hd_words.proofs.ParsedWords.{ArePlain, Fits}
use Rattle.hd_words.proofs.StartsWith.{nat_eq-decides}

pub option_and_then-some : {X Y : Type 0} (o : Option X) (f : X → Option Y) (y : Y) → option_and_then f o ≡ Some y → (x : X) × (o ≡ Some x) × (f x ≡ Some y)
option_and_then-some None f y is = absurd (cc)
option_and_then-some (Some x) f y is = (x, refl, is)

pub option_map-some : {X Y : Type 0} (o : Option X) (f : X → Y) (y : Y) → option_map f o ≡ Some y → (x : X) × (o ≡ Some x) × (f x ≡ y)
option_map-some None f y is = absurd (cc)
option_map-some (Some x) f y is =
    let same : f x ≡ y = cc in
    (x, refl, same)

-- a name that is not empty is itself
filled_is : (name text : List ℕ) → filled name ≡ Some text → text ≡ name
filled_is [] text is = absurd (cc)
filled_is (byte ∷ bytes) text is = cc

-- ---- the form of the words, by what they give

-- words that give this have the form that it has
pub form_of-formed : (words : List (List ℕ)) (name : List ℕ) (rest : List (List ℕ)) (given : Given) → words ≡ name ∷ rest → given_of Options rest ≡ Some given → form_of words ≡ form_named name given
form_of-formed words name rest given are gives = ap form_of are ∙ ap (option_and_then (form_named name)) gives

-- words that no command has
pub form_of-unformed : (words : List (List ℕ)) (name : List ℕ) (rest : List (List ℕ)) → words ≡ name ∷ rest → HasNoForm (given_of Options rest) → form_of words ≡ None
form_of-unformed words name rest are lacks = ap form_of are ∙ none (given_of Options rest) lacks
  where
    none : (given : Option Given) → HasNoForm given → option_and_then (form_named name) given ≡ None
    none None h = refl
    none (Some g) h = go (bytes_eq name (codes "dales")) (bytes_eq name (codes "run")) (bytes_eq name (codes "check")) (bytes_eq name (codes "demo"))
      where
        go : (dales run check demo : Bool) → (if dales then dales_form g else if run then run_form g else if check then check_form g else if demo then demo_form g else None) ≡ None
        go true run check demo = h.dales
        go false true check demo = h.run
        go false false true demo = h.check
        go false false false true = h.demo
        go false false false false = refl

-- ---- what each form says of what is given

second_true : (a b : Bool) → (a && b) ≡ true → b ≡ true
second_true true b e = e
second_true false b e = absurd (cc)

numeral_plain : (word : List ℕ) → is_numeral word ≡ true → begins_with_dash word ≡ false
numeral_plain [] is = refl
numeral_plain (byte ∷ bytes) is = go (nat_eq byte 45) refl
  where
    go : (dash : Bool) → nat_eq byte 45 ≡ dash → nat_eq byte 45 ≡ false
    go false e = e
    go true e =
        let wrong : false ≡ true = second_true _ _ (rw ((nat_eq-decides byte 45).0 e) at is) in
        absurd (cc)

first_true : (a b c d : Bool) → (a && b && c && d) ≡ true → a ≡ true
first_true true b c d e = refl
first_true false b c d e = absurd (cc)

if_some : (b : Bool) (x y : ℕ) → (if b then Some x else None) ≡ Some y → b ≡ true
if_some true x y is = refl
if_some false x y is = absurd (cc)

-- at most one value, which is no option
pub record IsOne (values : List (List ℕ)) : Type 0 where
  pub few : length values ≤ 1
  pub plain : ArePlain values
  pub alone : values ≡ option_to_list (slice_get values 0)

pub tile_of-one : (tiles : List (List ℕ)) (side : ℕ) → tile_of tiles ≡ Some side → IsOne tiles
tile_of-one [] side is = record { few = omega arith; plain = tt; alone = refl }
tile_of-one (value ∷ []) side is = record { few = omega arith; plain = (numeral_plain value (first_true _ _ _ _ (if_some _ _ side is)), tt); alone = refl }
tile_of-one (value ∷ (other ∷ more)) side is = absurd (cc)

savable_is : (value name : List ℕ) → savable value ≡ Some name → (begins_with_dash value ≡ false) × (name ≡ value)
savable_is value name is = go (begins_with_dash value) refl is
  where
    go : (dash : Bool) → begins_with_dash value ≡ dash → (if dash then None else filled value) ≡ Some name → (begins_with_dash value ≡ false) × (name ≡ value)
    go true e wrong = absurd (cc)
    go false e found = (e, filled_is value name found)

save_given : (saves : List (List ℕ)) (save : Option (List ℕ)) → save_of saves ≡ Some save → IsOne saves × (save ≡ slice_get saves 0)
save_given [] save is =
    let none : save ≡ None = cc in
    (record { few = omega arith; plain = tt; alone = refl }, none)
save_given (value ∷ []) save is =
    let (name, found, same) = option_map-some (savable value) (λ name. Some name) save is in
    let (plain, name_is) = savable_is value name found in
    (record { few = omega arith; plain = (plain, tt); alone = refl }, sym same ∙ ap Some name_is)
save_given (value ∷ (other ∷ more)) save is = absurd (cc)

pub RunOf-same : (a a' b b' : List ℕ) (side : ℕ) (s s' : Option (List ℕ)) → a ≡ a' → b ≡ b' → s ≡ s'
    → RunOf (record { surface = a; script = Some b; tile = side; save = s }) ≡ RunOf (record { surface = a'; script = Some b'; tile = side; save = s' })
RunOf-same a a' b b' side s s' p q r = rw (p, q, r) refl

pub CheckOf-same : (a a' b b' : List ℕ) → a ≡ a' → b ≡ b' → CheckOf (record { surface = a; certificate = b }) ≡ CheckOf (record { surface = a'; certificate = b' })
CheckOf-same a a' b b' p q = rw (p, q) refl

-- the words of `dales` give one name
pub record DalesFound (names tiles saves : List (List ℕ)) (request : Request) : Type 0 where
  pub surface : List ℕ
  pub names_are : names ≡ surface ∷ []
  pub tiles_are : tiles ≡ []
  pub saves_are : saves ≡ []
  pub request_is : request ≡ RunOf (record { surface = surface; script = None; tile = usual_tile; save = None })

pub DalesFound-form : (names tiles saves : List (List ℕ)) (request : Request) → dales_form_by names tiles saves ≡ Some request → DalesFound names tiles saves request
DalesFound-form [] tiles saves request is = absurd (cc)
DalesFound-form (surface ∷ []) [] [] request is =
    let (name, found, same) = option_map-some (filled surface) _ request is in
    let name_is = filled_is surface name found in
    record {
      surface = surface;
      names_are = refl;
      tiles_are = refl;
      saves_are = refl;
      request_is = sym same
          ∙ ap (λ (n : List ℕ). RunOf (record { surface = n; script = None; tile = usual_tile; save = None })) name_is;
    }
DalesFound-form (surface ∷ []) (tile ∷ tiles) saves request is = absurd (cc)
DalesFound-form (surface ∷ []) [] (save ∷ saves) request is = absurd (cc)
DalesFound-form (surface ∷ (other ∷ names)) tiles saves request is = absurd (cc)

-- the words of `run` give two names, and at most one value of each option
pub record RunFound (names tiles saves : List (List ℕ)) (request : Request) : Type 0 where
  pub surface : List ℕ
  pub script : List ℕ
  pub side : ℕ
  pub names_are : names ≡ surface ∷ script ∷ []
  pub tile_is : tile_of tiles ≡ Some side
  pub save_is : IsOne saves
  pub request_is : request ≡ RunOf (record { surface = surface; script = Some script; tile = side; save = slice_get saves 0 })

pub RunFound-form : (names tiles saves : List (List ℕ)) (request : Request) → run_form_by names tiles saves ≡ Some request → RunFound names tiles saves request
RunFound-form [] tiles saves request is = absurd (cc)
RunFound-form (surface ∷ []) tiles saves request is = absurd (cc)
RunFound-form (surface ∷ (script ∷ (other ∷ names))) tiles saves request is = absurd (cc)
RunFound-form (surface ∷ (script ∷ [])) tiles saves request is =
    let (first, first_found, after_first) = option_and_then-some (filled surface) _ request is in
    let (second, second_found, after_second) = option_and_then-some (filled script) _ request after_first in
    let (side, side_found, after_side) = option_and_then-some (tile_of tiles) _ request after_second in
    let (save, save_found, same) = option_map-some (save_of saves) _ request after_side in
    let (one, save_is) = save_given saves save save_found in
    let first_is = filled_is surface first first_found in
    let second_is = filled_is script second second_found in
    let all = RunOf-same first surface second script side save (slice_get saves 0) first_is second_is save_is in
    record { surface = surface; script = script; side = side; names_are = refl; tile_is = side_found; save_is = one; request_is = sym same ∙ all }

-- the words of `check` give two names
pub record CheckFound (names tiles saves : List (List ℕ)) (request : Request) : Type 0 where
  pub surface : List ℕ
  pub certificate : List ℕ
  pub names_are : names ≡ surface ∷ certificate ∷ []
  pub tiles_are : tiles ≡ []
  pub saves_are : saves ≡ []
  pub request_is : request ≡ CheckOf (record { surface = surface; certificate = certificate })

pub CheckFound-form : (names tiles saves : List (List ℕ)) (request : Request) → check_form_by names tiles saves ≡ Some request → CheckFound names tiles saves request
CheckFound-form [] tiles saves request is = absurd (cc)
CheckFound-form (surface ∷ []) tiles saves request is = absurd (cc)
CheckFound-form (surface ∷ (certificate ∷ (other ∷ names))) tiles saves request is = absurd (cc)
CheckFound-form (surface ∷ (certificate ∷ [])) (tile ∷ tiles) saves request is = absurd (cc)
CheckFound-form (surface ∷ (certificate ∷ [])) [] (save ∷ saves) request is = absurd (cc)
CheckFound-form (surface ∷ (certificate ∷ [])) [] [] request is =
    let (first, first_found, after_first) = option_and_then-some (filled surface) _ request is in
    let (second, second_found, same) = option_map-some (filled certificate) _ request after_first in
    let first_is = filled_is surface first first_found in
    let second_is = filled_is certificate second second_found in
    let all = CheckOf-same first surface second certificate first_is second_is in
    record { surface = surface; certificate = certificate; names_are = refl; tiles_are = refl; saves_are = refl; request_is = sym same ∙ all }

-- the words of `demo` give four names, and at most one value of `--tile`
pub record DemoFound (names tiles saves : List (List ℕ)) (request : Request) : Type 0 where
  pub points : List ℕ
  pub profiles : List ℕ
  pub number : List ℕ
  pub edits : List ℕ
  pub side : ℕ
  pub demo : Demo
  pub names_are : names ≡ points ∷ profiles ∷ number ∷ edits ∷ []
  pub tile_is : tile_of tiles ≡ Some side
  pub saves_are : saves ≡ []
  pub demo_is : demo_of points profiles number edits side ≡ Some demo
  pub request_is : request ≡ DemoOf demo

pub DemoFound-form : (names tiles saves : List (List ℕ)) (request : Request) → demo_form_by names tiles saves ≡ Some request → DemoFound names tiles saves request
DemoFound-form [] tiles saves request is = absurd (cc)
DemoFound-form (points ∷ []) tiles saves request is = absurd (cc)
DemoFound-form (points ∷ (profiles ∷ [])) tiles saves request is = absurd (cc)
DemoFound-form (points ∷ (profiles ∷ (number ∷ []))) tiles saves request is = absurd (cc)
DemoFound-form (points ∷ (profiles ∷ (number ∷ (edits ∷ (other ∷ names))))) tiles saves request is = absurd (cc)
DemoFound-form (points ∷ (profiles ∷ (number ∷ (edits ∷ [])))) tiles (save ∷ saves) request is = absurd (cc)
DemoFound-form (points ∷ (profiles ∷ (number ∷ (edits ∷ [])))) tiles [] request is =
    let (side, side_found, after_side) = option_and_then-some (tile_of tiles) _ request is in
    let (demo, found, same) = option_map-some (demo_of points profiles number edits side) _ request after_side in
    record {
      points = points;
      profiles = profiles;
      number = number;
      edits = edits;
      side = side;
      demo = demo;
      names_are = refl;
      tile_is = side_found;
      saves_are = refl;
      demo_is =
          found;
      request_is = sym same;
    }

-- ---- how much is given

-- how many values of `--tile` and of `--save` a command line may have
abbrev pub tiles_of : CommandLine → ℕ
tiles_of Dales = 0
tiles_of Run = 1
tiles_of Check = 0

abbrev pub saves_of : CommandLine → ℕ
saves_of Run = 1
saves_of _ = 0

none_given : (values : List (List ℕ)) → values ≡ [] → (length values ≤ 0) × ArePlain values
none_given [] is = (omega arith, tt)
none_given (value ∷ values) is = absurd (cc)

-- a command line's words give no more than it has arguments
pub form_by-fits : (line : CommandLine) (given : Given) (request : Request) → form_by line given ≡ Some request → Fits (ids_of line) (tiles_of line) (saves_of line) given
form_by-fits Dales given request is =
    let found = DalesFound-form given.names given.tiles given.saves request is in
    let tiles = none_given given.tiles found.tiles_are in
    let saves = none_given given.saves found.saves_are in
    record { names = omega (arith, ap length found.names_are); tile_count = tiles.0; save_count = saves.0; tile_values = tiles.1; save_values = saves.1 }
form_by-fits Run given request is =
    let found = RunFound-form given.names given.tiles given.saves request is in
    let tiles = tile_of-one given.tiles found.side found.tile_is in
    record { names = omega (arith, ap length found.names_are); tile_count = tiles.few; save_count = found.save_is.few; tile_values = tiles.plain; save_values = found.save_is.plain }
form_by-fits Check given request is =
    let found = CheckFound-form given.names given.tiles given.saves request is in
    let tiles = none_given given.tiles found.tiles_are in
    let saves = none_given given.saves found.saves_are in
    record { names = omega (arith, ap length found.names_are); tile_count = tiles.0; save_count = saves.0; tile_values = tiles.1; save_values = saves.1 }
