-- What is given after the command: the names, and the values of options.
use Rattle.std.specs.Prelude.{ℕ, Bool, false, List, [], ◌∷◌, drop, Option, Some, None, codes, nat_eq, if◌then◌else◌}
use Rattle.std.specs.Option.{option_map}
use Rattle.std.specs.List.{starts_with}
use Rattle.std.specs.Str.{bytes_eq}
use Rattle.hd_words.specs.declared.found.Stage.{Stage}
use Rattle.hd_words.specs.declared.found.Stage.TheVariants.{Options, TileValue, SaveValue, Names}

-- the names among the words after the command, and the values of `--tile` and of `--save`
pub record Given : Type 0 where
  pub names : List (List ℕ)
  pub tiles : List (List ℕ)
  pub saves : List (List ℕ)

abbrev pub with_name : List ℕ → Option Given → Option Given
with_name word given =
    option_map (λ g. record { names = word ∷ g.names; tiles = g.tiles; saves = g.saves }) given

abbrev pub with_tile : List ℕ → Option Given → Option Given
with_tile value given =
    option_map (λ g. record { names = g.names; tiles = value ∷ g.tiles; saves = g.saves }) given

abbrev pub with_save : List ℕ → Option Given → Option Given
with_save value given =
    option_map (λ g. record { names = g.names; tiles = g.tiles; saves = value ∷ g.saves }) given

-- whether a word begins with `-`
abbrev pub begins_with_dash : List ℕ → Bool
begins_with_dash [] = false
begins_with_dash (byte ∷ bytes) = nat_eq byte 45

-- the words after the command, read from left to right. The word `--` ends the options; `--tile` and `--save` take
-- the next word as their value, `--tile=V` and `--save=V` take V; another word that begins with `-` is refused, and
-- each other word is a name
abbrev pub given_of : Stage → List (List ℕ) → Option Given
given_of Options [] = Some (record { names = []; tiles = []; saves = [] })
given_of Options (word ∷ words) =
    if bytes_eq word (codes "--") then given_of Names words
    else if bytes_eq word (codes "--tile") then given_of TileValue words
    else if bytes_eq word (codes "--save") then given_of SaveValue words
    else if starts_with nat_eq word (codes "--tile=") then with_tile (drop 7 word) (given_of Options words)
    else if starts_with nat_eq word (codes "--save=") then with_save (drop 7 word) (given_of Options words)
    else if begins_with_dash word then None
    else with_name word (given_of Options words)
given_of TileValue [] = None
given_of TileValue (value ∷ words) = with_tile value (given_of Options words)
given_of SaveValue [] = None
given_of SaveValue (value ∷ words) = with_save value (given_of Options words)
given_of Names words = Some (record { names = words; tiles = []; saves = [] })
