-- The words after the command, read one by one.
use Rattle.std.specs.Prelude.{◌≡◌, ◌++◌, ℕ, false, codes, bytes_eq, List, [], ◌∷◌, Option, None}
use Rattle.std.specs.Option.{option_copied, option_to_list, option_map, option_and_then}
use Rattle.hd_words.specs.Forms.{dales_form, run_form, check_form, demo_form}
use Rattle.hd_words.specs.GivenWords.{Given, given_of}
use Rattle.hd_words.specs.declared.found.FoundWords.{FoundWords}
use Rattle.hd_words.specs.declared.found.FoundNames.{FoundNames}
use Rattle.hd_words.specs.declared.found.FoundNames.TheVariants.{Zero, One, Two, Three, Four}
use Rattle.hd_words.specs.declared.found.Progress.{Progress}
use Rattle.hd_words.specs.declared.found.Stage.{Stage}

-- the names that were found
abbrev pub names_in : FoundNames → List (List ℕ)
names_in Zero = []
names_in (One first) = first.now ∷ []
names_in (Two first second) = first.now ∷ second.now ∷ []
names_in (Three first second third) = first.now ∷ second.now ∷ third.now ∷ []
names_in (Four first second third fourth) = first.now ∷ second.now ∷ third.now ∷ fourth.now ∷ []

-- what was found, as names and values of `--tile` and of `--save`
abbrev pub found_so_far : FoundWords → Given
found_so_far found = record {
  names = names_in found.names;
  tiles = option_to_list (option_copied found.tile);
  saves = option_to_list (option_copied found.save);
}

-- what was given before and later
abbrev pub both_given : Given → Given → Given
both_given before later = record {
  names = before.names ++ later.names;
  tiles = before.tiles ++ later.tiles;
  saves = before.saves ++ later.saves;
}

-- what was given before, and then what the later words give
abbrev pub followed_by : Given → Option Given → Option Given
followed_by before later = option_map (both_given before) later

-- at a stage, with what was found
abbrev pub at_stage : Stage → FoundWords → Progress
at_stage stage found = record { stage = stage; found = found }

-- what was found, and then what the words that are left give
abbrev pub given_after : Progress → List (List ℕ) → Option Given
given_after progress words = followed_by (found_so_far progress.found) (given_of progress.stage words)

-- the word is no option that stands alone, and does not end the options
pub record IsNoOptionAlone (word : List ℕ) : Type 0 where
  pub ends : bytes_eq word (codes "--") ≡ false
  pub tile : bytes_eq word (codes "--tile") ≡ false
  pub save : bytes_eq word (codes "--save") ≡ false

-- no command has such words
pub record HasNoForm (given : Option Given) : Type 0 where
  pub dales : option_and_then dales_form given ≡ None
  pub run : option_and_then run_form given ≡ None
  pub check : option_and_then check_form given ≡ None
  pub demo : option_and_then demo_form given ≡ None

-- with this word next there is no form, whatever the later words are
abbrev pub IsRefused : Progress → List ℕ → Type 0
IsRefused progress word = (words : List (List ℕ)) → HasNoForm (given_after progress (word ∷ words))

-- after this word the later words give, from next on, what the word and they give from progress on
abbrev pub LeadsTo : Progress → List ℕ → Progress → Type 0
LeadsTo progress word next =
    (words : List (List ℕ)) → given_after progress (word ∷ words) ≡ given_after next words
