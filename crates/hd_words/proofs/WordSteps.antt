-- What is given before and later, and words that have no form.
use Rattle.std.proofs.Common.{◌≡◌, ℕ, true, false, List, [], ◌∷◌, ◌++◌, length, Option, Some, None, codes, nat_eq, refl, append_assoc, arith}
use Rattle.std.specs.List.{starts_with}
use Rattle.std.specs.Option.{option_and_then}
use Rattle.hd_words.specs.Forms.{dales_form_by, run_form_by, check_form_by, demo_form_by, tile_of}
use Rattle.hd_words.specs.GivenWords.{Given, given_of, with_name, with_tile, with_save, begins_with_dash}
use Rattle.hd_words.specs.WordSteps.{HasNoForm, IsNoOptionAlone, followed_by}
use Rattle.hd_words.specs.declared.found.Stage.TheVariants.{Options}

two_tiles-dales : (names saves : List (List ℕ)) (first second : List ℕ) (more : List (List ℕ)) → dales_form_by names (first ∷ (second ∷ more)) saves ≡ None
two_tiles-dales [] saves first second more = refl
two_tiles-dales (name ∷ []) saves first second more = refl
two_tiles-dales (name ∷ (other ∷ names)) saves first second more = refl

two_tiles-run : (names saves : List (List ℕ)) (first second : List ℕ) (more : List (List ℕ)) → run_form_by names (first ∷ (second ∷ more)) saves ≡ None
two_tiles-run [] saves first second more = refl
two_tiles-run (name ∷ []) saves first second more = refl
two_tiles-run ([] ∷ (script ∷ [])) saves first second more = refl
two_tiles-run ((byte ∷ bytes) ∷ ([] ∷ [])) saves first second more = refl
two_tiles-run ((byte ∷ bytes) ∷ ((letter ∷ letters) ∷ [])) saves first second more = refl
two_tiles-run (name ∷ (script ∷ (other ∷ names))) saves first second more = refl

two_saves-dales : (names tiles : List (List ℕ)) (first second : List ℕ) (more : List (List ℕ)) → dales_form_by names tiles (first ∷ (second ∷ more)) ≡ None
two_saves-dales [] tiles first second more = refl
two_saves-dales (name ∷ []) [] first second more = refl
two_saves-dales (name ∷ []) (tile ∷ tiles) first second more = refl
two_saves-dales (name ∷ (other ∷ names)) tiles first second more = refl

two_tiles-check : (names saves : List (List ℕ)) (first second : List ℕ) (more : List (List ℕ)) → check_form_by names (first ∷ (second ∷ more)) saves ≡ None
two_tiles-check [] saves first second more = refl
two_tiles-check (name ∷ []) saves first second more = refl
two_tiles-check (name ∷ (other ∷ [])) saves first second more = refl
two_tiles-check (name ∷ (other ∷ (third ∷ names))) saves first second more = refl

two_saves-check : (names tiles : List (List ℕ)) (first second : List ℕ) (more : List (List ℕ)) → check_form_by names tiles (first ∷ (second ∷ more)) ≡ None
two_saves-check [] tiles first second more = refl
two_saves-check (name ∷ []) tiles first second more = refl
two_saves-check (name ∷ (other ∷ [])) [] first second more = refl
two_saves-check (name ∷ (other ∷ [])) (tile ∷ tiles) first second more = refl
two_saves-check (name ∷ (other ∷ (third ∷ names))) tiles first second more = refl

two_tiles-demo : (names saves : List (List ℕ)) (first second : List ℕ) (more : List (List ℕ)) → demo_form_by names (first ∷ (second ∷ more)) saves ≡ None
two_tiles-demo [] saves first second more = refl
two_tiles-demo (one ∷ []) saves first second more = refl
two_tiles-demo (one ∷ (two ∷ [])) saves first second more = refl
two_tiles-demo (one ∷ (two ∷ (three ∷ []))) saves first second more = refl
two_tiles-demo (one ∷ (two ∷ (three ∷ (four ∷ [])))) [] first second more = refl
two_tiles-demo (one ∷ (two ∷ (three ∷ (four ∷ [])))) (save ∷ saves) first second more = refl
two_tiles-demo (one ∷ (two ∷ (three ∷ (four ∷ (five ∷ names))))) saves first second more = refl

two_saves-demo : (names tiles : List (List ℕ)) (first second : List ℕ) (more : List (List ℕ)) → demo_form_by names tiles (first ∷ (second ∷ more)) ≡ None
two_saves-demo [] tiles first second more = refl
two_saves-demo (one ∷ []) tiles first second more = refl
two_saves-demo (one ∷ (two ∷ [])) tiles first second more = refl
two_saves-demo (one ∷ (two ∷ (three ∷ []))) tiles first second more = refl
two_saves-demo (one ∷ (two ∷ (three ∷ (four ∷ [])))) tiles first second more = refl
two_saves-demo (one ∷ (two ∷ (three ∷ (four ∷ (five ∷ names))))) tiles first second more = refl

none_then : {X Y : Type 0} (r : Option X) (f : X → Option Y) → ((x : X) → f x ≡ None) → option_and_then f r ≡ None
none_then None f h = refl
none_then (Some x) f h = h x

two_saves-run : (names tiles : List (List ℕ)) (first second : List ℕ) (more : List (List ℕ)) → run_form_by names tiles (first ∷ (second ∷ more)) ≡ None
two_saves-run [] tiles first second more = refl
two_saves-run (name ∷ []) tiles first second more = refl
two_saves-run ([] ∷ (script ∷ [])) tiles first second more = refl
two_saves-run ((byte ∷ bytes) ∷ ([] ∷ [])) tiles first second more = refl
two_saves-run ((byte ∷ bytes) ∷ ((letter ∷ letters) ∷ [])) tiles first second more = none_then (tile_of tiles) _ (λ side. refl)
two_saves-run (name ∷ (script ∷ (other ∷ names))) tiles first second more = refl

-- a second value of `--tile` has no form
pub with_tile-full : (names saves : List (List ℕ)) (first value : List ℕ) (later : Option Given)
    → HasNoForm (followed_by (record { names = names; tiles = first ∷ []; saves = saves }) (with_tile value later))
with_tile-full names saves first value None = record { dales = refl; run = refl; check = refl; demo = refl }
with_tile-full names saves first value (Some g) = record {
  dales = two_tiles-dales (names ++ g.names) (saves ++ g.saves) first value g.tiles;
  run = two_tiles-run (names
      ++ g.names) (saves ++ g.saves) first value g.tiles;
  check = two_tiles-check (names ++ g.names) (saves ++ g.saves) first value g.tiles;
  demo = two_tiles-demo (names ++ g.names)
      (saves ++ g.saves) first value g.tiles;
}

-- a second value of `--save` has no form
pub with_save-full : (names tiles : List (List ℕ)) (first value : List ℕ) (later : Option Given)
    → HasNoForm (followed_by (record { names = names; tiles = tiles; saves = first ∷ [] }) (with_save value later))
with_save-full names tiles first value None = record { dales = refl; run = refl; check = refl; demo = refl }
with_save-full names tiles first value (Some g) = record {
  dales = two_saves-dales (names ++ g.names) (tiles ++ g.tiles) first value g.saves;
  run = two_saves-run (names
      ++ g.names) (tiles ++ g.tiles) first value g.saves;
  check = two_saves-check (names ++ g.names) (tiles ++ g.tiles) first value g.saves;
  demo = two_saves-demo (names ++ g.names)
      (tiles ++ g.tiles) first value g.saves;
}

pub with_tile-first : (names saves : List (List ℕ)) (value : List ℕ) (later : Option Given)
    → followed_by (record { names = names; tiles = []; saves = saves }) (with_tile value later) ≡ followed_by (record { names = names; tiles = value ∷ []; saves = saves }) later
with_tile-first names saves value None = refl
with_tile-first names saves value (Some g) = refl

pub with_save-first : (names tiles : List (List ℕ)) (value : List ℕ) (later : Option Given)
    → followed_by (record { names = names; tiles = tiles; saves = [] }) (with_save value later) ≡ followed_by (record { names = names; tiles = tiles; saves = value ∷ [] }) later
with_save-first names tiles value None = refl
with_save-first names tiles value (Some g) = refl

five_names : (names tiles saves : List (List ℕ)) (name : List ℕ) (later : Option Given) → length names ≡ 4
    → HasNoForm (followed_by (record { names = names; tiles = tiles; saves = saves }) (with_name name later))
five_names names tiles saves name None four = record { dales = refl; run = refl; check = refl; demo = refl }
five_names [] tiles saves name (Some g) four = absurd (omega arith)
five_names (one ∷ []) tiles saves name (Some g) four = absurd (omega arith)
five_names (one ∷ (two ∷ [])) tiles saves name (Some g) four = absurd (omega arith)
five_names (one ∷ (two ∷ (three ∷ []))) tiles saves name (Some g) four = absurd (omega arith)
five_names (one ∷ (two ∷ (three ∷ (fourth ∷ [])))) tiles saves name (Some g) four = record { dales = refl; run = refl; check = refl; demo = refl }
five_names (one ∷ (two ∷ (three ∷ (fourth ∷ (fifth ∷ names))))) tiles saves name (Some g) four = absurd (omega arith)

-- a fifth name has no form
pub with_name-full : (before : Given) (name : List ℕ) (later : Option Given) → length before.names ≡ 4 → HasNoForm (followed_by before (with_name name later))
with_name-full before name later four = five_names before.names before.tiles before.saves name later four

pub with_name-one : (before : Given) (name : List ℕ) (later : Option Given) → followed_by before (with_name name later)
    ≡ followed_by (record { names = before.names ++ (name ∷ []); tiles = before.tiles; saves = before.saves }) later
with_name-one before name None = refl
with_name-one before name (Some g) = rw (append_assoc before.names (name ∷ []) g.names) refl

-- a word that is no option
pub given_of-plain_word : (word : List ℕ) (words : List (List ℕ)) → IsNoOptionAlone word → starts_with nat_eq word (codes "--tile=") ≡ false
    → starts_with nat_eq word (codes "--save=") ≡ false → begins_with_dash word ≡ false
    → given_of Options (word ∷ words) ≡ with_name word (given_of Options words)
given_of-plain_word word words alone tile save dash = rw (alone.ends, alone.tile, alone.save, tile, save, dash) refl

-- another word that begins with `-` has no form
pub HasNoForm-refused : (before : Given) (word : List ℕ) (words : List (List ℕ)) → IsNoOptionAlone word → starts_with nat_eq word (codes "--tile=") ≡ false
    → starts_with nat_eq word (codes "--save=") ≡ false → begins_with_dash word ≡ true
    → HasNoForm (followed_by before (given_of Options (word ∷ words)))
HasNoForm-refused before word words alone tile save dash = rw (alone.ends, alone.tile, alone.save, tile, save, dash) (record { dales = refl; run = refl; check = refl; demo = refl })

pub followed_by-nothing : (given : Option Given) → given ≡ followed_by (record { names = []; tiles = []; saves = [] }) given
followed_by-nothing None = refl
followed_by-nothing (Some g) = refl
