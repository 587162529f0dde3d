-- Data that are cut anywhere, one after another.
use Rattle.std.proofs.Common.{◌≡◌, ◌+◌, ◌<◌, ℕ, ℤ, true, false, eqb, List, [], ◌∷◌, ◌++◌, length, Ok, Err, refl, sym, ap, ap₂, subst, arith, ◌∙◌, length-append}
use Rattle.std.proofs.lemmas.Bool.{eqb-true, ne_eqb}
use Rattle.std.proofs.lemmas.Bool.Decides.{nat_tests}
use Rattle.hd_map.specs.declared.cells.Cells as packed
use Rattle.hd_map.specs.declared.types.Cell.{Cell}
use Rattle.hd_map.specs.declared.types.DataType.{DataType}
use Rattle.hd_map.specs.declared.types.Size.{Size}
use Rattle.hd_map.specs.Cells.{cells_in}
use Rattle.hd_map.specs.Map.{IsCellOf, cell_count, greatest_height, least_height}
use Rattle.hd_sdf_read.specs.declared.error.SdfError.{SdfError}
use Rattle.hd_sdf_read.specs.declared.error.SdfError.TheVariants.{TooFewData}
use Rattle.hd_sdf_read.specs.Bodies.{whole_in}
use Rattle.hd_sdf_read.specs.WholeCut.{TakesWord}
use Rattle.std.specs.List.{list_any}
use Rattle.hd_sdf_read.specs.Tokens.{is_gap, after_token, is_absent, is_star, token_of}
use Rattle.hd_sdf_read.specs.Grammar.{cell_of, datum_at}
use Rattle.hd_sdf_read.specs.TokenPieces.{Ends}
use Rattle.hd_sdf_read.proofs.Bodies.{whole_in-step, whole_in-stop}
use Rattle.hd_sdf_read.proofs.DatumAt.{datum_at-by_token, datum_at-fits}
use Rattle.hd_sdf_read.proofs.TokenCuts.{after_token-here, after_token-stays, token_of-here, token_of-some, token_of-stays}

-- some bytes
pub length-filled : (text : List ℕ) → eqb (length text) 0 ≡ false → 0 < length text
length-filled [] some = let wrong : true ≡ false = some in cc
length-filled (x ∷ xs) some = omega arith

pub length-nothing : (text : List ℕ) → eqb (length text) 0 ≡ true → text ≡ []
length-nothing [] none = refl
length-nothing (x ∷ xs) none = let size = eqb-true (length (x ∷ xs)) 0 none in absurd (omega (arith, size))

-- the next datum, whatever follows the text
module _ (least greatest : ℤ) (read : ℕ) (text after : List ℕ) (after_is : after ≡ after_token text) (cut : 0 < length after) where
  left : 0 < length (after_token text)
  left = subst (λ (t : List ℕ). 0 < length t) after_is cut

  pub datum_at-stays : (more : List ℕ) → datum_at least greatest read (text ++ more) ≡ datum_at least greatest read text
  unfolding datum_at
  datum_at-stays more = rw (token_of-stays text more left) refl

  pub after_token-more : (more : List ℕ) → after ++ more ≡ after_token (text ++ more)
  after_token-more more = ap (λ (t : List ℕ). t ++ more) after_is ∙ sym (after_token-stays text more left)

  -- by its token
  module _ (token : List ℕ) (token_is : token ≡ token_of text) where
    token_filled : is_absent token ≡ false
    token_filled =
        let some : 0 < length token = subst (λ (t : List ℕ). 0 < length t) (sym token_is) (token_of-some text [] left) in
        grind (arith, nat_tests)

    pub datum_at-cut_star : is_star token ≡ true → (more : List ℕ) → datum_at least greatest read (text ++ more) ≡ Err (TooFewData read)
    unfolding datum_at
    datum_at-cut_star star more = datum_at-stays more ∙ rw (← token_is, token_filled, star) refl

    pub datum_at-cut_cell : is_star token ≡ false → (more : List ℕ) → datum_at least greatest read (text ++ more) ≡ cell_of least greatest (read + 1) token
    datum_at-cut_cell other more = datum_at-stays more ∙ datum_at-by_token least greatest read text token token_is token_filled other

-- so many cells are read, and what can still become stays
pub record HasOn (size : Size) (old : packed.Cells) (text : List ℕ) (new : packed.Cells) (rest : List ℕ) (read : ℕ) : Type 0 where
  pub same : (more : List ℕ) → whole_in size old.data_type (cells_in old) (text ++ more) ≡ whole_in size old.data_type (cells_in new) (rest ++ more)
  pub data_type : new.data_type ≡ old.data_type
  pub count : length (cells_in new) ≡ read

module _ (size : Size) (old : packed.Cells) (text : List ℕ) (new : packed.Cells) (rest : List ℕ) (read : ℕ) (has : HasOn size old text new rest read) (inside : read < cell_count size)
    (least greatest : ℤ) (low : least ≡ least_height old.data_type) (high : greatest ≡ greatest_height old.data_type) where
  at_place : (x : List ℕ) → datum_at (least_height old.data_type) (greatest_height old.data_type) (length (cells_in new)) x ≡ datum_at least greatest read x
  at_place x = rw (low, high, has.count) refl

  -- one more
  pub HasOn-another : (next : packed.Cells) (cell : Cell) (after : List ℕ) → cells_in next ≡ cells_in new ++ cell ∷ [] → next.data_type ≡ new.data_type
      → ((more : List ℕ) → (datum_at least greatest read (rest ++ more) ≡ Ok cell) × (after ++ more ≡ after_token (rest ++ more))) → HasOn size old text next after (read + 1)
  HasOn-another next cell after cells type given =
      let count = has.count in
      record {
        same = λ more.
            has.same more ∙ whole_in-step size old.data_type (cells_in new) (rest ++ more) (after ++ more) cell (omega (arith, count, inside)) (at_place (rest ++ more) ∙ (given more).0) (given more).1
            ∙ ap (λ (cs : List Cell). whole_in size old.data_type cs (after ++ more)) (sym cells);
        data_type = type ∙ has.data_type;
        count = ap length cells ∙ length-append (cells_in new) (cell ∷ []) ∙ ap (λ n. n + 1) count;
      }

  -- none
  pub HasOn-refused : (e : SdfError) → ((more : List ℕ) → datum_at least greatest read (rest ++ more) ≡ Err e) → (more : List ℕ) → whole_in size old.data_type (cells_in old) (text ++ more) ≡ Err e
  HasOn-refused e wrong more =
      let count = has.count in
      has.same more ∙ whole_in-stop size old.data_type (cells_in new) (rest ++ more) e (omega (arith, count, inside)) (at_place (rest ++ more) ∙ wrong more)

-- a whole token is one more whole number
module _ (size : Size) (old : packed.Cells) (word : List ℕ) (some : 0 < length word) (gapless : list_any is_gap word ≡ false) (missing : length (cells_in old) < cell_count size) where
  word_filled : is_absent word ≡ false
  word_filled = ne_eqb (length word) 0 (λ none. omega (arith, none, some))

  pub whole_in-star : is_star word ≡ true → (rest : List ℕ) → Ends rest → whole_in size old.data_type (cells_in old) (word ++ rest) ≡ Err (TooFewData (length (cells_in old)))
  unfolding datum_at
  whole_in-star star rest ends =
      let token = token_of-here word rest some gapless ends in
      whole_in-stop size old.data_type (cells_in old) (word ++ rest) (TooFewData (length (cells_in old))) missing (rw (token, word_filled, star) refl)

  module _ (least greatest : ℤ) (low : least ≡ least_height old.data_type) (high : greatest ≡ greatest_height old.data_type) (other : is_star word ≡ false) where
    word_cell : (rest : List ℕ) → Ends rest
        → datum_at (least_height old.data_type) (greatest_height old.data_type) (length (cells_in old)) (word ++ rest) ≡ cell_of least greatest (length (cells_in old) + 1) word
    word_cell rest ends =
        rw (low, high) (datum_at-by_token (least_height old.data_type) (greatest_height old.data_type) (length (cells_in old)) (word ++ rest) word
        (sym (token_of-here word rest some gapless ends)) word_filled other)

    pub TakesWord-taken : (new : packed.Cells) (cell : Cell) → Ok cell ≡ cell_of least greatest (length (cells_in old) + 1) word → cells_in new ≡ cells_in old ++ cell ∷ []
        → new.data_type ≡ old.data_type → TakesWord size old word new
    TakesWord-taken new cell found cells type = record {
      same = λ rest ends.
          whole_in-step size old.data_type (cells_in old) (word ++ rest) rest cell missing (word_cell rest ends ∙ sym found) (sym (after_token-here word rest some gapless ends))
          ∙ ap₂ (λ (t : DataType) (cs : List Cell). whole_in size t cs rest) (sym type) (sym cells);
      data_type = type;
      count = ap length cells ∙ length-append (cells_in old) (cell ∷ []);
    }

    pub whole_in-refused : (e : SdfError) → Err e ≡ cell_of least greatest (length (cells_in old) + 1) word → (rest : List ℕ) → Ends rest
        → whole_in size old.data_type (cells_in old) (word ++ rest) ≡ Err e
    whole_in-refused e wrong rest ends = whole_in-stop size old.data_type (cells_in old) (word ++ rest) e missing (word_cell rest ends ∙ sym wrong)

    pub cell_of-fits : (cell : Cell) → Ok cell ≡ cell_of least greatest (length (cells_in old) + 1) word → IsCellOf old.data_type cell
    cell_of-fits cell found =
        datum_at-fits old.data_type (least_height old.data_type) (greatest_height old.data_type) (length (cells_in old)) (word ++ []) cell refl refl
        (word_cell [] (λ none. absurd (omega arith)) ∙ sym found)
