-- A text behind a header, read on.
use Rattle.std.proofs.Common.{◌≡◌, ◌+◌, ◌-◌, ◌<◌, ℕ, ℤ, zero, suc, true, false, List, [], ◌∷◌, ◌++◌, length, get_or, Ok, Err, refl, sym, ap, ap₂, arith, ◌∙◌, length-append}
use Rattle.std.specs.Prelude.{Result}
use Rattle.std.specs.List.{list_any}
use Rattle.std.proofs.lemmas.Bool.{ne_eqb}
use Rattle.std.proofs.lemmas.List.{get_or_append_left}
use Rattle.hd_map.specs.declared.cells.Cells as packed
use Rattle.hd_map.specs.Cells.{cells_in}
use Rattle.hd_sdf_read.specs.declared.body.Body.{Body}
use Rattle.hd_sdf_read.specs.BodyOn.{FeedsBody, GoesOn, body_on}
use Rattle.hd_sdf_read.specs.PartTrailers.{trailer_in}
use Rattle.hd_sdf_read.specs.TokenPieces.{Ends}
use Rattle.hd_sdf_read.proofs.TokenCuts.{after_token-here, token_of-here}
use Rattle.hd_map.specs.declared.types.Cell.{Cell}
use Rattle.hd_map.specs.declared.types.DataType.{DataType}
use Rattle.hd_map.specs.declared.types.Size.{Size}
use Rattle.hd_map.specs.Map.{Map, cell_count, greatest_height, least_height}
use Rattle.hd_num.specs.Lines.{without_start}
use Rattle.hd_sdf_read.specs.declared.error.SdfError.{SdfError}
use Rattle.hd_sdf_read.specs.declared.error.SdfError.TheVariants.{TooFewData, TooManyData}
use Rattle.hd_sdf_read.specs.Bodies.{surveyed, trailed, whole_in, with_front}
use Rattle.hd_sdf_read.specs.Tokens.{is_gap, after_token, is_absent, is_star, token_of}
use Rattle.hd_sdf_read.specs.Grammar.{Cells, cells_from, datum_at, map_with, mapped, trailer_of, whole_map}
use Rattle.hd_sdf_read.specs.Keys.{has_decimals}
use Rattle.hd_sdf_read.specs.Reads.{◌>>=◌}
use Rattle.hd_sdf_read.proofs.CellsFrom.{cells_from-done, cells_from-more, cells_from-stop}

-- the gaps at the front of a text say nothing
pub token_of-same : (a b : List ℕ) → without_start is_gap a ≡ without_start is_gap b → token_of a ≡ token_of b
unfolding token_of
token_of-same a b same = ap (λ t. Rattle.std.specs.List.before_first is_gap t) same

pub after_token-same : (a b : List ℕ) → without_start is_gap a ≡ without_start is_gap b → after_token a ≡ after_token b
unfolding after_token
after_token-same a b same = ap₂ (λ (t s : List ℕ). Rattle.std.specs.Prelude.drop (length t) s) (token_of-same a b same) same

trailer_same : (count : ℕ) (a b : List ℕ) → without_start is_gap a ≡ without_start is_gap b → trailer_of count a ≡ trailer_of count b
unfolding trailer_of
trailer_same count a b same = rw (token_of-same a b same, after_token-same a b same) refl

pub trailed-same : (size : Size) (map : Map) (a b : List ℕ) → without_start is_gap a ≡ without_start is_gap b
    → trailed size (record { map = map; rest = a }) ≡ trailed size (record { map = map; rest = b })
unfolding trailed
trailed-same size map a b same = rw (trailer_same (cell_count size) a b same) refl

module _ (size : Size) (t : DataType) (front : List Cell) where
  -- the next datum is read
  pub whole_in-step : (text rest : List ℕ) (cell : Cell) → length front < cell_count size → datum_at (least_height t) (greatest_height t) (length front) text ≡ Ok cell → rest ≡ after_token text
      → whole_in size t front text ≡ whole_in size t (front ++ cell ∷ []) rest
  unfolding whole_in
  whole_in-step text rest cell more found is =
      let step = cells_from-more (least_height t) (greatest_height t) (length front) (cell_count size) text rest front cell more found is in
      let count : length front + 1 ≡ length (front ++ cell ∷ []) = sym (length-append front (cell ∷ [])) in
      ap (λ r. (r >>= whole_map size t) >>= trailed size) (step ∙ ap (λ n. with_front (front ++ cell ∷ []) (cells_from (least_height t) (greatest_height t) n (cell_count size - n) rest)) count)

  -- or is missing or wrong
  pub whole_in-stop : (text : List ℕ) (e : SdfError) → length front < cell_count size → datum_at (least_height t) (greatest_height t) (length front) text ≡ Err e → whole_in size t front text ≡ Err e
  unfolding whole_in
  whole_in-stop text e more wrong =
      ap (λ r. (r >>= whole_map size t) >>= trailed size) (cells_from-stop (least_height t) (greatest_height t) (length front) (cell_count size) text front e more wrong)

  -- all data are read
  pub whole_in-done : (text : List ℕ) → length front ≡ cell_count size → whole_in size t front text ≡ trailed size (record { map = map_with size t front; rest = text })
  unfolding whole_in
  whole_in-done text all =
      ap (λ r. (r >>= whole_map size t) >>= trailed size) (cells_from-done (least_height t) (greatest_height t) (length front) (cell_count size) text front (omega (arith, all)))

-- no cells before others
front_none : (read : Result Cells SdfError) → with_front [] read ≡ read
front_none (Ok more) = refl
front_none (Err e) = refl

-- no datum is read yet
pub whole_in-first : (size : Size) (t : DataType) (text : List ℕ) → has_decimals t ≡ false → surveyed size t text ≡ whole_in size t [] text
unfolding surveyed whole_in mapped
whole_in-first size t text type =
    let all : cell_count size - 0 ≡ cell_count size = omega arith in
    rw type (ap (λ r. (r >>= whole_map size t) >>= trailed size)
    (sym (ap (λ n. with_front [] (cells_from (least_height t) (greatest_height t) 0 n text)) all ∙ front_none (cells_from (least_height t) (greatest_height t) 0 (cell_count size) text))))

-- the gaps at the front of a text say nothing of its data
pub datum_at-same : (least greatest : ℤ) (read : ℕ) (a b : List ℕ) → without_start is_gap a ≡ without_start is_gap b → datum_at least greatest read a ≡ datum_at least greatest read b
unfolding datum_at
datum_at-same least greatest read a b same = rw (token_of-same a b same) refl

cells_same : (size : Size) (t : DataType) (front : List Cell) (read missing : ℕ) (a b : List ℕ) → without_start is_gap a ≡ without_start is_gap b
    → ((with_front front (cells_from (least_height t) (greatest_height t) read missing a) >>= whole_map size t) >>= trailed size)
    ≡ ((with_front front (cells_from (least_height t) (greatest_height t) read missing b) >>= whole_map size t) >>= trailed size)
unfolding cells_from
cells_same size t front read zero a b same = trailed-same size (map_with size t (front ++ [])) a b same
cells_same size t front read (suc missing) a b same = rw (datum_at-same (least_height t) (greatest_height t) read a b same, after_token-same a b same) refl

pub whole_in-same : (size : Size) (t : DataType) (front : List Cell) (a b : List ℕ) → without_start is_gap a ≡ without_start is_gap b → whole_in size t front a ≡ whole_in size t front b
unfolding whole_in
whole_in-same size t front a b same = cells_same size t front (length front) (cell_count size - length front) a b same

-- nothing follows, where data are missing
pub whole_in-nothing : (size : Size) (t : DataType) (front : List Cell) → length front < cell_count size → whole_in size t front [] ≡ Err (TooFewData (length front))
unfolding datum_at token_of
whole_in-nothing size t front missing = whole_in-stop size t front [] (TooFewData (length front)) missing refl

-- nothing follows all data
pub trailed-nothing : (size : Size) (map : Map) → trailed size (record { map = map; rest = [] }) ≡ Ok (record { map = map; trailer = [] })
unfolding trailed trailer_of token_of
trailed-nothing size map = refl

module _ (size : Size) (map : Map) (word rest : List ℕ) (some : 0 < length word) (gapless : list_any is_gap word ≡ false) (ends : Ends rest) where
  end_filled : is_absent word ≡ false
  end_filled = ne_eqb (length word) 0 (λ none. omega (arith, none, some))

  -- the data end
  pub trailed-star : is_star word ≡ true → trailed size (record { map = map; rest = word ++ rest }) ≡ (trailer_in rest >>= (λ text. Ok (record { map = map; trailer = text })))
  unfolding trailed trailer_of
  trailed-star star = rw (token_of-here word rest some gapless ends, after_token-here word rest some gapless ends, end_filled, star) refl

  -- or go on
  pub trailed-many : is_star word ≡ false → trailed size (record { map = map; rest = word ++ rest }) ≡ Err (TooManyData (cell_count size + 1))
  unfolding trailed trailer_of
  trailed-many other = rw (token_of-here word rest some gapless ends, end_filled, other) refl

-- a gap begins a text, with more behind it
pub Ends-more : (rest more : List ℕ) → 0 < length rest → is_gap (get_or rest 0 0) ≡ true → Ends (rest ++ more)
Ends-more rest more some gap = λ _. ap is_gap (get_or_append_left rest more 0 0 some) ∙ gap

pub Ends-none : Ends []
Ends-none = λ none. absurd (omega arith)

-- what is read on is what is read on from a later place
pub FeedsBody-from : (old mid : Body) (text rest : List ℕ) (result : Result Body SdfError) → ((more : List ℕ) → body_on old (text ++ more) ≡ body_on mid (rest ++ more))
    → FeedsBody mid rest result → FeedsBody old text result
FeedsBody-from old mid text rest (Ok new) same fed = λ more. same more ∙ fed more
FeedsBody-from old mid text rest (Err e) same fed = λ refused more. same more ∙ fed refused more

pub GoesOn-from : (size : Size) (cells : packed.Cells) (mid : Body) (text rest : List ℕ) (result : Result Body SdfError)
    → ((more : List ℕ) → whole_in size cells.data_type (cells_in cells) (text ++ more) ≡ body_on mid (rest ++ more)) → FeedsBody mid rest result → GoesOn size cells text result
GoesOn-from size cells mid text rest (Ok new) same fed = λ more. same more ∙ fed more
GoesOn-from size cells mid text rest (Err e) same fed = λ refused more. same more ∙ fed refused more

pub FeedsBody-on : (size : Size) (cells : packed.Cells) (old : Body) (text rest : List ℕ) (result : Result Body SdfError)
    → ((more : List ℕ) → body_on old (text ++ more) ≡ whole_in size cells.data_type (cells_in cells) (rest ++ more)) → GoesOn size cells rest result → FeedsBody old text result
FeedsBody-on size cells old text rest (Ok new) same on = λ more. same more ∙ on more
FeedsBody-on size cells old text rest (Err e) same on = λ refused more. same more ∙ on refused more

-- no trailer
pub trailer_in-none : trailer_in [] ≡ Ok []
trailer_in-none = refl
