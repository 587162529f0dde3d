-- The decimals of the canonical text are read as the cells that they write.
use Rattle.std.proofs.Common.{◌≡◌, ◌+◌, ◌-◌, ◌*◌, ◌^◌, ◌≤◌, ℕ, ℤ, pos, negsuc, int_lt, unsigned_abs, true, false, List, [], ◌∷◌, ◌++◌, length, map, cond}
use Rattle.std.proofs.Common.{Ok, refl, sym, ap, ap₂, arith, ◌∙◌, append_assoc, append-nil, ne_eqb, inl, inr}
use Rattle.std.specs.Prelude.{bytes_eq, codes}
use Rattle.std.specs.List.{list_any}
use Rattle.std.proofs.lemmas.Bool.{cases_Bool}
use Rattle.std.proofs.lemmas.Int.{ints}
use Rattle.std.proofs.lemmas.List.{map-append}
use Rattle.hd_map.specs.declared.types.Cell.{Cell}
use Rattle.hd_map.specs.declared.types.Cell.TheVariants.{Bad, Height}
use Rattle.hd_map.specs.declared.types.DataType.{DataType}
use Rattle.hd_map.specs.declared.types.DataType.TheVariants.{U8, U16, U32, I8, I16, I32, Single, Double}
use Rattle.hd_map.specs.Map.{IsCellOf, IsMap, Map, places_of}
use Rattle.hd_num.specs.Steps.{steps_decimal}
use Rattle.hd_num.specs.Whole.{signed_number}
use Rattle.hd_sdf_read.specs.declared.scaled.Datum.{Datum}
use Rattle.hd_sdf_read.specs.declared.scaled.Datum.TheVariants.{Measured, Unmeasured}
use Rattle.hd_sdf_read.specs.Decimals.{cells_at, data_with, datum_of, decimals_from, greatest_in, most_places, most_places_in, most_steps, ranged, size_of}
use Rattle.hd_sdf_read.specs.Keys.{has_decimals, with_places}
use Rattle.hd_sdf_read.specs.Tokens.{after_token, is_absent, is_star, token_of}
use Rattle.hd_sdf_read.proofs.DecimalFronts.{power_above-is, places_below-is}
use Rattle.hd_sdf_read.proofs.DecimalTokens.{decimal_of-apart, decimal_of-star, decimal_of-bad, data_with-token}
use Rattle.hd_sdf_read.proofs.Scaling.{ranged-in, with_places-again}
use Rattle.hd_sdf_read.proofs.TextFronts.{after_token-front, token_of-front}
use Rattle.hd_sdf_write.specs.Canonical.{cell_text, is_height, profile_lines, type_read}
use Rattle.hd_sdf_write.proofs.DataReadBack.{AllFit, Laid, AllFit-cells, IsToken-cell_text, Laid-profile_lines, gaps_after, decimal_of-cell_text}

-- the datum that the text of a cell is
abbrev pub datum_for : ℕ → Cell → Datum
datum_for p Bad = Unmeasured
datum_for p (Height h) = Measured (int_lt h (pos 0)) (unsigned_abs h) p

-- it is read from its token
datum_read : (t : DataType) (p number : ℕ) (cell : Cell) → places_of t ≡ p → p ≤ most_places → IsCellOf t cell → datum_of number (cell_text t cell) ≡ Ok (datum_for p cell)
datum_read t p number Bad is few fits = refl
datum_read t p number (Height h) is few fits =
    let decimal = decimal_of-cell_text t h (rw is few) fits in
    let bad : bytes_eq (cell_text t (Height h)) (codes "BAD") ≡ false = decimal_of-apart (codes "BAD") (cell_text t (Height h)) (steps_decimal h (places_of t)) decimal_of-bad decimal in
    rw (bad, decimal) (ap Ok (ap₂ (Measured (int_lt h (pos 0))) (power_above-is (unsigned_abs h) (places_of t)) (places_below-is (places_of t) ∙ is)))

-- a height by its sign and how far it is from 0
sign_back : (h : ℤ) → signed_number (int_lt h (pos 0)) (unsigned_abs h) ≡ h
sign_back (pos n) = let plus : int_lt (pos n) (pos 0) ≡ false = grind (arith, ints) in ap (λ b. signed_number b n) plus
sign_back (negsuc n) = refl

-- the data of cells, and the greatest number of places among them
abbrev pub data_for : ℕ → List Cell → List Datum
data_for p cells = map (datum_for p) cells

most_few : (p : ℕ) (cells : List Cell) → most_places_in (data_for p cells) ≤ p
most_few p [] = omega arith
most_few p (Bad ∷ cells) = let more = most_few p cells in omega (arith, more)
most_few p (Height h ∷ cells) = let more = most_few p cells in omega (arith, more)

pub most_places_in-data_for : (p : ℕ) (cells : List Cell) → most_places_in (data_for p cells) ≡ cond (list_any is_height cells) p 0
most_places_in-data_for p [] = refl
most_places_in-data_for p (Bad ∷ cells) = let more = most_places_in-data_for p cells in omega (arith, more)
most_places_in-data_for p (Height h ∷ cells) = let more = most_few p cells in omega (arith, more)

-- in these places the data are the cells
pub cells_at-data_for : (q p : ℕ) (cells : List Cell) → most_places_in (data_for p cells) ≤ q → q ≤ p → cells_at q (data_for p cells) ≡ cells
cells_at-data_for q p [] most few = refl
cells_at-data_for q p (Bad ∷ cells) most few = ap (λ (cs : List Cell). Bad ∷ cs) (cells_at-data_for q p cells (omega (arith, most)) few)
cells_at-data_for q p (Height h ∷ cells) most few =
    let none : q - p ≡ 0 = omega (arith, most, few) in
    let plain : unsigned_abs h * 10 ^ 0 ≡ unsigned_abs h = omega arith in
    ap₂ (λ (c : Cell) (cs : List Cell). c ∷ cs)
    (ap (λ n. Height (signed_number (int_lt h (pos 0)) (unsigned_abs h * 10 ^ n))) none ∙ ap (λ n. Height (signed_number (int_lt h (pos 0)) n)) plain ∙ ap Height (sign_back h))
    (cells_at-data_for q p cells (omega (arith, most)) few)

-- they are in range
data_ranged : (p : ℕ) (cells : List Cell) → p ≤ most_places → greatest_in cells ≤ most_steps → ranged (data_for p cells) ≡ Ok (data_for p cells)
data_ranged p cells few small =
    let most = most_few p cells in
    let q : ℕ = most_places_in (data_for p cells) in
    let back : cells_at q (data_for p cells) ≡ cells = cells_at-data_for q p cells (omega arith) most in
    ranged-in (data_for p cells) q refl (omega (arith, most, few)) (omega (arith, ap greatest_in back, small))

-- cells at the front are no farther from 0
greatest_front : (cells more : List Cell) → greatest_in cells ≤ greatest_in (cells ++ more)
greatest_front [] more = omega arith
greatest_front (cell ∷ cells) more = let rest = greatest_front cells more in omega (arith, rest)

cell_small : (t : DataType) (cell : Cell) → has_decimals t ≡ true → IsCellOf t cell → size_of cell ≤ most_steps
cell_small t Bad decimals fits = omega arith
cell_small (Single places) (Height h) decimals fits = let within = fits h refl in let low = within.0 in let high = within.1 in omega (arith, ints, low, high)
cell_small (Double places) (Height h) decimals fits = let within = fits h refl in let low = within.0 in let high = within.1 in omega (arith, ints, low, high)
cell_small U8 (Height h) decimals fits = cc
cell_small U16 (Height h) decimals fits = cc
cell_small U32 (Height h) decimals fits = cc
cell_small I8 (Height h) decimals fits = cc
cell_small I16 (Height h) decimals fits = cc
cell_small I32 (Height h) decimals fits = cc

cells_small : (t : DataType) (cells : List Cell) → has_decimals t ≡ true → AllFit t cells → greatest_in cells ≤ most_steps
cells_small t [] decimals fits = omega arith
cells_small t (cell ∷ cells) decimals fits = let first = cell_small t cell decimals fits.0 in let more = cells_small t cells decimals fits.1 in omega (arith, first, more)

-- the text of a cell is no `*` and not nothing
no_star : (t : DataType) (cell : Cell) → places_of t ≤ most_places → IsCellOf t cell → is_star (cell_text t cell) ≡ false
no_star t Bad few fits = refl
no_star t (Height h) few fits = decimal_of-apart (codes "*") (cell_text t (Height h)) (steps_decimal h (places_of t)) decimal_of-star (decimal_of-cell_text t h few fits)

-- cells whose data a text holds are read from it, behind others
decimals_laid : (t : DataType) (p : ℕ) (before cells : List Cell) (text tail : List ℕ) → places_of t ≡ p → p ≤ most_places → AllFit t cells
    → greatest_in (before ++ cells) ≤ most_steps → Laid t cells text tail
    → decimals_from (data_for p before) (length cells) text ≡ Ok (record { items = data_for p (before ++ cells); rest = tail })
unfolding decimals_from
decimals_laid t p before [] text tail is few fits small laid = ap₂ (λ (cs : List Cell) (r : List ℕ). Ok (record { items = data_for p cs; rest = r })) (sym (append-nil before)) laid
decimals_laid t p before (cell ∷ cells) text tail is few fits small laid =
    let b = laid.0 in
    let places : places_of t ≤ most_places = rw is few in
    let token = IsToken-cell_text t cell places fits.0 in
    let some = token.some in
    let found : token_of text ≡ cell_text t cell = ap token_of b.whole ∙ token_of-front b.front (cell_text t cell) b.gap b.rest b.gaps token.some token.none b.ends in
    let after : after_token text ≡ b.gap ∷ b.rest = ap after_token b.whole ∙ after_token-front b.front (cell_text t cell) b.gap b.rest b.gaps token.some token.none b.ends in
    let filled : is_absent (cell_text t cell) ≡ false = ne_eqb (length (cell_text t cell)) 0 (λ none. omega (arith, none, some)) in
    let whole : (before ++ cell ∷ []) ++ cells ≡ before ++ cell ∷ cells = append_assoc before (cell ∷ []) cells in
    let with : data_for p (before ++ cell ∷ []) ≡ data_for p before ++ datum_for p cell ∷ [] = map-append (datum_for p) before (cell ∷ []) in
    let front = greatest_front (before ++ cell ∷ []) cells in
    let range = data_ranged p (before ++ cell ∷ []) few (omega (arith, front, ap greatest_in whole, small)) in
    let data_is : data_with (data_for p before) (token_of text) ≡ Ok (data_for p (before ++ cell ∷ [])) =
    ap (data_with (data_for p before)) found ∙ data_with-token (data_for p before) (cell_text t cell) filled (no_star t cell places fits.0)
    ∙ rw (datum_read t p (length (data_for p before) + 1) cell is few fits.0) (ap ranged (sym with) ∙ range) in
    rw (data_is, after) (decimals_laid t p (before ++ cell ∷ []) cells (b.gap ∷ b.rest) tail is few fits.1 (omega (arith, ap greatest_in whole, small)) laid.1)
    ∙ ap (λ (cs : List Cell). Ok (record { items = data_for p cs; rest = tail })) whole

-- the decimals of a map are read from its lines
pub decimals_from-profile_lines : (m : Map) (rest : List ℕ) → IsMap m → has_decimals m.data_type ≡ true
    → decimals_from [] (m.size.profiles * m.size.points) (profile_lines m m.size.profiles ++ rest)
    ≡ Ok (record { items = data_for (places_of m.data_type) m.cells; rest = gaps_after m.size.profiles ++ rest })
decimals_from-profile_lines m rest whole decimals =
    let fits = AllFit-cells m.data_type m.cells whole.heights in
    ap (λ n. decimals_from [] n (profile_lines m m.size.profiles ++ rest)) (sym whole.cells)
    ∙ decimals_laid m.data_type (places_of m.data_type) [] m.cells (profile_lines m m.size.profiles ++ rest) (gaps_after m.size.profiles ++ rest) refl whole.places fits
    (cells_small m.data_type m.cells decimals fits) (Laid-profile_lines m rest whole)

-- their cells and their type
pub cells_at-most_places : (m : Map) → cells_at (most_places_in (data_for (places_of m.data_type) m.cells)) (data_for (places_of m.data_type) m.cells) ≡ m.cells
cells_at-most_places m =
    let p : ℕ = places_of m.data_type in
    cells_at-data_for (most_places_in (data_for p m.cells)) p m.cells (omega arith) (most_few p m.cells)

type_places : (t : DataType) → has_decimals t ≡ true → with_places (with_places t 0) (places_of t) ≡ t
type_places (Single places) decimals = refl
type_places (Double places) decimals = refl
type_places U8 decimals = cc
type_places U16 decimals = cc
type_places U32 decimals = cc
type_places I8 decimals = cc
type_places I16 decimals = cc
type_places I32 decimals = cc

pub type_read-with_places : (m : Map) → has_decimals m.data_type ≡ true → with_places (with_places m.data_type 0) (most_places_in (data_for (places_of m.data_type) m.cells)) ≡ type_read m
type_read-with_places m decimals = elim (cases_Bool (list_any is_height m.cells)) [
  | inl some ↦ ap (with_places (with_places m.data_type 0)) (most_places_in-data_for (places_of m.data_type) m.cells ∙ rw some refl) ∙ type_places m.data_type decimals ∙ rw some refl
  | inr none ↦ ap (with_places (with_places m.data_type 0)) (most_places_in-data_for (places_of m.data_type) m.cells ∙ rw none refl) ∙ with_places-again m.data_type 0 0 ∙ rw none refl
]
