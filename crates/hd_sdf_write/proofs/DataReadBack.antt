-- The data of the canonical text are read as the cells that they write.
use Rattle.std.proofs.Common.{◌≡◌, ◌+◌, ◌-◌, ◌*◌, ◌<◌, ◌≤◌, ◌≤ℤ◌, ◌&&◌, ℕ, ℤ, zero, suc, pos, negsuc, true, false, List, [], ◌∷◌, ◌++◌, length, take}
use Rattle.std.proofs.Common.{drop, eqb, Some, None, Ok, refl, sym, ap, subst, arith, ◌∙◌, append_assoc, append-nil, ne_eqb}
use Rattle.std.specs.Prelude.{bytes_eq, codes, int_le}
use Rattle.std.specs.Fmt.{signed_decimal}
use Rattle.std.specs.Int.{w64}
use Rattle.std.specs.Int.RustNames.{FitsSigned}
use Rattle.std.specs.List.{list_all, list_any}
use Rattle.std.proofs.Math.Seq.{take-add}
use Rattle.std.proofs.lemmas.Bool.{and_from}
use Rattle.std.proofs.lemmas.Int.{ints}
use Rattle.std.proofs.lemmas.List.{take_all}
use Rattle.std.proofs.lemmas.List.Concat.{flat_map-cons}
use Rattle.hd_map.specs.declared.types.Cell.{Cell}
use Rattle.hd_map.specs.declared.types.Cell.TheVariants.{Bad, Height}
use Rattle.hd_map.specs.declared.types.DataType.{DataType}
use Rattle.hd_map.specs.declared.types.DataType.TheVariants.{U8, U16, U32, I8, I16, I32, Single, Double}
use Rattle.hd_map.specs.Map.{AreCellsOf, IsCellOf, IsMap, Map, greatest_height, least_height, most_places, places_of}
use Rattle.hd_map.proofs.DataTypes.{type_limits}
use Rattle.hd_num.specs.Whole.{whole_of}
use Rattle.hd_num.specs.declared.whole.Whole.TheVariants.{Is}
use Rattle.hd_num.proofs.WholeReadsBack.{whole_of-signed_decimal}
use Rattle.hd_num.proofs.StepsReadBack.{decimal_of_steps_text as steps_read}
use Rattle.hd_num.proofs.StepsText.{steps_text-whole}
use Rattle.hd_num.specs.Decimal.{decimal_of}
use Rattle.hd_num.specs.Steps.{steps_decimal}
use Rattle.hd_num.specs.declared.decimal.Decimal.{Decimal}
use Rattle.hd_sdf_read.specs.Tokens.{is_gap, after_token, token_of}
use Rattle.hd_sdf_read.specs.Grammar.{cells_from, datum_at}
use Rattle.hd_sdf_read.specs.Keys.{has_decimals}
use Rattle.hd_sdf_read.proofs.DatumAt.{datum_at-by_token}
use Rattle.hd_sdf_read.proofs.WholeFronts.{whole_of-apart}
use Rattle.hd_sdf_write.specs.Canonical.{cell_text, line, profile, profile_lines, spaced}
use Rattle.hd_sdf_read.proofs.TextFronts.{after_token-front, token_of-front}
use Rattle.hd_sdf_read.proofs.Gapless.{is_decimal-form, is_gap-decimal, whole_of-some}
use Rattle.hd_sdf_write.proofs.SpacedProfiles.{profile-length}
use Rattle.hd_num.proofs.Integers.{int_le-true}

-- heights fit 64 bits
small_fits : (h : ℤ) → negsuc 9007199254740991 ≤ℤ h → h ≤ℤ pos 9007199254740992 → FitsSigned w64 h
small_fits (pos n) low high = record { sfits = omega (arith, ints, high) }
small_fits (negsuc n) low high = record { sfits = omega (arith, ints, low) }

height_fits : (t : DataType) (h : ℤ) → least_height t ≤ℤ h → h ≤ℤ greatest_height t → FitsSigned w64 h
height_fits t h low high = let limits = type_limits t in small_fits h (omega (arith, ints, low, limits.0)) (omega (arith, ints, high, limits.2))

-- a height reads back
height_read : (t : DataType) (h : ℤ) → IsCellOf t (Height h) → whole_of (signed_decimal h) ≡ Is h
height_read t h fits = whole_of-signed_decimal h (height_fits t h (fits h refl).0 (fits h refl).1)

-- a height of a type of whole numbers
height_text : (t : DataType) (h : ℤ) → has_decimals t ≡ false → cell_text t (Height h) ≡ signed_decimal h
height_text U8 h whole = steps_text-whole h
height_text U16 h whole = steps_text-whole h
height_text U32 h whole = steps_text-whole h
height_text I8 h whole = steps_text-whole h
height_text I16 h whole = steps_text-whole h
height_text I32 h whole = steps_text-whole h
height_text (Single places) h whole = cc
height_text (Double places) h whole = cc

-- a height of any type is a decimal
pub decimal_of-cell_text : (t : DataType) (h : ℤ) → places_of t ≤ most_places → IsCellOf t (Height h) → decimal_of (cell_text t (Height h)) ≡ Some (steps_decimal h (places_of t))
decimal_of-cell_text t h few fits = steps_read h (places_of t) (height_fits t h (fits h refl).0 (fits h refl).1) few

-- a datum is a token
pub record IsToken (token : List ℕ) : Type 0 where
  pub some : 0 < length token
  pub none : list_any is_gap token ≡ false

decimal_some : (word : List ℕ) (d : Decimal) → decimal_of word ≡ Some d → 0 < length word
unfolding decimal_of
decimal_some [] d is = let wrong : None ≡ Some d = is in cc
decimal_some (x ∷ xs) d is = omega arith

pub IsToken-cell_text : (t : DataType) (cell : Cell) → places_of t ≤ most_places → IsCellOf t cell → IsToken (cell_text t cell)
IsToken-cell_text t Bad few fits = record { some = omega arith; none = refl }
IsToken-cell_text t (Height h) few fits =
    let decimal = decimal_of-cell_text t h few fits in
    record {
      some = decimal_some (cell_text t (Height h)) (steps_decimal h (places_of t)) decimal;
      none = is_gap-decimal (cell_text t (Height h)) (is_decimal-form (cell_text t (Height h)) (steps_decimal h (places_of t)) decimal);
    }

-- and is read as its cell
datum_read : (t : DataType) (read : ℕ) (text : List ℕ) (cell : Cell) → has_decimals t ≡ false → IsCellOf t cell → token_of text ≡ cell_text t cell
    → datum_at (least_height t) (greatest_height t) read text ≡ Ok cell
datum_read t read text Bad whole fits is = datum_at-by_token (least_height t) (greatest_height t) read text (codes "BAD") (sym is) refl refl
datum_read t read text (Height h) whole fits is =
    let token : List ℕ = signed_decimal h in
    let number : whole_of (signed_decimal h) ≡ Is h = height_read t h fits in
    let some = whole_of-some (signed_decimal h) h number in
    let filled : eqb (length (signed_decimal h)) 0 ≡ false = ne_eqb (length (signed_decimal h)) 0 (λ none. omega (arith, none, some)) in
    let no_bad : bytes_eq (signed_decimal h) (codes "BAD") ≡ false = whole_of-apart (codes "BAD") (signed_decimal h) h refl number in
    let within : (int_le (least_height t) h && int_le h (greatest_height t)) ≡ true = and_from _ _ (int_le-true (least_height t) h (fits h refl).0)
    (int_le-true h (greatest_height t) (fits h refl).1) in
    datum_at-by_token (least_height t) (greatest_height t) read text (signed_decimal h) (sym (is ∙ height_text t h whole)) filled (whole_of-apart (codes "*") (signed_decimal h) h refl number)
    ∙ rw (no_bad, number, within) refl

-- a text begins with the datum of a cell, between gaps
pub record Begins (t : DataType) (cell : Cell) (text : List ℕ) : Type 0 where
  pub front : List ℕ
  pub gap : ℕ
  pub rest : List ℕ
  pub gaps : list_all is_gap front ≡ true
  pub ends : is_gap gap ≡ true
  pub whole : text ≡ front ++ (cell_text t cell ++ gap ∷ rest)

-- a text holds the data of cells, up to a rest
abbrev pub Laid : DataType → List Cell → List ℕ → List ℕ → Type 0
Laid t [] text tail = text ≡ tail
Laid t (cell ∷ cells) text tail = (b : Begins t cell text) × Laid t cells (b.gap ∷ b.rest) tail

laid_append : (t : DataType) (cells more : List Cell) (text mid tail : List ℕ) → Laid t cells text mid → Laid t more mid tail → Laid t (cells ++ more) text tail
laid_append t [] more text mid tail first second = subst (λ (bytes : List ℕ). Laid t more bytes tail) (sym first) second
laid_append t (cell ∷ cells) more text mid tail first second =
    (first.0, laid_append t cells more (first.0.gap ∷ first.0.rest) mid tail first.1 second)

-- each cell is of the type
abbrev pub AllFit : DataType → List Cell → Type 0
AllFit t [] = Unit {0}
AllFit t (cell ∷ cells) = IsCellOf t cell × AllFit t cells

pub AllFit-cells : (t : DataType) (cells : List Cell) → AreCellsOf t cells → AllFit t cells
AllFit-cells t [] fits = tt
AllFit-cells t (cell ∷ cells) fits = (fits 0 (omega arith), AllFit-cells t cells (λ k inside. fits (suc k) (omega arith)))

-- cells whose data a text holds are read from it
cells_laid : (t : DataType) (cells : List Cell) (read : ℕ) (text tail : List ℕ) → has_decimals t ≡ false → places_of t ≤ most_places → AllFit t cells → Laid t cells text tail
    → cells_from (least_height t) (greatest_height t) read (length cells) text ≡ Ok (record { cells = cells; rest = tail })
unfolding cells_from
cells_laid t [] read text tail whole few fits laid = ap (λ (r : List ℕ). Ok (record { cells = []; rest = r })) laid
cells_laid t (cell ∷ cells) read text tail whole few fits laid =
    let b = laid.0 in
    let token = IsToken-cell_text t cell few fits.0 in
    let found : datum_at (least_height t) (greatest_height t) read text ≡ Ok cell =
    datum_read t read text cell whole fits.0 (ap token_of b.whole ∙ token_of-front b.front (cell_text t cell) b.gap b.rest b.gaps token.some token.none b.ends) in
    let after : after_token text ≡ b.gap ∷ b.rest = ap after_token b.whole ∙ after_token-front b.front (cell_text t cell) b.gap b.rest b.gaps token.some token.none b.ends in
    let more = cells_laid t cells (read + 1) (b.gap ∷ b.rest) tail whole few fits.1 laid.1 in
    rw (found, after, more) refl

-- the data of a profile, after gaps
laid_row : (t : DataType) (cells : List Cell) (cell : Cell) (front rest : List ℕ) → list_all is_gap front ≡ true → Laid t (cell ∷ cells) (front ++ (spaced t (cell ∷ cells) ++ 10 ∷ rest)) (10 ∷ rest)
laid_row t [] cell front rest gaps =
    (record { front = front; gap = 10; rest = rest; gaps = gaps; ends = refl; whole = ap (λ (bytes : List ℕ). front ++ (bytes ++ 10 ∷ rest)) (append-nil (cell_text t cell)) }, refl)
laid_row t (next ∷ cells) cell front rest gaps =
    let more : List ℕ = spaced t (next ∷ cells) ++ 10 ∷ rest in (
      record {
        front = front;
        gap = 32;
        rest = more;
        gaps = gaps;
        ends = refl;
        whole = ap (λ (bytes : List ℕ). front ++ ((cell_text t cell ++ bytes) ++ 10 ∷ rest)) (flat_map-cons (λ (c : Cell). 32 ∷ cell_text t c) next cells)
            ∙ ap (λ (bytes : List ℕ). front ++ bytes) (append_assoc (cell_text t cell) (32 ∷ spaced t (next ∷ cells)) (10 ∷ rest));
      },
      laid_row t cells next (32 ∷ []) rest refl,
    )

laid_filled : (t : DataType) (cells : List Cell) (front rest : List ℕ) → 0 < length cells → list_all is_gap front ≡ true → Laid t cells (front ++ (spaced t cells ++ 10 ∷ rest)) (10 ∷ rest)
laid_filled t [] front rest some gaps = absurd (omega arith)
laid_filled t (cell ∷ cells) front rest some gaps = laid_row t cells cell front rest gaps

-- the LF after the last profile, where there is one
pub gaps_after : ℕ → List ℕ
gaps_after zero = []
gaps_after (suc y) = 10 ∷ []

pub gaps_after-are_gaps : (y : ℕ) → list_all is_gap (gaps_after y) ≡ true
unfolding gaps_after
gaps_after-are_gaps zero = refl
gaps_after-are_gaps (suc y) = refl

-- the data of so many profiles
laid_profiles : (m : Map) (y : ℕ) (rest : List ℕ) → IsMap m → y ≤ m.size.profiles → Laid m.data_type (take (y * m.size.points) m.cells) (profile_lines m y ++ rest) (gaps_after y ++ rest)
unfolding profile_lines gaps_after
laid_profiles m zero rest whole inside = let none : 0 ≡ 0 * m.size.points = omega arith in subst (λ n. Laid m.data_type (take n m.cells) rest rest) none refl
laid_profiles m (suc y) rest whole inside =
    let size = profile-length m y whole (omega arith) in
    let some = whole.size.some_points in
    let before = laid_profiles m y (spaced m.data_type (profile m y) ++ 10 ∷ rest) whole (omega arith) in
    let row = laid_filled m.data_type (profile m y) (gaps_after y) rest (omega (arith, size, some)) (gaps_after-are_gaps y) in
    let text : (profile_lines m y ++ line (spaced m.data_type (profile m y))) ++ rest ≡ profile_lines m y ++ (spaced m.data_type (profile m y) ++ 10 ∷ rest) =
    append_assoc (profile_lines m y) (line (spaced m.data_type (profile m y))) rest ∙ ap (λ (t : List ℕ). profile_lines m y ++ t) (append_assoc (spaced m.data_type (profile m y)) (10 ∷ []) rest) in
    let count : suc y * m.size.points ≡ y * m.size.points + m.size.points = omega arith in
    let width : y * m.size.points + m.size.points - y * m.size.points ≡ m.size.points = omega arith in
    let cells : take (suc y * m.size.points) m.cells ≡ take (y * m.size.points) m.cells ++ profile m y =
    ap (λ n. take n m.cells) count ∙ take-add (y * m.size.points) m.size.points m.cells
    ∙ ap (λ n. take (y * m.size.points) m.cells ++ take n (drop (y * m.size.points) m.cells)) (sym width) in
    let laid = laid_append m.data_type (take (y * m.size.points) m.cells) (profile m y) (profile_lines m y ++ (spaced m.data_type (profile m y) ++ 10 ∷ rest))
    (gaps_after y ++ (spaced m.data_type (profile m y) ++ 10 ∷ rest)) (10 ∷ rest) before row in
    subst (λ (t : List ℕ). Laid m.data_type (take (suc y * m.size.points) m.cells) t (10 ∷ rest)) (sym text)
    (subst (λ (cs : List Cell). Laid m.data_type cs (profile_lines m y ++ (spaced m.data_type (profile m y) ++ 10 ∷ rest)) (10 ∷ rest)) (sym cells) laid)

-- the lines of a map hold its cells
pub Laid-profile_lines : (m : Map) (rest : List ℕ) → IsMap m → Laid m.data_type m.cells (profile_lines m m.size.profiles ++ rest) (gaps_after m.size.profiles ++ rest)
Laid-profile_lines m rest whole =
    let all : take (m.size.profiles * m.size.points) m.cells ≡ m.cells = take_all (m.size.profiles * m.size.points) m.cells (omega (arith, whole.cells)) in
    subst (λ (cs : List Cell). Laid m.data_type cs (profile_lines m m.size.profiles ++ rest) (gaps_after m.size.profiles ++ rest)) all (laid_profiles m m.size.profiles rest whole (omega arith))

-- whole numbers are read from them
pub cells_from-profile_lines : (m : Map) (rest : List ℕ) → IsMap m → has_decimals m.data_type ≡ false
    → cells_from (least_height m.data_type) (greatest_height m.data_type) 0 (m.size.profiles * m.size.points) (profile_lines m m.size.profiles ++ rest)
    ≡ Ok (record { cells = m.cells; rest = gaps_after m.size.profiles ++ rest })
cells_from-profile_lines m rest whole type =
    ap (λ n. cells_from (least_height m.data_type) (greatest_height m.data_type) 0 n (profile_lines m m.size.profiles ++ rest)) (sym whole.cells)
    ∙ cells_laid m.data_type m.cells 0 (profile_lines m m.size.profiles ++ rest) (gaps_after m.size.profiles ++ rest) type whole.places
    (AllFit-cells m.data_type m.cells whole.heights) (Laid-profile_lines m rest whole)
