-- Decimals as cells, in steps of the last of so many places.
use Rattle.std.proofs.Common.{◌≡◌, ◌+◌, ◌-◌, ◌*◌, ◌/◌, ◌^◌, ◌<◌, ◌≤◌, ℕ, zero, suc, pos, max, unsigned_abs, Bool, true, false, List, [], ◌∷◌, ◌++◌}
use Rattle.std.proofs.Common.{length, map, Ok, Err, cond, inl, inr, refl, sym, ap, ap₂, ◌∙◌, arith, length-append, mul_assoc, mul_comm}
use Rattle.std.specs.Prelude.{nat_le}
use Rattle.std.specs.List.{list_all}
use mir.Syntax.{w64}
use mir.Val.{to_z}
use Rattle.std.proofs.Math.Nat.{le-div_iff_mul-le, mul-le-mul_right, one-le-pow, pow-le-pow_right}
use Rattle.std.proofs.lemmas.Bool.{and_from, and_left, and_right, cases_lt, le-leb, lt-leb}
use Rattle.std.proofs.lemmas.Int.{ints, unsigned_abs-mul}
use Rattle.std.proofs.lemmas.List.{map-append}
use Rattle.std.proofs.lemmas.Nat.{pow-add}
use Rattle.hd_map.specs.declared.types.Cell.{Cell}
use Rattle.hd_map.specs.declared.types.Cell.TheVariants.{Height, Bad}
use Rattle.hd_map.specs.declared.types.DataType.{DataType}
use Rattle.hd_map.specs.declared.types.DataType.TheVariants.{U8, U16, U32, I8, I16, I32, Single, Double}
use Rattle.hd_map.specs.Cells.{wide_cells_in}
use Rattle.hd_map.specs.Map.{AreCellsOf, IsCellOf}
use Rattle.hd_map.specs.Packing.{multiplied}
use Rattle.hd_num.specs.Whole.{signed_number}
use Rattle.hd_num.proofs.Fractions.{product_of_signed, size_of_signed}
use Rattle.hd_sdf_read.specs.declared.scaled.Datum.{Datum}
use Rattle.hd_sdf_read.specs.declared.scaled.Scaled.{Scaled}
use Rattle.hd_sdf_read.specs.declared.scaled.Datum.TheVariants.{Unmeasured, Measured}
use Rattle.hd_sdf_read.specs.declared.error.SdfError.TheVariants.{DatumRange}
use Rattle.hd_sdf_read.specs.Decimals.{IsSmall, are_in_range, cell_at, cells_at, greatest_in, most_places, most_places_in, most_steps, places_in, ranged, size_of, steps_at}
use Rattle.hd_sdf_read.specs.Keys.{has_decimals, with_places}
use Rattle.hd_sdf_read.specs.Scaling.{Grows, IsBeyond, IsRefined, Refines, IsScaled}

-- a cell is as far from 0 as its datum
size_at : (places : ℕ) (d : Datum) → size_of (cell_at places d) ≡ steps_at places d
size_at places Unmeasured = refl
size_at places (Measured negative units own) = size_of_signed negative (units * 10 ^ (places - own))

-- steps of a later place are smaller
pub steps_at-grow : (units own p q : ℕ) → own ≤ p → p ≤ q → units * 10 ^ (q - own) ≡ units * 10 ^ (p - own) * 10 ^ (q - p)
steps_at-grow units own p q few more =
    let sum : q - own ≡ (p - own) + (q - p) = omega arith in
    ap (λ n. units * 10 ^ n) sum ∙ ap (λ n. units * n) (pow-add 10 (p - own) (q - p)) ∙ sym (mul_assoc units (10 ^ (p - own)) (10 ^ (q - p)))

cell_grow : (p q : ℕ) (d : Datum) → places_in d ≤ p → p ≤ q → multiplied (pos (10 ^ (q - p))) (cell_at p d) ≡ cell_at q d
cell_grow p q Unmeasured few more = refl
cell_grow p q (Measured negative units own) few more =
    ap Height (product_of_signed negative (units * 10 ^ (p - own)) (10 ^ (q - p)) ∙ ap (signed_number negative) (sym (steps_at-grow units own p q few more)))

pub cells_at-grow : (p q : ℕ) (ds : List Datum) → most_places_in ds ≤ p → p ≤ q → map (multiplied (pos (10 ^ (q - p)))) (cells_at p ds) ≡ cells_at q ds
cells_at-grow p q [] few more = refl
cells_at-grow p q (d ∷ ds) few more =
    ap₂ (λ (c : Cell) (cs : List Cell). c ∷ cs) (cell_grow p q d (omega (arith, few)) more) (cells_at-grow p q ds (omega (arith, few)) more)

-- one more datum, one more cell
pub most_places_in-push : (ds : List Datum) (d : Datum) → most_places_in (ds ++ d ∷ []) ≡ max (most_places_in ds) (places_in d)
most_places_in-push [] d = omega arith
most_places_in-push (x ∷ xs) d = let more = most_places_in-push xs d in omega (arith, more)

pub greatest_in-push : (cs : List Cell) (c : Cell) → greatest_in (cs ++ c ∷ []) ≡ max (greatest_in cs) (size_of c)
greatest_in-push [] c = omega arith
greatest_in-push (x ∷ xs) c = let more = greatest_in-push xs c in omega (arith, more)

-- so many times all cells
max_times : (a b k : ℕ) → max (a * k) (b * k) ≡ max a b * k
max_times a b k = elim (cases_lt a b) [
  | inl less ↦
      let top : max a b ≡ b = omega arith in
      let below : a * k ≤ b * k = mul-le-mul_right k (omega arith) in
      rw top (omega (arith, below))
  | inr other ↦
      let top : max a b ≡ a = omega arith in
      let below : b * k ≤ a * k = mul-le-mul_right k (omega arith) in
      rw top (omega (arith, below))
]

size_times : (k : ℕ) (c : Cell) → size_of (multiplied (pos k) c) ≡ size_of c * k
size_times k (Height h) = unsigned_abs-mul h (pos k)
size_times k Bad = omega arith

pub greatest_in-times : (k : ℕ) (cs : List Cell) → greatest_in (map (multiplied (pos k)) cs) ≡ greatest_in cs * k
greatest_in-times k [] = omega arith
greatest_in-times k (c ∷ cs) = ap₂ max (size_times k c) (greatest_in-times k cs) ∙ max_times (size_of c) (greatest_in cs) k

-- cells that are in range are of a type of decimals
pub IsCellOf-fits : (t : DataType) (c : Cell) → has_decimals t ≡ true → size_of c ≤ most_steps → IsCellOf t c
IsCellOf-fits (Single places) c decimals small = λ h is. let size : unsigned_abs h ≤ most_steps = rw is at small in (omega (arith, ints, size), omega (arith, ints, size))
IsCellOf-fits (Double places) c decimals small = λ h is. let size : unsigned_abs h ≤ most_steps = rw is at small in (omega (arith, ints, size), omega (arith, ints, size))
IsCellOf-fits U8 c decimals small = cc
IsCellOf-fits U16 c decimals small = cc
IsCellOf-fits U32 c decimals small = cc
IsCellOf-fits I8 c decimals small = cc
IsCellOf-fits I16 c decimals small = cc
IsCellOf-fits I32 c decimals small = cc

pub AreCellsOf-fit : (t : DataType) (cs : List Cell) → has_decimals t ≡ true → greatest_in cs ≤ most_steps → AreCellsOf t cs
AreCellsOf-fit t [] decimals small = λ k inside. absurd (omega arith)
AreCellsOf-fit t (c ∷ cs) decimals small = λ k inside. elim k as (λ n. n < length (c ∷ cs) → IsCellOf t (Rattle.std.specs.Prelude.slice_index_or (c ∷ cs) n Bad)) [
  | zero ↦ λ _. IsCellOf-fits t c decimals (omega (arith, small))
  | suc n ↦ λ more. AreCellsOf-fit t cs decimals (omega (arith, small)) n (omega (arith, more))
] inside

-- all data are in range exactly where the greatest is
pub steps_at-in_range : (p : ℕ) (ds : List Datum) → greatest_in (cells_at p ds) ≤ most_steps → list_all (λ d. nat_le (steps_at p d) most_steps) ds ≡ true
steps_at-in_range p [] small = refl
steps_at-in_range p (d ∷ ds) small = and_from _ _ (le-leb _ _ (omega (arith, size_at p d, small))) (steps_at-in_range p ds (omega (arith, small)))

pub steps_at-out_of_range : (p : ℕ) (ds : List Datum) → most_steps < greatest_in (cells_at p ds) → list_all (λ d. nat_le (steps_at p d) most_steps) ds ≡ false
steps_at-out_of_range p [] great = absurd (omega arith)
steps_at-out_of_range p (d ∷ ds) great = elim (cases_lt most_steps (steps_at p d)) [
  | inl here ↦ and_left _ _ (lt-leb _ _ here)
  | inr fits ↦ and_right _ _ (steps_at-out_of_range p ds (omega (arith, size_at p d, great, fits)))
]

module _ (ds : List Datum) (p : ℕ) (most : most_places_in ds ≡ p) where
  pub ranged-in : p ≤ most_places → greatest_in (cells_at p ds) ≤ most_steps → ranged ds ≡ Ok ds
  ranged-in few small =
      let range : are_in_range ds ≡ true = rw most (and_from _ _ (le-leb _ _ few) (steps_at-in_range p ds small)) in
      ap (λ b. cond b (Ok ds) (Err (DatumRange (length ds)))) range

  pub ranged-out : most_steps < greatest_in (cells_at p ds) → ranged ds ≡ Err (DatumRange (length ds))
  ranged-out great =
      let range : are_in_range ds ≡ false = rw most (and_right _ _ (steps_at-out_of_range p ds great)) in
      ap (λ b. cond b (Ok ds) (Err (DatumRange (length ds)))) range

  pub ranged-long : most_places < p → ranged ds ≡ Err (DatumRange (length ds))
  ranged-long many =
      let range : are_in_range ds ≡ false = rw most (and_left _ _ (lt-leb _ _ many)) in
      ap (λ b. cond b (Ok ds) (Err (DatumRange (length ds)))) range

-- units times a power of ten, by the most that they may be
pub ten_power-some : (power factor : ℕ) → factor ≡ 10 ^ power → 0 < factor
ten_power-some power factor is = let some = one-le-pow power 10 (omega arith) in omega (arith, is, some)

pub ten_power-product_in : (units power factor : ℕ) → factor ≡ 10 ^ power → units ≤ 9007199254740992 / factor → units * factor ≤ most_steps
ten_power-product_in units power factor is few = (le-div_iff_mul-le (ten_power-some power factor is)).0 few

pub ten_power-product_out : (units power factor : ℕ) → factor ≡ 10 ^ power → 9007199254740992 / factor < units → most_steps < units * 10 ^ power
ten_power-product_out units power factor is many = elim (cases_lt most_steps (units * 10 ^ power)) [
  | inl out ↦ out
  | inr within ↦
      let fits : units * factor ≤ 9007199254740992 = rw is (omega (arith, within)) in
      absurd (omega (arith, many, (le-div_iff_mul-le (ten_power-some power factor is)).1 fits))
]

pub ten_power-zero : (units : ℕ) → units * 10 ^ 0 ≡ units
ten_power-zero units = omega arith

-- a type keeps that it is one of decimals
typed : (t : DataType) (places : ℕ) → has_decimals t ≡ true → has_decimals (with_places t places) ≡ true
typed (Single before) places decimals = refl
typed (Double before) places decimals = refl
typed U8 places decimals = decimals
typed U16 places decimals = decimals
typed U32 places decimals = decimals
typed I8 places decimals = decimals
typed I16 places decimals = decimals
typed I32 places decimals = decimals

pub with_places-again : (t : DataType) (p q : ℕ) → with_places (with_places t p) q ≡ with_places t q
with_places-again (Single before) p q = refl
with_places-again (Double before) p q = refl
with_places-again U8 p q = refl
with_places-again U16 p q = refl
with_places-again U32 p q = refl
with_places-again I8 p q = refl
with_places-again I16 p q = refl
with_places-again I32 p q = refl

pub has_decimals-with_places : (t new : DataType) (places : ℕ) → has_decimals t ≡ true → new ≡ with_places t places → has_decimals new ≡ true
has_decimals-with_places t new places decimals is = rw is (typed t places decimals)

pub with_places-same : (t new : DataType) (places : ℕ) → new ≡ with_places t places → new ≡ with_places new places
with_places-same t new places is = is ∙ sym (with_places-again t places places) ∙ ap (λ x. with_places x places) (sym is)

-- cells that are multiplied are of a type, where the greatest of them is in range
pub AreCellsOf-products : (t new : DataType) (places k : ℕ) (cs : List Cell) → has_decimals t ≡ true → new ≡ with_places t places → greatest_in cs * k ≤ most_steps
    → AreCellsOf new (map (multiplied (pos k)) cs)
AreCellsOf-products t new places k cs decimals is small =
    AreCellsOf-fit new (map (multiplied (pos k)) cs) (has_decimals-with_places t new places decimals is) (omega (arith, greatest_in-times k cs, small))

-- what is kept of data, with one more
module _ (old new : Scaled) (t : DataType) (before : List Datum) (d : Datum) (kept : IsRefined old t before (places_in d))
    (cells : wide_cells_in new.cells ≡ wide_cells_in old.cells ++ cell_at old.places d ∷ []) (places : new.places ≡ old.places) (data_type : new.cells.data_type ≡ old.cells.data_type) where
  cells_with : cells_at old.places (before ++ d ∷ []) ≡ wide_cells_in new.cells
  cells_with = map-append (cell_at old.places) before (d ∷ []) ∙ ap (λ cs. cs ++ cell_at old.places d ∷ []) (sym kept.cells) ∙ sym cells

  most_with : most_places_in (before ++ d ∷ []) ≡ old.places
  most_with = most_places_in-push before d ∙ sym kept.places_are

  pub IsScaled-pushed : (ranged (before ++ d ∷ []) ≡ Ok (before ++ d ∷ [])) × IsScaled new t (before ++ d ∷ [])
  IsScaled-pushed =
      let size = new.greatest_is in
      let small = new.small in (
        ranged-in (before ++ d ∷ []) old.places most_with old.few (omega (arith, size, small, ap greatest_in cells_with)),
        record {
          cells = sym cells_with ∙ ap (λ p. cells_at p (before ++ d ∷ [])) (sym places);
          places = places ∙ sym most_with;
          data_type = data_type ∙ kept.data_type ∙ ap (with_places t) (sym places);
        },
      )

-- one more datum is out of range
pub ranged-not_pushed : (old : Scaled) (t : DataType) (before : List Datum) (d : Datum) (number : ℕ) → IsRefined old t before (places_in d) → most_steps < steps_at old.places d
    → number ≡ length before + 1
    → ranged (before ++ d ∷ []) ≡ Err (DatumRange number)
ranged-not_pushed old t before d number kept great is =
    let cells : greatest_in (cells_at old.places (before ++ d ∷ [])) ≡ max (greatest_in (cells_at old.places before)) (size_of (cell_at old.places d)) =
    ap greatest_in (map-append (cell_at old.places) before (d ∷ [])) ∙ greatest_in-push (cells_at old.places before) (cell_at old.places d) in
    ranged-out (before ++ d ∷ []) old.places (most_places_in-push before d ∙ sym kept.places_are) (omega (arith, cells, size_at old.places d, great))
    ∙ ap (λ n. Err (DatumRange n)) (length-append before (d ∷ []) ∙ sym is)

-- nor are those before it in its steps
pub ranged-not_refined : (before : List Datum) (d : Datum) (number : ℕ) → IsBeyond before (places_in d) → number ≡ length before + 1 → ranged (before ++ d ∷ []) ≡ Err (DatumRange number)
ranged-not_refined before d number beyond is =
    let more = beyond.more in
    let great = beyond.great in
    let p : ℕ = places_in d in
    let cells : greatest_in (cells_at p (before ++ d ∷ [])) ≡ max (greatest_in (cells_at p before)) (size_of (cell_at p d)) =
    ap greatest_in (map-append (cell_at p) before (d ∷ [])) ∙ greatest_in-push (cells_at p before) (cell_at p d) in
    ranged-out (before ++ d ∷ []) p (most_places_in-push before d ∙ (omega (arith, more))) (omega (arith, cells, great))
    ∙ ap (λ n. Err (DatumRange n)) (length-append before (d ∷ []) ∙ sym is)

-- steps of more places are taken
pub IsRefined-grown : (old new : Scaled) (t : DataType) (before : List Datum) (places : ℕ) → IsScaled old t before → old.places < places
    → wide_cells_in new.cells ≡ map (multiplied (pos (10 ^ (places - old.places)))) (wide_cells_in old.cells) → new.places ≡ places
    → new.cells.data_type ≡ with_places old.cells.data_type places → IsRefined new t before places
IsRefined-grown old new t before places kept more cells places_are data_type =
    let most = kept.places in
    record {
      cells = cells ∙ ap (map (multiplied (pos (10 ^ (places - old.places))))) kept.cells ∙ cells_at-grow old.places places before (omega (arith, most)) (omega (arith, more))
          ∙ ap (λ p. cells_at p before) (sym places_are);
      places_are = omega (arith, places_are, most, more);
      data_type = data_type ∙ ap (λ x. with_places x places) kept.data_type ∙ with_places-again t old.places places ∙ ap (with_places t) (sym places_are);
    }

pub IsBeyond-not_grown : (old : Scaled) (t : DataType) (before : List Datum) (places : ℕ) → IsScaled old t before → old.places < places
    → most_steps < greatest_in (wide_cells_in old.cells) * 10 ^ (places - old.places) → IsBeyond before places
IsBeyond-not_grown old t before places kept more great =
    let most = kept.places in
    let same : greatest_in (cells_at places before) ≡ greatest_in (wide_cells_in old.cells) * 10 ^ (places - old.places) =
    ap greatest_in (sym (cells_at-grow old.places places before (omega (arith, most)) (omega (arith, more)))) ∙ greatest_in-times (10 ^ (places - old.places)) (cells_at old.places before)
    ∙ ap (λ cs. greatest_in cs * 10 ^ (places - old.places)) (sym kept.cells) in
    record { more = omega (arith, most, more); great = omega (arith, same, great) }

-- a datum of places that are reached needs no others
pub IsRefined-same : (s : Scaled) (t : DataType) (ds : List Datum) (places : ℕ) → IsScaled s t ds → places ≤ s.places → IsRefined s t ds places
IsRefined-same s t ds places kept few =
    let most = kept.places in
    record { cells = kept.cells; places_are = omega (arith, most, few); data_type = kept.data_type }

-- a power of ten of at most eighteen is kept in 64 bits
pub ten_power-small : (power factor : ℕ) → power ≤ most_places → factor ≡ 10 ^ power → factor ≤ 1000000000000000000
ten_power-small power factor few is = rw is (pow-le-pow_right {n = 10} (omega arith) few)

pub ten_power-kept : (factor : ℕ) → factor ≤ 1000000000000000000 → to_z w64 factor ≡ pos factor
ten_power-kept factor small = omega (arith, ints, small)

-- cells that were multiplied by a power of ten
module _ (old : Scaled) (places factor greatest : ℕ) (t new : DataType) (same : t ≡ old.cells.data_type) (is : new ≡ with_places t places) (few : places ≤ most_places)
    (power : factor ≡ 10 ^ (places - old.places)) (size : greatest ≡ old.greatest * 10 ^ (places - old.places)) (small : greatest ≤ most_steps) where
  grown_small : factor ≤ 1000000000000000000
  grown_small = ten_power-small (places - old.places) factor (omega (arith, few)) power

  grown_greatest : greatest_in (wide_cells_in old.cells) * factor ≡ greatest
  grown_greatest = ap (λ n. n * factor) (sym old.greatest_is) ∙ ap (λ f. old.greatest * f) power ∙ sym size

  pub Grows-fit : AreCellsOf new (map (multiplied (to_z w64 factor)) (wide_cells_in old.cells))
  Grows-fit =
      rw (ten_power-kept factor grown_small)
      (AreCellsOf-products t new places factor (wide_cells_in old.cells) (ap has_decimals same ∙ old.decimals) is (omega (arith, grown_greatest, small)))

  pub Grows-power : to_z w64 factor ≡ pos (10 ^ (places - old.places))
  Grows-power = ten_power-kept factor grown_small ∙ ap pos power

  pub Grows-size : (cells : List Cell) → cells ≡ map (multiplied (to_z w64 factor)) (wide_cells_in old.cells) → greatest ≡ greatest_in cells
  Grows-size cells cells_are =
      sym (ap greatest_in cells_are ∙ ap (λ k. greatest_in (map (multiplied k) (wide_cells_in old.cells))) (ten_power-kept factor grown_small)
      ∙ greatest_in-times factor (wide_cells_in old.cells) ∙ grown_greatest)

pub Refines-from_grows : (old new : Scaled) (places : ℕ) (done : Bool) → old.places < places → Grows old new places done → Refines old new places done
Refines-from_grows old new places true more grows = λ t before kept. IsRefined-grown old new t before places kept more grows.0 grows.1 grows.2
Refines-from_grows old new places false more grows = λ t before kept. IsBeyond-not_grown old t before places kept more grows

-- a power of ten makes nothing smaller
pub ten_power-at_least : (units power : ℕ) → units ≤ units * 10 ^ power
ten_power-at_least units power =
    let some = one-le-pow power 10 (omega arith) in
    let more : 1 * units ≤ 10 ^ power * units = mul-le-mul_right units some in
    omega (arith, more, mul_comm units (10 ^ power))

-- a datum that alone is out of range, behind others
long_out : (before : List Datum) (negative : Bool) (units places number : ℕ) → most_places < places → number ≡ length before + 1
    → ranged (before ++ Measured negative units places ∷ []) ≡ Err (DatumRange number)
long_out before negative units places number many is =
    let most = most_places_in-push before (Measured negative units places) in
    ranged-long (before ++ Measured negative units places ∷ []) (max (most_places_in before) places) most (omega (arith, many))
    ∙ ap (λ n. Err (DatumRange n)) (length-append before (Measured negative units places ∷ []) ∙ sym is)

great_out : (before : List Datum) (negative : Bool) (units places number : ℕ) → most_steps < units → number ≡ length before + 1
    → ranged (before ++ Measured negative units places ∷ []) ≡ Err (DatumRange number)
great_out before negative units places number great is =
    let d : Datum = Measured negative units places in
    let p : ℕ = max (most_places_in before) places in
    let cells : greatest_in (cells_at p (before ++ d ∷ [])) ≡ max (greatest_in (cells_at p before)) (size_of (cell_at p d)) =
    ap greatest_in (map-append (cell_at p) before (d ∷ [])) ∙ greatest_in-push (cells_at p before) (cell_at p d) in
    ranged-out (before ++ d ∷ []) p (most_places_in-push before d) (omega (arith, cells, size_at p d, great, ten_power-at_least units (p - places)))
    ∙ ap (λ n. Err (DatumRange n)) (length-append before (d ∷ []) ∙ sym is)

pub ranged-not_small : (before : List Datum) (d : Datum) (number : ℕ) → (IsSmall d → ⊥) → number ≡ length before + 1 → ranged (before ++ d ∷ []) ≡ Err (DatumRange number)
ranged-not_small before Unmeasured number great is = absurd (great tt)
ranged-not_small before (Measured negative units places) number great is = elim (cases_lt most_places places) [
  | inl many ↦ long_out before negative units places number many is
  | inr few ↦ elim (cases_lt most_steps units) [
    | inl out ↦ great_out before negative units places number out is
    | inr fits ↦ absurd (great (few, fits))
  ]
]

-- digits that are out of range, times a power of ten
pub ten_power-many_digits : (digits power : ℕ) → most_steps < digits → most_steps < digits * 10 ^ power
ten_power-many_digits digits power many = let more = ten_power-at_least digits power in omega (arith, more, many)

pub ten_power-high : (digits power : ℕ) → 0 < digits → most_places < power → most_steps < digits * 10 ^ power
ten_power-high digits power some high =
    let unit : 10 ^ 19 ≤ 10 ^ power = pow-le-pow_right {n = 10} (omega arith) {i = 19} {j = power} (omega (arith, high)) in
    let more : 1 * 10 ^ power ≤ digits * 10 ^ power = mul-le-mul_right (10 ^ power) some in
    omega (arith, unit, more)
