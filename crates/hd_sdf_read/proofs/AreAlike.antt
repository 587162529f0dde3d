-- Data that are kept as cells stand for those that were read.
use Rattle.std.proofs.Common.{◌≡◌, ◌+◌, ◌-◌, ◌*◌, ◌^◌, ◌≤◌, ◌*ℤ◌, ℕ, ℤ, zero, suc, pos, int_lt, unsigned_abs, Bool, true, false, ◌&&◌, ◌||◌, List, []}
use Rattle.std.proofs.Common.{◌∷◌, ◌++◌, length, Ok, Err, inl, inr, refl, sym, ap, ap₂, subst, arith, ◌∙◌, length-append}
use Rattle.std.specs.Prelude.{Result, nat_le}
use Rattle.std.specs.List.{list_all}
use Rattle.std.proofs.lemmas.Bool.{cases_Bool, cases_lt, le-leb, lt-leb}
use Rattle.std.proofs.lemmas.List.{length-map, map-append}
use Rattle.hd_map.specs.declared.types.Cell.{Cell}
use Rattle.hd_map.specs.declared.types.Cell.TheVariants.{Bad, Height}
use Rattle.hd_map.specs.declared.types.DataType.{DataType}
use Rattle.hd_map.specs.declared.types.Size.{Size}
use Rattle.hd_map.specs.Cells.{wide_cells_in}
use Rattle.hd_map.specs.Map.{cell_count}
use Rattle.hd_num.specs.Whole.{signed_number}
use Rattle.hd_num.proofs.Fractions.{product_of_signed, signed_of_size}
use Rattle.hd_sdf_read.specs.declared.error.SdfError.{SdfError}
use Rattle.hd_sdf_read.specs.declared.error.SdfError.TheVariants.{DatumRange, TooFewData}
use Rattle.hd_sdf_read.specs.declared.scaled.Datum.{Datum}
use Rattle.hd_sdf_read.specs.declared.scaled.Datum.TheVariants.{Measured, Unmeasured}
use Rattle.hd_sdf_read.specs.declared.scaled.Scaled.{Scaled}
use Rattle.hd_sdf_read.specs.Bodies.{decimal_in, trailed}
use Rattle.hd_sdf_read.specs.Decimals.{data_for, datum_for, are_in_range, cell_at, cells_at, data_with, datum_of, decimals_from, greatest_in}
use Rattle.hd_sdf_read.specs.Decimals.{most_places, most_places_in, most_steps, places_in, ranged, steps_at}
use Rattle.hd_sdf_read.specs.Grammar.{decimal_map}
use Rattle.hd_sdf_read.specs.Reads.{◌>>=◌}
use Rattle.hd_sdf_read.specs.Scaling.{IsScaled}
use Rattle.hd_sdf_read.specs.Tokens.{after_token, is_absent, is_star, token_of}
use Rattle.hd_sdf_read.proofs.Scaling.{steps_at-in_range, most_places_in-push, steps_at-out_of_range, steps_at-grow}

-- data that nothing behind them can tell apart
pub record AreAlike (xs ys : List Datum) : Type 0 where
  pub count : length xs ≡ length ys
  pub most : most_places_in xs ≡ most_places_in ys
  pub cells : (q : ℕ) → most_places_in xs ≤ q → cells_at q xs ≡ cells_at q ys

-- all are in range where the greatest is
range_tested : (p : ℕ) (ds : List Datum) → list_all (λ d. nat_le (steps_at p d) most_steps) ds ≡ nat_le (greatest_in (cells_at p ds)) most_steps
range_tested p ds = elim (cases_lt most_steps (greatest_in (cells_at p ds))) [
  | inl great ↦ steps_at-out_of_range p ds great ∙ sym (lt-leb _ _ great)
  | inr small ↦ steps_at-in_range p ds small ∙ sym (le-leb _ _ small)
]

range_alike : (xs ys : List Datum) → AreAlike xs ys → are_in_range xs ≡ are_in_range ys
range_alike xs ys alike =
    let cells : cells_at (most_places_in xs) xs ≡ cells_at (most_places_in ys) ys = alike.cells (most_places_in xs) (omega arith) ∙ ap (λ q. cells_at q ys) alike.most in
    ap₂ (λ (a b : Bool). a && b) (ap (λ n. nat_le n most_places) alike.most)
    (range_tested (most_places_in xs) xs ∙ ap (λ cs. nat_le (greatest_in cs) most_steps) cells ∙ sym (range_tested (most_places_in ys) ys))

alike_push : (xs ys : List Datum) (d : Datum) → AreAlike xs ys → AreAlike (xs ++ d ∷ []) (ys ++ d ∷ [])
alike_push xs ys d alike =
    let most = alike.most in
    let left = most_places_in-push xs d in
    let right = most_places_in-push ys d in
    record {
      count = length-append xs (d ∷ []) ∙ ap (λ n. n + 1) alike.count ∙ sym (length-append ys (d ∷ []));
      most = omega (arith, left, right, most);
      cells = λ q enough.
          map-append (cell_at q) xs (d ∷ []) ∙ ap (λ (cs : List Cell). cs ++ cell_at q d ∷ []) (alike.cells q (omega (arith, left, enough))) ∙ sym (map-append (cell_at q) ys (d ∷ []));
    }

-- both are read on, to data that are alike, or both have this offence
abbrev BothAlike : Result (List Datum) SdfError → Result (List Datum) SdfError → Type 0
BothAlike (Ok xs) (Ok ys) = AreAlike xs ys
BothAlike (Ok xs) (Err f) = ⊥
BothAlike (Err e) (Ok ys) = ⊥
BothAlike (Err e) (Err f) = e ≡ f

ranged_alike : (xs ys : List Datum) (b : Bool) → AreAlike xs ys → are_in_range xs ≡ b → are_in_range ys ≡ b → BothAlike (ranged xs) (ranged ys)
ranged_alike xs ys true alike left right = rw (left, right) alike
ranged_alike xs ys false alike left right = rw (left, right) (ap DatumRange alike.count)

datum_alike : (xs ys : List Datum) (datum : Result Datum SdfError) → AreAlike xs ys → BothAlike (datum >>= (λ d. ranged (xs ++ d ∷ []))) (datum >>= (λ d. ranged (ys ++ d ∷ [])))
datum_alike xs ys (Ok d) alike =
    let both = alike_push xs ys d alike in
    ranged_alike (xs ++ d ∷ []) (ys ++ d ∷ []) (are_in_range (ys ++ d ∷ [])) both (range_alike (xs ++ d ∷ []) (ys ++ d ∷ []) both) refl
datum_alike xs ys (Err e) alike = refl

with_alike : (xs ys : List Datum) (token : List ℕ) → AreAlike xs ys → BothAlike (data_with xs token) (data_with ys token)
unfolding data_with
with_alike xs ys token alike = elim (cases_Bool (is_absent token || is_star token)) [
  | inl none ↦ rw none (ap TooFewData alike.count)
  | inr some ↦ rw (some, alike.count) (datum_alike xs ys (datum_of (length ys + 1) token) alike)
]

-- so what follows them makes the same of both
alike_bind : (size : Size) (t : DataType) (missing : ℕ) (text : List ℕ) (a b : Result (List Datum) SdfError) → BothAlike a b
    → ((xs ys : List Datum) → AreAlike xs ys → ((decimals_from xs missing text >>= decimal_map size t) >>= trailed size) ≡ ((decimals_from ys missing text >>= decimal_map size t) >>= trailed size))
    → (((a >>= (λ ds. decimals_from ds missing text)) >>= decimal_map size t) >>= trailed size) ≡ (((b >>= (λ ds. decimals_from ds missing text)) >>= decimal_map size t) >>= trailed size)
alike_bind size t missing text (Ok xs) (Ok ys) both same = same xs ys both
alike_bind size t missing text (Ok xs) (Err f) both same = absurd both
alike_bind size t missing text (Err e) (Ok ys) both same = absurd both
alike_bind size t missing text (Err e) (Err f) both same = ap Err both

alike_from : (size : Size) (t : DataType) (missing : ℕ) (text : List ℕ) (xs ys : List Datum) → AreAlike xs ys
    → ((decimals_from xs missing text >>= decimal_map size t) >>= trailed size) ≡ ((decimals_from ys missing text >>= decimal_map size t) >>= trailed size)
unfolding decimals_from
alike_from size t zero text xs ys alike =
    let cells : cells_at (most_places_in xs) xs ≡ cells_at (most_places_in ys) ys = alike.cells (most_places_in xs) (omega arith) ∙ ap (λ q. cells_at q ys) alike.most in
    rw (cells, alike.most) refl
alike_from size t (suc missing) text xs ys alike =
    alike_bind size t missing (after_token text) (data_with xs (token_of text)) (data_with ys (token_of text)) (with_alike xs ys (token_of text) alike) (alike_from size t missing (after_token text))

pub decimal_in-alike : (size : Size) (t : DataType) (text : List ℕ) (xs ys : List Datum) → AreAlike xs ys → decimal_in size t xs text ≡ decimal_in size t ys text
unfolding decimal_in
decimal_in-alike size t text xs ys alike =
    ap (λ n. (decimals_from xs (cell_count size - n) text >>= decimal_map size t) >>= trailed size) alike.count ∙ alike_from size t (cell_count size - length ys) text xs ys alike

-- a datum is kept as its cell
cell_kept : (p q : ℕ) (d : Datum) → places_in d ≤ p → p ≤ q → cell_at q d ≡ cell_at q (datum_for p (cell_at p d))
cell_kept p q Unmeasured few more = refl
cell_kept p q (Measured negative units own) few more =
    let m : ℕ = units * 10 ^ (p - own) in
    let h : ℤ = signed_number negative m in
    let k : ℕ = 10 ^ (q - p) in
    ap (λ n. Height (signed_number negative n)) (steps_at-grow units own p q few more)
    ∙ ap Height (sym (product_of_signed negative m k) ∙ ap (λ z. z *ℤ pos k) (signed_of_size h) ∙ product_of_signed (int_lt h (pos 0)) (unsigned_abs h) k)

cells_kept : (p q : ℕ) (ds : List Datum) → most_places_in ds ≤ p → p ≤ q → cells_at q ds ≡ cells_at q (data_for p (cells_at p ds))
cells_kept p q [] few more = refl
cells_kept p q (d ∷ ds) few more = ap₂ (λ (c : Cell) (cs : List Cell). c ∷ cs) (cell_kept p q d (omega (arith, few)) more) (cells_kept p q ds (omega (arith, few)) more)

-- and keeps the places, where they are the most
most_few : (p : ℕ) (cs : List Cell) → most_places_in (data_for p cs) ≤ p
most_few p [] = omega arith
most_few p (Bad ∷ cs) = let more = most_few p cs in omega (arith, more)
most_few p (Height h ∷ cs) = let more = most_few p cs in omega (arith, more)

most_kept : (p : ℕ) (ds : List Datum) → most_places_in ds ≤ p → most_places_in ds ≤ most_places_in (data_for p (cells_at p ds))
most_kept p [] few = omega arith
most_kept p (Unmeasured ∷ ds) few = let more = most_kept p ds (omega (arith, few)) in omega (arith, more)
most_kept p (Measured negative units own ∷ ds) few = let more = most_kept p ds (omega (arith, few)) in omega (arith, more, few)

-- the data that a reader keeps
pub AreAlike-kept : (s : Scaled) (t : DataType) (ds : List Datum) → IsScaled s t ds → AreAlike ds (data_for s.places (wide_cells_in s.cells))
AreAlike-kept s t ds kept =
    let p : ℕ = s.places in
    let most = kept.places in
    let low = most_kept p ds (omega (arith, most)) in
    let high = most_few p (cells_at p ds) in
    subst (λ (cs : List Cell). AreAlike ds (data_for p cs)) (sym kept.cells) (record {
      count = sym (length-map (cells_at p ds) (datum_for p) ∙ length-map ds (cell_at p));
      most = omega (arith, low, high, most);
      cells = λ q enough. cells_kept p q ds (omega (arith, most)) (omega (arith, most, enough));
    })

pub IsScaled-kept_again : (s : Scaled) (t : DataType) (ds : List Datum) → IsScaled s t ds → IsScaled s t (data_for s.places (wide_cells_in s.cells))
IsScaled-kept_again s t ds kept =
    let alike = AreAlike-kept s t ds kept in
    let most = kept.places in
    record { cells = kept.cells ∙ alike.cells s.places (omega (arith, most)); places = kept.places ∙ alike.most; data_type = kept.data_type }
