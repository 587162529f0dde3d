-- Numbers drawn one after another, and the surface that they make.
use Rattle.std.proofs.Common.{◌≡◌, ◌<◌, ◌+◌, ◌^◌, ◌++◌, ◌∙◌, ℕ, pos, suc, false, List, [], ◌∷◌, refl, sym, ap, subst, arith}
use Rattle.std.specs.Prelude.{Some, codes}
use Rattle.std.proofs.lemmas.Int.{ints}
use Rattle.std.proofs.lemmas.List.{length-replicate}
use Rattle.std.proofs.lemmas.List.FromFn.{length-map-range_with_len, get_or-map-range_with_len, map-range_with_len_more}
use Rattle.hd_map.specs.declared.types.Cell.{Cell}
use Rattle.hd_map.specs.declared.types.Cell.TheVariants.{Bad}
use Rattle.hd_map.specs.declared.types.DataType.TheVariants.{U16}
use Rattle.hd_map.specs.declared.types.Size.{Size}
use Rattle.hd_map.specs.Map.{AreCellsOf, IsCellOf, IsMap, IsSize, Map, cell_count}
use Rattle.hd_num.specs.Decimal.{decimal_of}
use Rattle.hd_sdf_read.specs.File.{HasForms}
use Rattle.hd_sdf_read.specs.Grammar.{minus_one}
use Rattle.hd_demo.specs.Generator.{cell_in, drawn, drawn_cells, drawn_edit, drawn_map, draws_before, edit_by, file_on, height_in, next_draw, one}

-- a drawn number is below 2^32
pub next_draw-below : (s : ℕ) → next_draw s < 2 ^ 32
unfolding next_draw
next_draw-below s = omega arith

-- one more draw
pub drawn-more : (number n : ℕ) → drawn number (n + 1) ≡ next_draw (drawn number n)
drawn-more number n = let e : n + 1 ≡ suc n = omega arith in ap (drawn number) e

-- two more draws
pub drawn-twice : (number n last : ℕ) → last ≡ drawn number n → next_draw (next_draw last) ≡ drawn number (n + 2)
drawn-twice number n last is =
    let e : (n + 1) + 1 ≡ n + 2 = omega arith in
    ap (λ s. next_draw (next_draw s)) is ∙ ap next_draw (sym (drawn-more number n)) ∙ sym (drawn-more number (n + 1)) ∙ ap (drawn number) e

-- the draws before the next edit
pub draws_before-more : (size : Size) (number n last now : ℕ) → last ≡ drawn number (draws_before size n) → now ≡ next_draw (next_draw last) → now ≡ drawn number (draws_before size (n + 1))
draws_before-more size number n last now is more =
    let e : draws_before size n + 2 ≡ draws_before size (n + 1) = omega arith in
    more ∙ drawn-twice number (draws_before size n) last is ∙ ap (drawn number) e

-- the edit of the next two draws
pub edit_by-drawn : (size : Size) (number n last : ℕ) → last ≡ drawn number (draws_before size n) → edit_by size (next_draw last) (next_draw (next_draw last)) ≡ drawn_edit size number n
edit_by-drawn size number n last is =
    let k = draws_before size n in
    ap (λ s. edit_by size s (next_draw (next_draw last))) (ap next_draw is ∙ sym (drawn-more number k)) ∙ ap (edit_by size (drawn number (k + 1))) (drawn-twice number k last is)

-- the height that it makes is below 2^12
pub height_in-below : (s : ℕ) → s < 2 ^ 32 → height_in s < 2 ^ 12
height_in-below s below = omega (arith, below)

-- the cell that it makes is of the type
pub IsCellOf-drawn : (s : ℕ) → s < 2 ^ 32 → IsCellOf U16 (cell_in s)
IsCellOf-drawn s below h is =
    let same : pos (height_in s) ≡ h = cc in
    let small = height_in-below s below in
    grind (arith, ints)

-- and so are all
pub AreCellsOf-drawn : (number n : ℕ) → AreCellsOf U16 (drawn_cells number n)
AreCellsOf-drawn number n k inside h is =
    let f : ℕ → Cell = λ i. cell_in (drawn number (i + 1)) in
    let few : k < n = subst (λ (m : ℕ). k < m) (length-map-range_with_len f 0 n) inside in
    let here = get_or-map-range_with_len f 0 n k k Bad few (omega arith) in
    let below : drawn number (k + 1) < 2 ^ 32 = subst (λ (s : ℕ). s < 2 ^ 32) (sym (drawn-more number k)) (next_draw-below (drawn number k)) in
    IsCellOf-drawn (drawn number (k + 1)) below h (sym here ∙ is)

-- one more cell
pub drawn_cells-more : (number n last : ℕ) (before after : List Cell) (cell : Cell) → before ≡ drawn_cells number n → last ≡ drawn number n → cell ≡ cell_in (next_draw last)
    → after ≡ before ++ cell ∷ []
    → after ≡ drawn_cells number (n + 1)
drawn_cells-more number n last before after cell so_far last_is cell_is more =
    more ∙ ap (λ xs. xs ++ cell ∷ []) so_far ∙ ap (λ c. drawn_cells number n ++ c ∷ []) (cell_is ∙ ap (λ s. cell_in (next_draw s)) last_is ∙ ap cell_in (sym (drawn-more number n)))
    ∙ sym (map-range_with_len_more (λ i. cell_in (drawn number (i + 1))) 0 n n (omega arith))

-- the surface is one
pub IsMap-drawn_map : (size : Size) (number : ℕ) → IsSize size → IsMap (drawn_map size number)
IsMap-drawn_map size number within = record {
  size = within;
  places = omega arith;
  cells = length-map-range_with_len (λ i. cell_in (drawn number (i + 1))) 0 (cell_count size);
  masks = length-replicate (cell_count size) false;
  heights = AreCellsOf-drawn number (cell_count size);
}

-- what the two decimals write
one_reads : decimal_of (codes "1") ≡ Some one
unfolding decimal_of
one_reads = refl

minus_one_reads : decimal_of (codes "-1") ≡ Some minus_one
unfolding decimal_of
minus_one_reads = refl

-- the texts of the file have their forms
pub HasForms-file : (m : Map) → HasForms (file_on m)
HasForms-file m = record {
  manufac_id = refl;
  create_date = refl;
  mod_date = refl;
  x_scale = one_reads;
  y_scale = one_reads;
  z_scale = one_reads;
  z_resolution = minus_one_reads;
  few = omega arith;
  extra = refl;
  apart = refl;
  trailer = refl;
}
