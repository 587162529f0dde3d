-- What is packed is read again, and a point that is set or added keeps the others.
use Rattle.std.proofs.Common.{◌≡◌, ◌<◌, ◌+◌, ◌-◌, ◌*ℤ◌, ◌++◌, ◌≤◌, ◌&&◌, ℕ, ℤ, zero, suc, Bool, false, not, Some, None, List, [], ◌∷◌, length, get_or}
use Rattle.std.proofs.Common.{set, take, drop, map, replicate, inl, inr, ap, ap₂, append-nil, sym, refl, ◌∙◌, arith}
use Rattle.std.specs.Int.{int_wrap, w64}
use Rattle.std.specs.Prelude.{if◌then◌else◌}
use Rattle.std.specs.Simd.Lanes.{zip2}
use Rattle.std.proofs.Math.Seq.{map-set_same, take-append_seam}
use Rattle.std.proofs.lemmas.Bool.{cases_Bool, cases_lt}
use Rattle.std.proofs.lemmas.Int.{int_wrap_fits}
use Rattle.std.proofs.lemmas.List.{get_or_default, get_or-replicate, length-append, length-replicate, length-map, map-append, map-set}
use Rattle.std.proofs.lemmas.List.{get_or-append_right, get_or-map, get_or_append_left, get_or_push, replicate-append-replicate, replicate_more}
use Rattle.std.proofs.lemmas.List.{take_more_set, take_all, drop_all, length_push}
use Rattle.std.proofs.lemmas.List.Edits.{map_over_more}
use Rattle.std.proofs.lemmas.Simd.{get_or-zip2, length-zip2}
use Rattle.hd_map.specs.declared.types.Adjacency.{Adjacency}
use Rattle.hd_map.specs.declared.types.Adjacency.TheVariants.{Eight}
use Rattle.hd_map.specs.declared.types.Pos.{Pos}
use Rattle.hd_map.specs.declared.types.Size.{Size}
use Rattle.hd_map.specs.declared.types.Cell.{Cell}
use Rattle.hd_map.specs.declared.types.Cell.TheVariants.{Height, Bad}
use Rattle.hd_map.specs.declared.types.DataType.{DataType}
use Rattle.hd_map.specs.declared.mark.Mark.{Mark}
use Rattle.hd_map.specs.declared.mark.Mark.TheVariants.{Shown, Masked, Unmeasured, MaskedUnmeasured}
use Rattle.hd_map.specs.Map.{Map, InGrid, IsMap, IsSize, IsCellOf, most_places, places_of, AreCellsOf, cell_count, place_of, cell_at, height_at, mask_at, shown_height}
use Rattle.hd_map.specs.Sets.{with_cell, with_mask}
use Rattle.hd_map.specs.Unmasked.{unmasked, unmeasured_map}
use Rattle.hd_map.specs.Packing.{measures, masks, as_it_is, cell_from, kept_cells, kept_map, multiplied}
use Rattle.hd_map.specs.UnmaskedMarks.{AreUnmasked}
use Rattle.hd_map.proofs.DataTypes.{in_64_bits}
use Rattle.hd_map.proofs.Points.{place_inside}

module _ {X Y Z : Type 0} (f : X → Y → Z) where
  -- a pair that is set in two lists
  zip2-set : (xs : List X) (ys : List Y) (i : ℕ) (x : X) (y : Y) → zip2 f (set xs i x) (set ys i y) ≡ set (zip2 f xs ys) i (f x y)
  zip2-set [] ys i x y = refl
  zip2-set (a ∷ xs) [] zero x y = refl
  zip2-set (a ∷ xs) [] (suc i) x y = refl
  zip2-set (a ∷ xs) (b ∷ ys) zero x y = refl
  zip2-set (a ∷ xs) (b ∷ ys) (suc i) x y = ap (λ zs. f a b ∷ zs) (zip2-set xs ys i x y)

  -- one that f cannot tell from what was there
  zip2-set_same : (xs : List X) (ys : List Y) (i : ℕ) (y d : Y) → ((x : X) → f x y ≡ f x (get_or ys i d)) → zip2 f xs (set ys i y) ≡ zip2 f xs ys
  zip2-set_same [] ys i y d same = refl
  zip2-set_same (a ∷ xs) [] i y d same = refl
  zip2-set_same (a ∷ xs) (b ∷ ys) zero y d same = ap (λ z. z ∷ zip2 f xs ys) (same a)
  zip2-set_same (a ∷ xs) (b ∷ ys) (suc i) y d same = ap (λ zs. f a b ∷ zs) (zip2-set_same xs ys i y d same)

  -- a pair that is added to two lists
  zip2-push : (xs : List X) (ys : List Y) (x : X) (y : Y) → length xs ≡ length ys → zip2 f (xs ++ x ∷ []) (ys ++ y ∷ []) ≡ zip2 f xs ys ++ f x y ∷ []
  zip2-push [] [] x y e = refl
  zip2-push [] (b ∷ ys) x y e = absurd (omega arith)
  zip2-push (a ∷ xs) [] x y e = absurd (omega arith)
  zip2-push (a ∷ xs) (b ∷ ys) x y e = ap (λ zs. f a b ∷ zs) (zip2-push xs ys x y (omega arith))

  -- pairs that are added to two lists
  zip2-append : (xs us : List X) (ys vs : List Y) → length xs ≡ length ys → zip2 f (xs ++ us) (ys ++ vs) ≡ zip2 f xs ys ++ zip2 f us vs
  zip2-append [] us [] vs e = refl
  zip2-append [] us (b ∷ ys) vs e = absurd (omega arith)
  zip2-append (a ∷ xs) us [] vs e = absurd (omega arith)
  zip2-append (a ∷ xs) us (b ∷ ys) vs e = ap (λ zs. f a b ∷ zs) (zip2-append xs us ys vs (omega arith))

-- what a mark shows of a number
shown_by : {H : Type 0} (height : H → ℤ) (number : H) (mark : Mark) → shown_height (cell_from height number mark) (masks mark)
    ≡ (if measures mark && not (masks mark) then Some (height number) else None)
shown_by height number Shown = refl
shown_by height number Masked = refl
shown_by height number Unmeasured = refl
shown_by height number MaskedUnmeasured = refl

-- a map of these cells and masks
abbrev with_lists : Size → DataType → Adjacency → List Cell → List Bool → Map
with_lists s t adjacency cells covers = record { size = s; data_type = t; cells = cells; masks = covers; adjacency = adjacency }

-- a kept map with the mark that was read at a position
module _ {H : Type 0} (height : H → ℤ) (s : Size) (t : DataType) (numbers : List H) (marks : List Mark) (adjacency : Adjacency) (paired : length numbers ≡ length marks)
    (whole : IsMap (kept_map height s t numbers marks adjacency)) (at : Pos) (k : ℕ) (here : k ≡ place_of s at) (below : k < cell_count s) (mark : Mark) (is : mark ≡ get_or marks k mark) where
  abbrev kept : Map
  kept = kept_map height s t numbers marks adjacency

  inside : k < length marks
  inside = rw (sym (length-map marks masks) ∙ whole.masks) below

  -- the cell is that of the number and the mark
  pub cell_read : (d : H) → cell_at kept at ≡ cell_from height (get_or numbers k d) mark
  cell_read d = ap (λ (i : ℕ). get_or kept.cells i Bad) (sym here) ∙ get_or-zip2 (cell_from height) numbers marks k d mark Bad (rw paired inside) inside
      ∙ ap (cell_from height (get_or numbers k d)) (sym is)

  mask_read : mask_at kept at ≡ masks mark
  mask_read = ap (λ (i : ℕ). get_or kept.masks i false) (sym here) ∙ get_or-map masks marks k mark false inside ∙ ap masks (sym is)

  -- none is read where the mark does not measure
  pub bad_read : H → measures mark ≡ false → cell_at kept at ≡ Bad
  bad_read d unmeasured = cell_read d ∙ rw unmeasured refl

  -- the height that shows is that of the number and the mark
  pub height_read : (d : H) → shown_height (cell_from height (get_or numbers k d) mark) (masks mark) ≡ shown_height (cell_at kept at) (mask_at kept at)
  height_read d = rw (cell_read d, mask_read) refl

  -- setting a number and a mark sets the cell, where the mask stays
  pub cell_set : (number : H) (new : Mark) (cell : Cell) → cell_from height number new ≡ cell → masks new ≡ masks mark
      → kept_map height s t (set numbers k number) (set marks k new) adjacency ≡ with_cell kept at cell
  cell_set number new cell packs stays =
      ap (λ covers. with_lists s t adjacency (zip2 (cell_from height) (set numbers k number) (set marks k new)) covers) (map-set_same masks marks k new mark (stays ∙ ap masks is))
      ∙ ap (λ cells. with_lists s t adjacency cells kept.masks) (zip2-set (cell_from height) numbers marks k number new ∙ ap (λ c. set kept.cells k c) packs
      ∙ ap (λ (i : ℕ). set kept.cells i cell) here)

  -- setting a mark sets the mask, where the mark measures as the one before
  pub mask_set : (new : Mark) (masked : Bool) → measures new ≡ measures mark → masks new ≡ masked → kept_map height s t numbers (set marks k new) adjacency ≡ with_mask kept at masked
  mask_set new masked stays covers =
      ap (λ cells. with_lists s t adjacency cells (map masks (set marks k new))) (zip2-set_same (cell_from height) numbers marks k new mark (λ number. rw (stays ∙ ap measures is) refl))
      ∙ ap (λ covers. with_lists s t adjacency kept.cells covers) (map-set masks marks k new ∙ ap (λ m. set kept.masks k m) covers ∙ ap (λ (i : ℕ). set kept.masks i masked) here)

-- the height at a position is that of the number there, where the mark there shows it
module _ {H : Type 0} (height : H → ℤ) (s : Size) (t : DataType) (numbers ns : List H) (marks ms : List Mark) (adjacency : Adjacency) (paired : length numbers ≡ length marks)
    (whole : IsMap (kept_map height s t numbers marks adjacency)) (same : ns ≡ numbers) (alike : ms ≡ marks) where
  pub height_shown : (at : Pos) → InGrid s at → (shown : Bool) → shown ≡ (measures (get_or ms (place_of s at) Shown) && not (masks (get_or ms (place_of s at) Shown))) → (d : H)
      → height_at (kept_map height s t numbers marks adjacency) at ≡ (if shown then Some (height (get_or ns (place_of s at) d)) else None)
  height_shown at within shown is d =
      let k : ℕ = place_of s at in
      let mark : Mark = get_or marks k Shown in
      let below : k < cell_count s = place_inside s at within in
      let marked : k < length marks = omega (arith, below, sym (length-map marks masks) ∙ whole.masks) in
      sym (height_read height s t numbers marks adjacency paired whole at k refl below mark (get_or_default marks k Shown mark marked) d)
      ∙ shown_by height (get_or numbers k d) mark
      ∙ ap (λ (b : Bool). if b then Some (height (get_or numbers k d)) else None) (ap (λ (list : List Mark). measures (get_or list k Shown) && not (masks (get_or list k Shown))) (sym alike) ∙ sym is)
      ∙ ap (λ (list : List H). if shown then Some (height (get_or list k d)) else None) (sym same)

-- the last number that was added is taken again
pub popped : {X : Type 0} (xs zs : List X) (x : X) (count : ℕ) → count ≡ length xs + 1 → zs ≡ take (count - 1) (xs ++ x ∷ []) → zs ≡ xs
popped xs zs x count one_more is = is ∙ ap (λ n. take n (xs ++ x ∷ [])) (let last : count - 1 ≡ length xs = omega (arith, one_more) in last) ∙ take-append_seam xs (x ∷ [])

-- cells of a data type, with one more
are_cells_push : (t : DataType) (cells : List Cell) (cell : Cell) → AreCellsOf t cells → IsCellOf t cell → AreCellsOf t (cells ++ cell ∷ [])
are_cells_push t cells cell before last = λ k inside.
    let count : length (cells ++ cell ∷ []) ≡ length cells + 1 = length_push cells cell in
    elim (cases_lt k (length cells)) [
      | inl earlier ↦ rw (get_or_append_left cells (cell ∷ []) Bad k earlier) (before k earlier)
      | inr not ↦ let at_end : length cells ≡ k = omega arith in rw (get_or_push cells cell Bad k at_end) last
    ]

-- a number and a mark that are added to the kept ones
module _ {H : Type 0} (height : H → ℤ) (numbers : List H) (marks : List Mark) (paired : length numbers ≡ length marks) (number : H) (mark : Mark) where
  -- they are as many as before, each with one more
  pub paired_push : length (numbers ++ number ∷ []) ≡ length (marks ++ mark ∷ [])
  paired_push = length_push numbers number ∙ ap (λ n. n + 1) paired ∙ sym (length_push marks mark)

  -- their cell comes after the others
  pub cells_push : kept_cells height (numbers ++ number ∷ []) (marks ++ mark ∷ []) ≡ kept_cells height numbers marks ++ cell_from height number mark ∷ []
  cells_push = zip2-push (cell_from height) numbers marks number mark paired

  -- each cell is of the data type
  pub of_type_push : (t : DataType) → AreCellsOf t (kept_cells height numbers marks) → IsCellOf t (cell_from height number mark)
      → AreCellsOf t (kept_cells height (numbers ++ number ∷ []) (marks ++ mark ∷ []))
  of_type_push t before last = rw cells_push (are_cells_push t (kept_cells height numbers marks) (cell_from height number mark) before last)

-- no mask is set, with one more
pub unmasked_push : (marks : List Mark) (mark : Mark) → map masks marks ≡ replicate (length marks) false → masks mark ≡ false
    → map masks (marks ++ mark ∷ []) ≡ replicate (length (marks ++ mark ∷ [])) false
unmasked_push marks mark before clear =
    map-append masks marks (mark ∷ []) ∙ ap (λ ms. ms ++ masks mark ∷ []) before ∙ ap (λ m. replicate (length marks) false ++ m ∷ []) clear
    ∙ replicate_more (length marks) false ∙ ap (λ n. replicate n false) (sym (length_push marks mark))

-- the numbers from some place on are taken again
pub cut_back : {X : Type 0} (xs ys zs : List X) (count : ℕ) → count ≡ length xs → zs ≡ take count (xs ++ ys) → zs ≡ xs
cut_back xs ys zs count is cut = cut ∙ ap (λ n. take n (xs ++ ys)) is ∙ take-append_seam xs ys

-- cells of a data type, with others
are_cells_append : (t : DataType) (cells more : List Cell) → AreCellsOf t cells → AreCellsOf t more → AreCellsOf t (cells ++ more)
are_cells_append t cells more before others = λ k inside.
    let count : length (cells ++ more) ≡ length cells + length more = length-append cells more in
    elim (cases_lt k (length cells)) [
      | inl earlier ↦ rw (get_or_append_left cells more Bad k earlier) (before k earlier)
      | inr later ↦ rw (get_or-append_right cells more (length cells) k Bad refl (omega arith)) (others (k - length cells) (omega (arith, inside, count)))
    ]

-- numbers and marks that are added to the kept ones
module _ {H : Type 0} (height : H → ℤ) (numbers more : List H) (marks others : List Mark) (paired : length numbers ≡ length marks) (matched : length more ≡ length others) where
  pub paired_append : length (numbers ++ more) ≡ length (marks ++ others)
  paired_append = length-append numbers more ∙ ap₂ (λ (m n : ℕ). m + n) paired matched ∙ sym (length-append marks others)

  -- their cells come after the others
  pub cells_append : kept_cells height (numbers ++ more) (marks ++ others) ≡ kept_cells height numbers marks ++ kept_cells height more others
  cells_append = zip2-append (cell_from height) numbers more marks others paired

  -- each cell is of the data type
  pub of_type_append : (t : DataType) → AreCellsOf t (kept_cells height numbers marks) → AreCellsOf t (kept_cells height more others)
      → AreCellsOf t (kept_cells height (numbers ++ more) (marks ++ others))
  of_type_append t before after = rw cells_append (are_cells_append t (kept_cells height numbers marks) (kept_cells height more others) before after)

-- no mask is set, with others
pub unmasked_append : (marks others : List Mark) → map masks marks ≡ replicate (length marks) false → map masks others ≡ replicate (length others) false
    → map masks (marks ++ others) ≡ replicate (length (marks ++ others)) false
unmasked_append marks others before after =
    map-append masks marks others ∙ ap₂ (λ (ms ns : List Bool). ms ++ ns) before after ∙ replicate-append-replicate (length marks) (length others) false
    ∙ ap (λ n. replicate n false) (sym (length-append marks others))

-- as many cells of a data type as a size says, none of them masked
module _ {H : Type 0} (height : H → ℤ) (s : Size) (t : DataType) (numbers : List H) (marks : List Mark) (adjacency : Adjacency) (paired : length numbers ≡ length marks)
    (clear : map masks marks ≡ replicate (length marks) false) (sized : length (kept_cells height numbers marks) ≡ cell_count s) where
  -- no mask of the map is set
  pub fresh_map : kept_map height s t numbers marks adjacency ≡ with_lists s t adjacency (kept_cells height numbers marks) (replicate (cell_count s) false)
  fresh_map =
      let count : length marks ≡ cell_count s = sym paired ∙ sym (length-zip2 (cell_from height) numbers marks paired) ∙ sized in
      ap (λ covers. with_lists s t adjacency (kept_cells height numbers marks) covers) (clear ∙ ap (λ n. replicate n false) count)

  -- they make a map
  pub fresh_whole : IsSize s → places_of t ≤ most_places → AreCellsOf t (kept_cells height numbers marks) → IsMap (kept_map height s t numbers marks adjacency)
  fresh_whole limits places of_type = rw fresh_map (record { size = limits; places = places; cells = sized; masks = length-replicate (cell_count s) false; heights = of_type })

-- one number and one mark, repeated, are cells that were not measured
module _ {H : Type 0} (height : H → ℤ) (number : H) where
  bad_cells : (n : ℕ) → kept_cells height (replicate n number) (replicate n Unmeasured) ≡ replicate n Bad
  bad_cells zero = refl
  bad_cells (suc n) = ap (λ cells. Bad ∷ cells) (bad_cells n)

  no_covers : (n : ℕ) → map masks (replicate n Unmeasured) ≡ replicate n false
  no_covers zero = refl
  no_covers (suc n) = ap (λ covers. false ∷ covers) (no_covers n)

  -- of as many as a size says the map is the one of which no point is measured
  pub unmeasured_is : (s : Size) (t : DataType) (numbers : List H) (marks : List Mark) → numbers ≡ replicate (cell_count s) number → marks ≡ replicate (cell_count s) Unmeasured
      → kept_map height s t numbers marks Eight ≡ unmeasured_map s t
  unmeasured_is s t numbers marks numbers_are marks_are =
      rw (numbers_are, marks_are) (ap (λ cells. with_lists s t Eight cells (map masks (replicate (cell_count s) Unmeasured))) (bad_cells (cell_count s))
      ∙ ap (with_lists s t Eight (replicate (cell_count s) Bad)) (no_covers (cell_count s)))

-- no point of it has a height, so it is a map
pub unmeasured_whole : (s : Size) (t : DataType) → IsSize s → places_of t ≤ most_places → IsMap (unmeasured_map s t)
unmeasured_whole s t limits places = record {
  size = limits;
  places = places;
  cells = length-replicate (cell_count s) Bad;
  masks = length-replicate (cell_count s) false;
  heights = λ k inside h is. (let e : Bad ≡ Height h = sym (get_or-replicate (cell_count s) k Bad Bad (rw (length-replicate (cell_count s) Bad) at inside)) ∙ is in cc);
}

-- the first marks have no mask, and measure what they measured
pub record AreCleared (before : List Mark) (count : ℕ) (marks : List Mark) : Type 0 where
  pub measured : map measures marks ≡ map measures before
  pub no_masks : take count (map masks marks) ≡ replicate count false

-- one more has no mask
pub more_cleared : (before : List Mark) (count : ℕ) (marks : List Mark) (mark new : Mark) → AreCleared before count marks → count < length marks
    → mark ≡ get_or marks count mark → measures new ≡ measures mark → masks new ≡ false → AreCleared before (count + 1) (set marks count new)
more_cleared before count marks mark new cleared below is stays clear = record {
  measured = map-set_same measures marks count new mark (stays ∙ ap measures is) ∙ cleared.measured;
  no_masks = ap (λ ms. take (count + 1) ms) (map-set masks marks count new) ∙ take_more_set (map masks marks) count (masks new) (rw (length-map marks masks) below)
      ∙ ap (λ ms. ms ++ masks new ∷ []) cleared.no_masks ∙ ap (λ m. replicate count false ++ m ∷ []) clear ∙ replicate_more count false;
}

-- marks that measure alike are as many
pub alike_length : (before marks : List Mark) → map measures marks ≡ map measures before → length marks ≡ length before
alike_length before marks alike = sym (length-map marks measures) ∙ ap length alike ∙ length-map before measures

-- all cleared, they are the marks without their masks
pub cleared_all : (before marks : List Mark) → AreCleared before (length before) marks → AreUnmasked before marks
cleared_all before marks cleared = record {
  measured = cleared.measured;
  no_masks = let long = alike_length before marks cleared.measured in
      sym (take_all (length before) (map masks marks) (omega (arith, long, length-map marks masks))) ∙ cleared.no_masks;
}

-- marks that measure alike keep the same cells
module _ {H : Type 0} (height : H → ℤ) where
  pub same_cells : (numbers : List H) (before marks : List Mark) → map measures marks ≡ map measures before → kept_cells height numbers marks ≡ kept_cells height numbers before
  same_cells [] before marks alike = refl
  same_cells (number ∷ numbers) [] [] alike = refl
  same_cells (number ∷ numbers) [] (b ∷ marks) alike = absurd (let e : suc (length marks) ≡ 0 = alike_length [] (b ∷ marks) alike in omega (arith, e))
  same_cells (number ∷ numbers) (a ∷ before) [] alike = absurd (let e : 0 ≡ suc (length before) = alike_length (a ∷ before) [] alike in omega (arith, e))
  same_cells (number ∷ numbers) (a ∷ before) (b ∷ marks) alike =
      let first : measures b ≡ measures a = ap (λ ms. get_or ms 0 false) alike in
      let rest : map measures marks ≡ map measures before = ap (drop 1) alike in
      rw first (ap (λ cells. cell_from height number a ∷ cells) (same_cells numbers before marks rest))

-- a kept map whose masks are all cleared
module _ {H : Type 0} (height : H → ℤ) (s : Size) (t : DataType) (numbers copy : List H) (before : List Mark) (adjacency : Adjacency) (whole : IsMap (kept_map height s t numbers before adjacency))
    (same : copy ≡ numbers) (marks : List Mark) (cleared : AreUnmasked before marks) where
  no_masks : map masks marks ≡ replicate (cell_count s) false
  no_masks = cleared.no_masks ∙ ap (λ n. replicate n false) (sym (length-map before masks) ∙ whole.masks)

  -- the numbers are as many as the marks
  pub unmasked_paired : length numbers ≡ length before → length copy ≡ length marks
  unmasked_paired paired = ap length same ∙ paired ∙ sym (alike_length before marks cleared.measured)

  -- it is the map without its masks
  pub unmasked_map : kept_map height s t copy marks Eight ≡ unmasked (kept_map height s t numbers before adjacency)
  unmasked_map =
      ap (λ covers. with_lists s t Eight (kept_cells height copy marks) covers) no_masks
      ∙ ap (λ cells. with_lists s t Eight cells (replicate (cell_count s) false)) (ap (λ ns. kept_cells height ns marks) same ∙ same_cells height numbers before marks cleared.measured)

  -- it is a map
  pub unmasked_whole : IsMap (kept_map height s t copy marks Eight)
  unmasked_whole = rw unmasked_map (record { size = whole.size; places = whole.places; cells = whole.cells; masks = length-replicate (cell_count s) false; heights = whole.heights })

-- heights that are multiplied in 64 bits are multiplied, where the products are of a data type
pub multiplied_cells : (t : DataType) (factor : ℤ) (heights : List ℤ) (marks : List Mark) → AreCellsOf t (map (multiplied factor) (kept_cells as_it_is heights marks))
    → kept_cells as_it_is (map (λ height. int_wrap w64 (height *ℤ factor)) heights) marks ≡ map (multiplied factor) (kept_cells as_it_is heights marks)
multiplied_cells t factor [] marks fits = refl
multiplied_cells t factor (height ∷ heights) [] fits = refl
multiplied_cells t factor (height ∷ heights) (mark ∷ marks) fits =
    let more = multiplied_cells t factor heights marks (λ k inside. fits (suc k) (omega arith)) in
    elim (cases_Bool (measures mark)) [
      | inl measured ↦
          let here : cell_from as_it_is (int_wrap w64 (height *ℤ factor)) mark ≡ multiplied factor (cell_from as_it_is height mark) =
          rw measured (ap Height (int_wrap_fits w64 (height *ℤ factor) (in_64_bits t (height *ℤ factor) (fits 0 (omega arith) (height *ℤ factor) (rw measured refl))))) in
          ap₂ (λ (c : Cell) (cs : List Cell). c ∷ cs) here more
      | inr other ↦ ap₂ (λ (c : Cell) (cs : List Cell). c ∷ cs) (rw other refl) more
    ]

-- numbers that are multiplied in 64 bits, one after another
module _ (factor shown : ℤ) (same : shown ≡ factor) (xs ys : List ℤ) (i : ℕ) where
  pub multiplied_more : (x product : ℤ) → i < length xs → ys ≡ map (λ number. int_wrap w64 (number *ℤ shown)) (take i xs) ++ drop i xs → x ≡ get_or ys i x → product ≡ int_wrap w64 (x *ℤ factor)
      → set ys i product ≡ map (λ number. int_wrap w64 (number *ℤ shown)) (take (i + 1) xs) ++ drop (i + 1) xs
  multiplied_more x product inside so_far here is =
      ap (λ p. set ys i p) (is ∙ ap (λ f. int_wrap w64 (x *ℤ f)) (sym same)) ∙ map_over_more (λ number. int_wrap w64 (number *ℤ shown)) xs ys i x inside so_far here

  pub multiplied_all : length xs ≤ i → ys ≡ map (λ number. int_wrap w64 (number *ℤ shown)) (take i xs) ++ drop i xs → ys ≡ map (λ number. int_wrap w64 (number *ℤ factor)) xs
  multiplied_all all so_far =
      so_far ∙ ap₂ (λ (first more : List ℤ). map (λ number. int_wrap w64 (number *ℤ shown)) first ++ more) (take_all i xs all) (drop_all i xs all)
      ∙ append-nil (map (λ number. int_wrap w64 (number *ℤ shown)) xs)
      ∙ ap (λ f. map (λ number. int_wrap w64 (number *ℤ f)) xs) same

-- cells whose heights were multiplied
pub multiplied_kept : (t : DataType) (factor shown : ℤ) → shown ≡ factor → (heights new : List ℤ) (marks : List Mark) → new ≡ map (λ number. int_wrap w64 (number *ℤ shown)) heights
    → AreCellsOf t (map (multiplied factor) (kept_cells as_it_is heights marks)) → kept_cells as_it_is new marks ≡ map (multiplied factor) (kept_cells as_it_is heights marks)
multiplied_kept t factor shown same heights new marks is fits =
    ap (λ ns. kept_cells as_it_is ns marks) (is ∙ ap (λ f. map (λ number. int_wrap w64 (number *ℤ f)) heights) same) ∙ multiplied_cells t factor heights marks fits
