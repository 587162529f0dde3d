-- A map whose points before an index are stroked.
use Rattle.std.proofs.Common.{◌≡◌, ◌≢◌, ◌<◌, ◌≤◌, ◌+◌, ℕ, zero, suc, Bool, true, false, List, map, get_or, set, sym, ap, ◌∙◌, inl, inr, arith, add-one, add-zero}
use Rattle.std.specs.Prelude.{nat_lt, if◌then◌else◌}
use Rattle.std.specs.List.{range_with_len}
use Rattle.std.proofs.Math.ListN.{length-set}
use Rattle.std.proofs.lemmas.Bool.{cases_lt, cases_eq}
use Rattle.std.proofs.lemmas.List.{get_or-set_same, get_or-set_other}
use Rattle.std.proofs.lemmas.List.FromFn.{length-map-range_with_len, get_or-map-range_with_len, fill_by_all}
use Rattle.hd_map.specs.declared.types.Pos.{Pos}
use Rattle.hd_map.specs.declared.types.Cell.{Cell}
use Rattle.hd_map.specs.declared.types.Cell.TheVariants.{Bad}
use Rattle.hd_map.specs.Map.{Map, IsMap, InGrid, cell_at, mask_at, cell_count, place_of, position_at}
use Rattle.hd_map.proofs.Points.{position_at-place, position_at-of, place_inside}
use Rattle.hd_edit.specs.declared.stroke.Stroke.{Stroke}
use Rattle.hd_edit.specs.Edit.{in_rectangle}
use Rattle.hd_edit.specs.Stroke.{cell_after, mask_after, new_cell, new_mask, stroked, stroked_at, count_below}
use Rattle.hd_edit.proofs.IfLess.{if-less, if-not_less}
use Rattle.hd_edit.proofs.Rectangles.{IsIn, in_rectangle-true}

-- new before an index, and old from there on
abbrev pub mix : {X : Type 0} → ℕ → (ℕ → X) → (ℕ → X) → ℕ → X
mix n new old k = if nat_lt k n then new k else old k

pub mix-before : {X : Type 0} (n : ℕ) (new old : ℕ → X) (k : ℕ) → k < n → mix n new old k ≡ new k
mix-before n new old k h = if-less k n (new k) (old k) h

pub mix-from : {X : Type 0} (n : ℕ) (new old : ℕ → X) (k : ℕ) → n ≤ k → mix n new old k ≡ old k
mix-from n new old k h = if-not_less k n (new k) (old k) h

mix-skip : {X : Type 0} (n n' : ℕ) (new old : ℕ → X) (k : ℕ) → n ≤ n' → (n ≤ k → k < n' → new k ≡ old k) → mix n new old k ≡ mix n' new old k
mix-skip n n' new old k on same = elim (cases_lt k n) [
  | inl before ↦ mix-before n new old k before ∙ sym (mix-before n' new old k (omega (arith, before, on)))
  | inr from ↦ elim (cases_lt k n') [
    | inl between ↦ mix-from n new old k from ∙ sym (same from between) ∙ sym (mix-before n' new old k between)
    | inr past ↦ mix-from n new old k from ∙ sym (mix-from n' new old k past)
  ]
]

pub mix-other : {X : Type 0} (n : ℕ) (new old : ℕ → X) (k : ℕ) → k ≢ n → mix n new old k ≡ mix (n + 1) new old k
mix-other n new old k other = mix-skip n (n + 1) new old k (omega arith) (λ from below. absurd (other (omega (arith, from, below))))

-- maps of the same lists are one
pub Map-same : (m : Map) (cells cells' : List Cell) (masks masks' : List Bool) → cells ≡ cells' → masks ≡ masks'
    → ◌≡◌ {A = Map} (record m { cells = cells; masks = masks }) (record m { cells = cells'; masks = masks' })
Map-same m cells cells' masks masks' one other = cc

at_most_one : (b : Bool) → (if b then 1 else 0) ≤ 1
at_most_one true = omega arith
at_most_one false = omega arith

-- lists of two functions that agree are one
pub map_range-same : {X : Type 0} (f g : ℕ → X) (count : ℕ) (d : X) → ((k : ℕ) → k < count → f k ≡ g k) → map f (range_with_len 0 count) ≡ map g (range_with_len 0 count)
map_range-same f g count d same = fill_by_all g (map f (range_with_len 0 count)) count d (length-map-range_with_len f 0 count)
    (λ k h. get_or-map-range_with_len f 0 count k k d h (omega arith) ∙ same k h)

-- a list of a function with one place set
pub map_range-set : {X : Type 0} (f g : ℕ → X) (count n : ℕ) (v d : X) → n < count → ((k : ℕ) → k ≢ n → k < count → f k ≡ g k) → v ≡ g n
    → set (map f (range_with_len 0 count)) n v ≡ map g (range_with_len 0 count)
map_range-set f g count n v d inside others here =
    let xs = map f (range_with_len 0 count) in
    let len = length-map-range_with_len f 0 count in
    fill_by_all g (set xs n v) count d (length-set xs n v ∙ len) (λ k h. elim (cases_eq k n) [
      | inl same ↦ rw same (get_or-set_same xs n v d (rw len inside) ∙ here)
      | inr other ↦ get_or-set_other xs n k v d other ∙ get_or-map-range_with_len f 0 count k k d h (omega arith) ∙ others k other h
    ])

module _ (m : Map) (from to : Pos) (s : Stroke) where
  -- the cell and the mask at an index, before and after
  abbrev pub old_cells : ℕ → Cell
  old_cells k = cell_at m (position_at m.size k)

  abbrev pub old_masks : ℕ → Bool
  old_masks k = mask_at m (position_at m.size k)

  abbrev pub new_cells : ℕ → Cell
  new_cells k = new_cell m from to s (position_at m.size k)

  abbrev pub new_masks : ℕ → Bool
  new_masks k = new_mask m from to s (position_at m.size k)

  -- the map whose points before the index n are stroked
  abbrev pub partly : ℕ → Map
  partly n = record m { cells = map (mix n new_cells old_cells) (range_with_len 0 (cell_count m.size)); masks = map (mix n new_masks old_masks) (range_with_len 0 (cell_count m.size)) }

  -- no point of the rectangle has an index from the first number to the second
  abbrev pub NoneFrom : ℕ → ℕ → Type 0
  NoneFrom n n' = (k : ℕ) → n ≤ k → k < n' → in_rectangle from to (position_at m.size k) ≡ false

  -- a point of the rectangle is stroked
  pub new_cell-in : (at : Pos) → IsIn from to at → new_cell m from to s at ≡ cell_after s (cell_at m at) (mask_at m at)
  new_cell-in at is = rw (in_rectangle-true from to at is)

  pub new_mask-in : (at : Pos) → IsIn from to at → new_mask m from to s at ≡ mask_after s (mask_at m at)
  new_mask-in at is = rw (in_rectangle-true from to at is)

  -- a point outside the rectangle stays
  stays_cell : (k : ℕ) → in_rectangle from to (position_at m.size k) ≡ false → new_cells k ≡ old_cells k
  stays_cell k out = rw out

  stays_mask : (k : ℕ) → in_rectangle from to (position_at m.size k) ≡ false → new_masks k ≡ old_masks k
  stays_mask k out = rw out

  -- over indexes without a point of the rectangle nothing changes
  pub partly-skip : (n n' : ℕ) → n ≤ n' → NoneFrom n n' → partly n ≡ partly n'
  partly-skip n n' on none = Map-same m
      (map (mix n new_cells old_cells) (range_with_len 0 (cell_count m.size))) (map (mix n' new_cells old_cells) (range_with_len 0 (cell_count m.size)))
      (map (mix n new_masks old_masks) (range_with_len 0 (cell_count m.size))) (map (mix n' new_masks old_masks) (range_with_len 0 (cell_count m.size)))
      (map_range-same (mix n new_cells old_cells) (mix n' new_cells old_cells) (cell_count m.size) Bad (λ k h. mix-skip n n' new_cells old_cells k on (λ from' to'. stays_cell k (none k from' to'))))
      (map_range-same (mix n new_masks old_masks) (mix n' new_masks old_masks) (cell_count m.size) false (λ k h. mix-skip n n' new_masks old_masks k on (λ from' to'. stays_mask k (none k from' to'))))

  -- at first nothing is stroked
  pub partly-none : IsMap m → partly 0 ≡ m
  partly-none whole = Map-same m
      (map (mix 0 new_cells old_cells) (range_with_len 0 (cell_count m.size))) m.cells
      (map (mix 0 new_masks old_masks) (range_with_len 0 (cell_count m.size))) m.masks
      (sym (fill_by_all (mix 0 new_cells old_cells) m.cells (cell_count m.size) Bad whole.cells
      (λ k h. sym (mix-from 0 new_cells old_cells k (omega arith) ∙ ap (λ i. get_or m.cells i Bad) (position_at-place m.size k whole.size.some_points)))))
      (sym (fill_by_all (mix 0 new_masks old_masks) m.masks (cell_count m.size) false whole.masks
      (λ k h. sym (mix-from 0 new_masks old_masks k (omega arith) ∙ ap (λ i. get_or m.masks i false) (position_at-place m.size k whole.size.some_points)))))

  -- past the last index all is stroked
  pub partly-all : (n : ℕ) → cell_count m.size ≤ n → partly n ≡ stroked m from to s
  partly-all n past = Map-same m
      (map (mix n new_cells old_cells) (range_with_len 0 (cell_count m.size))) (map new_cells (range_with_len 0 (cell_count m.size)))
      (map (mix n new_masks old_masks) (range_with_len 0 (cell_count m.size))) (map new_masks (range_with_len 0 (cell_count m.size)))
      (map_range-same (mix n new_cells old_cells) new_cells (cell_count m.size) Bad (λ k h. mix-before n new_cells old_cells k (omega (arith, h, past))))
      (map_range-same (mix n new_masks old_masks) new_masks (cell_count m.size) false (λ k h. mix-before n new_masks old_masks k (omega (arith, h, past))))

  module _ (at : Pos) (inside : InGrid m.size at) where
    -- the point that comes next is as it was
    pub partly-cell : cell_at (partly (place_of m.size at)) at ≡ cell_at m at
    partly-cell =
        let n = place_of m.size at in
        get_or-map-range_with_len (mix n new_cells old_cells) 0 (cell_count m.size) n n Bad (place_inside m.size at inside) (omega arith)
        ∙ mix-from n new_cells old_cells n (omega arith) ∙ ap (cell_at m) (position_at-of m.size at inside)

    pub partly-mask : mask_at (partly (place_of m.size at)) at ≡ mask_at m at
    partly-mask =
        let n = place_of m.size at in
        get_or-map-range_with_len (mix n new_masks old_masks) 0 (cell_count m.size) n n false (place_inside m.size at inside) (omega arith)
        ∙ mix-from n new_masks old_masks n (omega arith) ∙ ap (mask_at m) (position_at-of m.size at inside)

    -- once the point at the index is stroked, the index is one more
    pub partly-stroked : IsIn from to at → stroked_at s at (partly (place_of m.size at)) ≡ partly (place_of m.size at + 1)
    partly-stroked is =
        let n = place_of m.size at in
        let new_cell-here : cell_after s (cell_at m at) (mask_at m at) ≡ new_cells n = sym (ap (new_cell m from to s) (position_at-of m.size at inside) ∙ new_cell-in at is) in
        let new_mask-here : mask_after s (mask_at m at) ≡ new_masks n = sym (ap (new_mask m from to s) (position_at-of m.size at inside) ∙ new_mask-in at is) in
        Map-same m
        (set (partly n).cells n (cell_after s (cell_at (partly n) at) (mask_at (partly n) at))) (partly (n + 1)).cells
        (set (partly n).masks n (mask_after s (mask_at (partly n) at))) (partly (n + 1)).masks
        (map_range-set (mix n new_cells old_cells) (mix (n + 1) new_cells old_cells) (cell_count m.size) n (cell_after s (cell_at (partly n) at) (mask_at (partly n) at)) Bad
        (place_inside m.size at inside)
        (λ k other h. mix-other n new_cells old_cells k other)
        (ap (λ c. cell_after s c (mask_at (partly n) at)) partly-cell ∙ ap (cell_after s (cell_at m at)) partly-mask ∙ new_cell-here ∙ sym (mix-before (n + 1) new_cells old_cells n (omega arith))))
        (map_range-set (mix n new_masks old_masks) (mix (n + 1) new_masks old_masks) (cell_count m.size) n (mask_after s (mask_at (partly n) at)) false (place_inside m.size at inside)
        (λ k other h. mix-other n new_masks old_masks k other)
        (ap (mask_after s) partly-mask ∙ new_mask-here ∙ sym (mix-before (n + 1) new_masks old_masks n (omega arith))))

-- a count at one more
pub count_below-more : (p : ℕ → Bool) (n : ℕ) → count_below p (n + 1) ≡ count_below p n + (if p n then 1 else 0)
count_below-more p n = rw add-one

-- a count over numbers that do not pass stays
pub count_below-skip : (p : ℕ → Bool) (n n' : ℕ) → n ≤ n' → ((k : ℕ) → n ≤ k → k < n' → p k ≡ false) → count_below p n ≡ count_below p n'
count_below-skip p n zero on none = let e : n ≡ 0 = omega (arith, on) in ap (count_below p) e
count_below-skip p n (suc n') on none = elim (cases_lt n (suc n')) [
  | inl less ↦ rw (none n' (omega (arith, less)) (omega arith)) (count_below-skip p n n' (omega (arith, less)) (λ k h below. none k h (omega (arith, below))) ∙ sym (add-zero (count_below p n')))
  | inr more ↦ let e : n ≡ suc n' = omega (arith, on, more) in ap (count_below p) e
]

-- a count up to a greater number is not less
pub count_below-grows : (p : ℕ → Bool) (n n' : ℕ) → n ≤ n' → count_below p n ≤ count_below p n'
count_below-grows p n zero on = let e : n ≡ 0 = omega (arith, on) in rw e (omega arith)
count_below-grows p n (suc n') on = elim (cases_lt n (suc n')) [
  | inl less ↦ omega (arith, count_below-grows p n n' (omega (arith, less)))
  | inr more ↦ let e : n ≡ suc n' = omega (arith, on, more) in rw e (omega arith)
]

-- no more numbers below n pass than there are
pub count_below-few : (p : ℕ → Bool) (n : ℕ) → count_below p n ≤ n
count_below-few p zero = omega arith
count_below-few p (suc n) = let one = at_most_one (p n) in omega (arith, count_below-few p n, one)
