-- A tile and what is beside it stand in a frame.
use Rattle.std.proofs.Common.{ℕ, ◌≡◌, ◌<◌, ◌≤◌, ◌+◌, ◌-◌, ◌*◌, ◌/◌, ◌%◌, ◌⊎◌, inl, inr, Bool, true, false, Option, Some, None, List, [], ◌∷◌, ◌++◌, length, length-append, sym, ◌∙◌, ap, refl, arith}
use Rattle.std.specs.Prelude.{ℤ, ◌≤ℤ◌, slice_index_or}
use Rattle.std.proofs.Math.Nat.{mul-le-mul_left, mul-le-mul_right}
use Rattle.std.proofs.lemmas.Bool.{cases_lt}
use Rattle.std.proofs.lemmas.Bool.Decides.{nat_tests}
use Rattle.std.proofs.Math.ListN.{get_or-eq_default}
use Rattle.std.proofs.lemmas.List.{get_or-replicate, get_or_append_left, get_or_push}
use Rattle.std.proofs.lemmas.Int.{ints}
use Rattle.std.proofs.lemmas.Nat.{same_from_place, div-add-mod', mul-le}
use Rattle.std.proofs.lemmas.List.FromFn.{get_or-map-range_with_len}
use Rattle.hd_map.specs.declared.types.Pos.{Pos}
use Rattle.hd_map.specs.declared.types.Size.{Size}
use Rattle.hd_map.specs.declared.types.Cell.{Cell}
use Rattle.hd_map.specs.declared.types.Cell.TheVariants.{Height, Bad}
use Rattle.hd_map.specs.declared.types.DataType.{DataType}
use Rattle.hd_map.specs.declared.types.Adjacency.{Adjacency}
use Rattle.hd_map.specs.Map.{Map, IsMap, IsCellOf, InGrid, least_height, greatest_height, place_of, cell_count, cell_at, mask_at, shown_height, height_at, position_at}
use Rattle.hd_map.proofs.DataTypes.{type_limits}
use Rattle.hd_map.specs.Neighbour.{IsNear}
use Rattle.hd_map.proofs.Gather.{same_pos}
use Rattle.hd_map.proofs.Points.{place_inside, position_at-of}
use Rattle.hd_basin.specs.declared.frame.Frame.{Frame}
use Rattle.hd_tiles.specs.Tile.{tiles_across}
use Rattle.hd_tiles.proofs.TilesAlong.{tiles_along-part, part-is}
use Rattle.hd_basin.specs.Views.{ShowSame}
use Rattle.hd_basin.specs.Frames.{AreFilled, at_step, InFrame, FitsGrid, HoldsRound, IsRoundOnly, is_in, seen_at, cell_of, any_type, framed_map, IsPartOf, IsWindow, ShowsFrame, moved, whole_frame}

-- the part of a number below the count of parts times another begins below the limit
pub part_start : (tile across limit t : ℕ) → 1 ≤ t → 1 ≤ across → tile < (limit + t - 1) / t * across → tile / across * t < limit
part_start tile across limit t some wide below =
    let part : tile / across < (limit + t - 1) / t = elim (cases_lt (tile / across) ((limit + t - 1) / t)) [
      | inl less ↦ less
      | inr more ↦ absurd (omega (arith, wide, below, mul-le-mul_right across more))
    ] in
    let more : tile / across + 1 ≤ (limit + t - 1) / t = omega (arith, part) in
    omega (arith, some, mul-le-mul_left t more)

-- a row of tiles has one at least
pub some_across : (s : Size) (t : ℕ) → 1 ≤ t → 1 ≤ s.points → 1 ≤ tiles_across s t
some_across s t some points = (let first = tiles_along-part 0 s.points t some points in omega (arith, first))

-- a part of those of a limit begins below the limit
pub column_start : (k limit t : ℕ) → 1 ≤ t → k < (limit + t - 1) / t → k * t < limit
column_start k limit t some below = (let more : k + 1 ≤ (limit + t - 1) / t = omega (arith, below) in omega (arith, some, mul-le-mul_left t more))

-- the row and the column of a tile from its number
pub tile_parts : (y x across tile : ℕ) → x < across → y * across + x ≡ tile → (tile / across ≡ y) × (tile % across ≡ x)
tile_parts y x across tile below e =
    let w = same_from_place (tile / across) (tile % across) y x across (omega (arith, below)) below (omega (arith, below, e)) in
    (w.0, w.1)

-- what is near a number of a part is in the stretch of that part
record Stretches (limit t part from count : ℕ) : Type 0 where
  fits : from + count ≤ limit
  begins : from ≡ part * t - 1
  after : (from + count ≡ limit) ⊎ (part * t + t + 1 ≤ from + count)

in_stretch : (limit t part from count x q : ℕ) → 1 ≤ t → Stretches limit t part from count → x / t ≡ part → IsNear x q → q < limit → (from ≤ q) × (q < from + count)
in_stretch limit t part from count x q some s e near below =
    let product : x / t * t ≡ part * t = ap (λ (k : ℕ). k * t) e in
    let low : part * t ≤ x = omega (arith, some, product) in
    let high : x < part * t + t = omega (arith, some, product) in
    (omega (arith, s.begins, near.0, near.1, low), elim s.after [ inl whole ↦ omega (arith, whole, below) | inr more ↦ omega (arith, more, near.1, high) ])

pub frame_holds : (s : Size) (t tile : ℕ) (f : Frame) → 1 ≤ t →
    f.left + f.columns ≤ s.points → f.left ≡ tile % tiles_across s t * t - 1 → (f.left + f.columns ≡ s.points) ⊎ (tile % tiles_across s t * t + t + 1 ≤ f.left + f.columns) →
    f.top + f.rows ≤ s.profiles → f.top ≡ tile / tiles_across s t * t - 1 → (f.top + f.rows ≡ s.profiles) ⊎ (tile / tiles_across s t * t + t + 1 ≤ f.top + f.rows) →
    HoldsRound s t tile f
frame_holds s t tile f some fit_x from_x after_x fit_y from_y after_y q inside round =
    let below = tiles_along-part round.from.x s.points t some round.in_grid.column in
    let parts = tile_parts (round.from.y / t) (round.from.x / t) (tiles_across s t) tile below round.in_tile in
    let x = in_stretch s.points t (tile % tiles_across s t) f.left f.columns round.from.x q.x some (record { fits = fit_x; begins = from_x; after = after_x })
    (sym parts.1) round.columns inside.column in
    let y = in_stretch s.profiles t (tile / tiles_across s t) f.top f.rows round.from.y q.y some (record { fits = fit_y; begins = from_y; after = after_y }) (sym parts.0) round.rows inside.profile in
    record { left = x.0; right = x.1; top = y.0; bottom = y.1 }

-- a place of the stretch of a part is near one of the part
record IsPlaced (limit t part q : ℕ) : Type 0 where
  near : ℕ
  below : near < limit
  in_part : near / t ≡ part
  is_near : IsNear near q

from_stretch : (limit t part from count q : ℕ) → 1 ≤ t → part * t < limit → from ≡ part * t - 1 → from + count ≤ limit → from + count ≤ part * t + t + 1 → from ≤ q
    → q < from + count → IsPlaced limit t part q
from_stretch limit t part from count q some begins starts fits ends low high = elim (cases_lt q (part * t)) [
  | inl early ↦ record { near = part * t; below = begins; in_part = part-is (part * t) part t 0 (omega arith) (omega arith); is_near = (omega (arith, starts, low), omega (arith, early)) }
  | inr here ↦ elim (cases_lt q (part * t + t)) [
    | inl inside ↦ record {
      near = q;
      below = omega (arith, high, fits);
      in_part = part-is q part t (q - part * t) (omega (arith, inside, here)) (omega
          (arith, here));
      is_near = (omega arith, omega arith);
    }
    | inr late ↦ record {
      near = part * t + t - 1;
      below = omega (arith, high, fits, late, some);
      in_part = part-is (part * t
          + t - 1) part t (t - 1) (omega arith) (omega (arith, some));
      is_near = (omega (arith, late), omega (arith, high, ends));
    }
  ]
]

pub frame_only : (s : Size) (t tile : ℕ) (f : Frame) → 1 ≤ t → 1 ≤ tiles_across s t → tile % tiles_across s t * t < s.points → tile / tiles_across s t * t < s.profiles →
    f.left ≡ tile % tiles_across s t * t - 1 → f.left + f.columns ≤ s.points → f.left + f.columns ≤ tile % tiles_across s t * t + t + 1 →
    f.top ≡ tile / tiles_across s t * t - 1 → f.top + f.rows ≤ s.profiles → f.top + f.rows ≤ tile / tiles_across s t * t + t + 1 →
    IsRoundOnly s t tile f
frame_only s t tile f some wide x_some y_some from_x fit_x to_x from_y fit_y to_y q inside =
    let x = from_stretch s.points t (tile % tiles_across s t) f.left f.columns q.x some x_some from_x fit_x to_x inside.left inside.right in
    let y = from_stretch s.profiles t (tile / tiles_across s t) f.top f.rows q.y some y_some from_y fit_y to_y inside.top inside.bottom in
    let from : Pos = record { x = x.near; y = y.near } in
    record {
      from = from;
      in_grid = record { column = x.below; profile = y.below };
      in_tile = ap (λ (k : ℕ). k * tiles_across s t + x.near / t) y.in_part ∙ ap (λ (k : ℕ). tile / tiles_across s t * tiles_across s t + k) x.in_part ∙ div-add-mod' tile (tiles_across s t);
      columns = x.is_near;
      rows = y.is_near;
    }

-- a frame that holds a tile and what is beside it shows it
pub frame-shows : (m n : Map) (t tile : ℕ) (f : Frame) → HoldsRound m.size t tile f → ShowsFrame m f n → ShowSame m n t tile
frame-shows m n t tile f holds shows = record { size = shows.size; adjacency = shows.adjacency; heights = λ q inside round. shows.heights q inside (holds q inside round) }

-- what is seen through a part is what its map shows
show-cell : (o : Option ℤ) → shown_height (cell_of o) false ≡ o
show-cell (Some h) = refl
show-cell None = refl

pub framed-height : (s : Size) (t : Adjacency) (f : Frame) (heights : List (Option ℤ)) (p : Pos) → InGrid s p → height_at (framed_map s t f heights) p ≡ seen_at f heights p
framed-height s t f heights p inside =
    let k : ℕ = place_of s p in
    let below : k < cell_count s = place_inside s p inside in
    let cell : cell_at (framed_map s t f heights) p ≡ cell_of (seen_at f heights (position_at s k)) =
    get_or-map-range_with_len (λ (k : ℕ). cell_of (seen_at f heights (position_at s k))) 0 (cell_count s) k k Bad below (omega arith) in
    let mask : mask_at (framed_map s t f heights) p ≡ false = get_or-replicate (cell_count s) k false false below in
    ap (λ (c : Cell). shown_height c (mask_at (framed_map s t f heights) p)) cell ∙ ap (shown_height (cell_of (seen_at f heights (position_at s k)))) mask
    ∙ show-cell (seen_at f heights (position_at s k)) ∙ ap (seen_at f heights) (position_at-of s p inside)

is_in-true : (f : Frame) (p : Pos) → InFrame f p → is_in f p ≡ true
is_in-true f p h = (let a = h.left in let b = h.right in let c = h.top in let d = h.bottom in grind (arith, nat_tests))

is_in-false : (f : Frame) (p : Pos) → (InFrame f p → ⊥) → is_in f p ≡ false
is_in-false f p outside = elim (is_in f p) as (λ v. is_in f p ≡ v → v ≡ false) [
  | true ↦ λ e. absurd (outside (record { left = grind (arith, nat_tests); right = grind (arith, nat_tests); top = grind (arith, nat_tests); bottom = grind (arith, nat_tests) }))
  | false ↦ λ e. refl
] refl

pub seen-inside : (f : Frame) (heights : List (Option ℤ)) (p : Pos) → InFrame f p → seen_at f heights p ≡ slice_index_or heights ((p.y - f.top) * f.columns + (p.x - f.left)) None
seen-inside f heights p h = rw (is_in-true f p h)

pub seen-outside : (f : Frame) (heights : List (Option ℤ)) (p : Pos) → (InFrame f p → ⊥) → seen_at f heights p ≡ None
seen-outside f heights p h = rw (is_in-false f p h)

-- the steps of a part lie in it
pub step-in_frame : (f : Frame) (k : ℕ) → k < f.columns * f.rows → InFrame f (at_step f k)
step-in_frame f k below =
    let wide : 1 ≤ f.columns = elim (cases_lt 0 f.columns) [
      | inl some ↦ omega (arith, some)
      | inr none ↦ absurd
          (let e : f.columns ≡ 0 = omega (arith, none) in let z : f.columns * f.rows ≡ 0 = ap (λ (n : ℕ). n * f.rows) e ∙ omega arith in omega (arith, z, below))
    ] in
    record {
      left = omega arith;
      right = omega (arith, wide);
      top = omega arith;
      bottom = elim (cases_lt (k / f.columns) f.rows) [
        | inl less ↦ omega (arith, less)
        | inr more ↦ absurd (omega (arith, wide, below, mul-le-mul_left f.columns more))
      ];
    }

-- and in the grid, if the part does
pub frame-in_grid : (s : Size) (f : Frame) (p : Pos) → FitsGrid s f → InFrame f p → InGrid s p
frame-in_grid s f p fits inside = record { column = omega arith; profile = omega arith }

-- each position of a part has its step
pub frame_step : (f : Frame) (p : Pos) → InFrame f p → ((p.y - f.top) * f.columns + (p.x - f.left) < f.columns * f.rows) × (at_step f ((p.y - f.top) * f.columns + (p.x - f.left)) ≡ p)
frame_step f p inside =
    let y : ℕ = p.y - f.top in
    let x : ℕ = p.x - f.left in
    let k : ℕ = y * f.columns + x in
    let narrow : x < f.columns = omega (arith, inside.left, inside.right) in
    let row : y + 1 ≤ f.rows = omega (arith, inside.top, inside.bottom) in
    let below : k < f.columns * f.rows = omega (arith, narrow, mul-le-mul_right f.columns row) in
    let parts = same_from_place (k / f.columns) (k % f.columns) y x f.columns (omega (arith, narrow)) narrow (omega (arith, narrow)) in
    let ex : f.left + k % f.columns ≡ p.x = omega (arith, parts.1, inside.left) in
    let ey : f.top + k / f.columns ≡ p.y = omega (arith, parts.0, inside.top) in
    (below, same_pos (at_step f k) p ex ey)

pub filled_more : (m : Map) (f : Frame) (n : ℕ) (heights : List (Option ℤ)) (o : Option ℤ) → AreFilled m f n heights → o ≡ height_at m (at_step f n) → AreFilled m f (n + 1) (heights ++ o ∷ [])
filled_more m f n heights o filled e = record {
  whole = simp length-append (omega (arith, filled.whole));
  each = λ k below. elim (cases_lt k n) [
    | inl less ↦ (let lt : k < length heights = omega (arith, less, filled.whole) in get_or_append_left heights (o ∷ []) None k lt ∙ filled.each k less)
    | inr more ↦ (let end : length heights ≡ k = omega (arith, below, more, filled.whole) in let same : n ≡ k = omega (arith, below, more) in
        get_or_push heights o None k end ∙ e ∙ ap (λ (j : ℕ). height_at m (at_step f j)) same)
  ];
}

-- a height that is shown is of the data type, and so within the limits of any
shown-range : (t : DataType) (c : Cell) (masked : Bool) (h : ℤ) → IsCellOf t c → shown_height c masked ≡ Some h → (least_height t ≤ℤ h) × (h ≤ℤ greatest_height t)
shown-range t (Height g) false h of e = of h (let same : g ≡ h = cc in ap Height same)
shown-range t (Height g) true h of e = absurd cc
shown-range t Bad masked h of e = absurd cc

in_limits : (t : DataType) (h : ℤ) → least_height t ≤ℤ h → h ≤ℤ greatest_height t → (least_height any_type ≤ℤ h) × (h ≤ℤ greatest_height any_type)
in_limits t h low high = (let limits = type_limits t in (omega (arith, ints, limits, low), omega (arith, ints, limits, high)))

-- the heights that were seen are
in_range : (m : Map) (f : Frame) (heights : List (Option ℤ)) → IsMap m → FitsGrid m.size f → AreFilled m f (f.columns * f.rows) heights → (k : ℕ) (h : ℤ)
    → slice_index_or heights k None ≡ Some h → (least_height any_type ≤ℤ h) × (h ≤ℤ greatest_height any_type)
in_range m f heights map fits filled k h e = elim (cases_lt k (f.columns * f.rows)) [
  | inl less ↦ (
      let at : Pos = at_step f k in
      let inside = frame-in_grid m.size f at fits (step-in_frame f k less) in
      let place : place_of m.size at < length m.cells = rw map.cells (place_inside m.size at inside) in
      let own = shown-range m.data_type (cell_at m at) (mask_at m at) h (map.heights (place_of m.size at) place) (sym (filled.each k less) ∙ e) in
      in_limits m.data_type h own.0 own.1)
  | inr more ↦ absurd (let out : slice_index_or heights k None ≡ None = get_or-eq_default heights None (omega (arith, more, filled.whole)) in cc)
]

-- the heights of all steps make a window
pub filled-window : (m : Map) (f : Frame) (heights : List (Option ℤ)) → IsMap m → FitsGrid m.size f → AreFilled m f (f.columns * f.rows) heights → IsWindow m.size f heights
filled-window m f heights map fits filled = record { size = map.size; fits = fits; whole = filled.whole; range = in_range m f heights map fits filled }

-- that shows the heights of the map
pub filled-shows : (m : Map) (f : Frame) (heights : List (Option ℤ)) → FitsGrid m.size f → AreFilled m f (f.columns * f.rows) heights → ShowsFrame m f (framed_map m.size m.adjacency f heights)
filled-shows m f heights fits filled = record {
  size = refl;
  adjacency = refl;
  heights = λ q inside within. (
      let step = frame_step f q within in
      let k : ℕ = (q.y - f.top) * f.columns + (q.x - f.left) in
      ap (height_at m) (sym step.1) ∙ sym (filled.each k step.0) ∙ sym (seen-inside f heights q within) ∙ sym (framed-height m.size m.adjacency f heights q inside));
}

-- the heights of a part are also those of a map of its own
abbrev pub own_size : Frame → Size
own_size f = record { points = f.columns; profiles = f.rows }

pub part-window : (s : Size) (f : Frame) (heights : List (Option ℤ)) → IsWindow s f heights → 1 ≤ f.columns → 1 ≤ f.rows → IsWindow (own_size f) (whole_frame (own_size f)) heights
part-window s f heights w columns rows =
    let right = w.fits.right in
    let bottom = w.fits.bottom in
    let size = w.size in
    let points = size.points in
    let profiles = size.profiles in
    let most = size.cells in
    let cells = mul-le f.rows f.columns s.profiles s.points (omega (arith, bottom)) (omega (arith, right)) in
    record {
      size = record { some_points = columns; points = omega (arith, right, points); some_profiles = rows; profiles = omega (arith, bottom, profiles); cells = omega (arith, cells, most) };
      fits = record { right = omega arith; bottom = omega arith };
      whole = w.whole;
      range = w.range;
    }

pub part-shows : (s : Size) (a : Adjacency) (f : Frame) (heights : List (Option ℤ)) → FitsGrid s f → IsPartOf (framed_map s a f heights) f (framed_map (own_size f) a (whole_frame (own_size f)) heights)
part-shows s a f heights fits = record {
  fits = fits;
  columns = refl;
  rows = refl;
  adjacency = refl;
  heights = λ q inside. (
      let column = inside.column in
      let profile = inside.profile in
      let own : InFrame (whole_frame (own_size f)) q = record { left = omega arith; right = omega (arith, column); top = omega arith; bottom = omega (arith, profile) } in
      let within : InFrame f (moved f q) = record { left = omega arith; right = omega (arith, column); top = omega arith; bottom = omega (arith, profile) } in
      let row : q.y - 0 ≡ f.top + q.y - f.top = omega arith in
      let across : q.x - 0 ≡ f.left + q.x - f.left = omega arith in
      framed-height (own_size f) a (whole_frame (own_size f)) heights q inside
      ∙ seen-inside (whole_frame (own_size f)) heights q own
      ∙ ap (λ (k : ℕ). slice_index_or heights (k * f.columns + (q.x - 0)) None) row
      ∙ ap (λ (k : ℕ). slice_index_or heights ((f.top + q.y - f.top) * f.columns + k) None) across
      ∙ sym (seen-inside f heights (moved f q) within)
      ∙ sym (framed-height s a f heights (moved f q) (frame-in_grid s f (moved f q) fits within)));
}

-- a height of such a map, by its place
pub inset-height : (s : Size) (a : Adjacency) (heights : List (Option ℤ)) (k : ℕ) (p : Pos) → InGrid s p → k ≡ place_of s p
    → slice_index_or heights k None ≡ height_at (framed_map s a (whole_frame s) heights) p
inset-height s a heights k p inside at =
    let column = inside.column in
    let profile = inside.profile in
    let within : InFrame (whole_frame s) p = record { left = omega arith; right = omega (arith, column); top = omega arith; bottom = omega (arith, profile) } in
    let row : p.y - 0 ≡ p.y = omega arith in
    let across : p.x - 0 ≡ p.x = omega arith in
    sym (framed-height s a (whole_frame s) heights p inside
    ∙ seen-inside (whole_frame s) heights p within
    ∙ ap (λ (n : ℕ). slice_index_or heights (n * s.points + (p.x - 0)) None) row
    ∙ ap (λ (n : ℕ). slice_index_or heights (p.y * s.points + n) None) across
    ∙ ap (λ (n : ℕ). slice_index_or heights n None) (sym at))
