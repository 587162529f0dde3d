-- The positions of a tile, and their places in its lists.
use Rattle.std.proofs.Common.{◌≡◌, ◌<◌, ◌≤◌, ◌+◌, ◌-◌, ◌*◌, ◌/◌, ◌%◌, ℕ, sym, ◌∙◌, ap, arith}
use Rattle.std.proofs.Math.Nat.{mul-le-mul_right}
use Rattle.std.proofs.lemmas.Nat.{div-add-mod', div-mul-add, mod-mul-add, mod_below, mul-le}
use Rattle.hd_map.proofs.Gather.{same_pos}
use Rattle.hd_map.specs.declared.types.Pos.{Pos}
use Rattle.hd_map.specs.declared.types.Size.{Size}
use Rattle.hd_map.specs.Map.{InGrid, Map, Present}
use Rattle.hd_tiles.specs.Tile.{tile_of, tiles_across}
use Rattle.hd_tiles.proofs.TilesAlong.{tiles_along-part, part-is}
use Rattle.hd_basin.specs.declared.frame.Frame.{Frame}
use Rattle.hd_basin.specs.Frames.{InFrame, FitsGrid}
use Rattle.hd_basin.specs.Inside.{place_of_frame}
use Rattle.hd_basin.specs.Parts.{place_in_tile, columns_from}
use Rattle.hd_basin.specs.Sinks.{IsArea, at_place}
use Rattle.hd_basin.proofs.Frames.{tile_parts, frame_step}
use Rattle.hd_map.specs.declared.types.Rank.{Rank}
use Rattle.hd_map.specs.Rank.{rank}
use Rattle.hd_map.proofs.Points.{rank_position}
use Rattle.hd_basin.specs.Basin.{tile_at}

-- the tile of a point is that of its position
pub tile-of_point : (m : Map) (t : ℕ) (r : Rank) (p : Pos) → Present m p → r ≡ rank m p → tile_at m.size t r ≡ tile_of m.size t p
tile-of_point m t r p here e = ap (tile_of m.size t) (rank_position m r p here e)

module _ (s : Size) (t tile : ℕ) (f : Frame) (some : 1 ≤ t) (area : IsArea s t tile f) where
  pub area-fits : FitsGrid s f
  area-fits = (let a = area.columns in let b = area.rows in let c = area.some_columns in let d = area.some_rows in record { right = omega (arith, a, c); bottom = omega (arith, b, d) })

  -- each position of the tile lies in it
  pub area-in : (p : Pos) → InGrid s p → tile_of s t p ≡ tile → InFrame f p
  area-in p inside at =
      let parts = tile_parts (p.y / t) (p.x / t) (tiles_across s t) tile (tiles_along-part p.x s.points t some inside.column) at in
      let left : f.left ≡ p.x / t * t = area.left ∙ ap (λ (k : ℕ). k * t) parts.1 in
      let top : f.top ≡ p.y / t * t = area.top ∙ ap (λ (k : ℕ). k * t) parts.0 in
      let x = div-add-mod' p.x t in
      let y = div-add-mod' p.y t in
      let x_rest = mod_below p.x t some in
      let y_rest = mod_below p.y t some in
      let columns = area.columns in
      let rows = area.rows in
      let column = inside.column in
      let profile = inside.profile in
      record {
        left = omega (arith, left, x);
        right = omega (arith, left, x, x_rest, columns, column);
        top = omega (arith, top, y);
        bottom = omega (arith, top, y, y_rest, rows, profile);
      }

  module _ (p : Pos) (within : InFrame f p) where
    x_part : p.x / t ≡ tile % tiles_across s t
    x_part = (let a = within.left in let b = within.right in let c = area.columns in let l = area.left in part-is p.x (tile % tiles_across s t) t (p.x - f.left)
        (omega (arith, a, b, c)) (omega (arith, a, l)))

    y_part : p.y / t ≡ tile / tiles_across s t
    y_part = (let a = within.top in let b = within.bottom in let c = area.rows in let l = area.top in part-is p.y (tile / tiles_across s t) t (p.y - f.top) (omega (arith, a, b, c))
        (omega (arith, a, l)))

    -- and it has no other
    pub area-grid : InGrid s p
    area-grid = (let fits = area-fits in let a = within.right in let b = within.bottom in record { column = omega (arith, a, fits.right); profile = omega (arith, b, fits.bottom) })

    pub area-tile : tile_of s t p ≡ tile
    area-tile = ap (λ (k : ℕ). k * tiles_across s t + p.x / t) y_part ∙ ap (λ (k : ℕ). tile / tiles_across s t * tiles_across s t + k) x_part ∙ div-add-mod' tile (tiles_across s t)

    -- its place in the lists of the tile is that in the rectangle
    pub area-place : place_in_tile s t p ≡ (p.y - f.top) * f.columns + (p.x - f.left)
    area-place =
        let left : p.x / t * t ≡ f.left = ap (λ (k : ℕ). k * t) x_part ∙ sym area.left in
        let top : p.y / t * t ≡ f.top = ap (λ (k : ℕ). k * t) y_part ∙ sym area.top in
        let x = div-add-mod' p.x t in
        let y = div-add-mod' p.y t in
        let rest_x : p.x % t ≡ p.x - f.left = omega (arith, left, x) in
        let rest_y : p.y % t ≡ p.y - f.top = omega (arith, top, y) in
        let wide : columns_from s t (p.x / t * t) ≡ f.columns = ap (columns_from s t) left ∙ sym area.columns in
        ap (λ (k : ℕ). k * columns_from s t (p.x / t * t) + p.x % t) rest_y ∙ ap (λ (k : ℕ). (p.y - f.top) * k + p.x % t) wide ∙ ap (λ (k : ℕ). (p.y - f.top) * f.columns + k) rest_x

    pub area-below : place_in_tile s t p < f.columns * f.rows
    area-below = rw area-place (frame_step f p within).0

    pub area-at : at_place f (place_in_tile s t p) ≡ p
    area-at = rw area-place (frame_step f p within).1

  -- two positions of the tile with one place are one
  pub area-one : (p q : Pos) → InFrame f p → InFrame f q → place_in_tile s t p ≡ place_in_tile s t q → p ≡ q
  area-one p q here there same = sym (area-at p here) ∙ ap (at_place f) same ∙ area-at q there

-- a place has its position alone
pub place-one : (f : Frame) (i j : ℕ) → i < f.columns * f.rows → j < f.columns * f.rows → at_place f i ≡ at_place f j → i ≡ j
place-one f i j bi bj e =
    let x : i % f.columns ≡ j % f.columns = (let ex = ap (λ (p : Pos). p.x) e in omega (arith, ex)) in
    let y : i / f.columns ≡ j / f.columns = (let ey = ap (λ (p : Pos). p.y) e in omega (arith, ey)) in
    let di = div-add-mod' i f.columns in
    let dj = div-add-mod' j f.columns in
    let product : i / f.columns * f.columns ≡ j / f.columns * f.columns = ap (λ (q : ℕ). q * f.columns) y in
    omega (arith, x, product, di, dj)

-- the position of a row and a column
pub place-at : (f : Frame) (i j : ℕ) → j < f.columns → at_place f (i * f.columns + j) ≡ record { x = f.left + j; y = f.top + i }
place-at f i j column = same_pos (at_place f (i * f.columns + j)) (record { x = f.left + j; y = f.top + i }) (ap (λ (k : ℕ). f.left + k) (mod-mul-add i f.columns j column))
    (ap (λ (k : ℕ). f.top + k) (div-mul-add i f.columns j column))

-- the place of a position, by the row and the column that it has
pub place-of-at : (f : Frame) (k : ℕ) (p : Pos) → at_place f k ≡ p → k ≡ (p.y - f.top) * f.columns + (p.x - f.left)
place-of-at f k p e =
    let x : k % f.columns ≡ p.x - f.left = (let ex = ap (λ (q : Pos). q.x) e in omega (arith, ex)) in
    let y : k / f.columns ≡ p.y - f.top = (let ey = ap (λ (q : Pos). q.y) e in omega (arith, ey)) in
    sym (div-add-mod' k f.columns) ∙ ap (λ (n : ℕ). n * f.columns + k % f.columns) y ∙ ap (λ (n : ℕ). (p.y - f.top) * f.columns + n) x

-- the place of a row and a column is one of those of the rectangle
pub place-below : (f : Frame) (i j : ℕ) → i < f.rows → j < f.columns → i * f.columns + j < f.columns * f.rows
place-below f i j row column = (let rows = mul-le-mul_right f.columns (let h : i + 1 ≤ f.rows = omega (arith, row) in h) in omega (arith, rows, column))

-- the position in a row and a column
abbrev pub point_in : Frame → ℕ → ℕ → Pos
point_in f i j = record { x = f.left + j; y = f.top + i }

pub point_in-frame : (f : Frame) (i j : ℕ) → i < f.rows → j < f.columns → InFrame f (point_in f i j)
point_in-frame f i j row column = record { left = omega arith; right = omega (arith, column); top = omega arith; bottom = omega (arith, row) }

-- and its place
pub point_in-place : (f : Frame) (i j : ℕ) → place_of_frame f (point_in f i j) ≡ i * f.columns + j
point_in-place f i j =
    let row : f.top + i - f.top ≡ i = omega arith in
    let column : f.left + j - f.left ≡ j = omega arith in
    ap (λ (n : ℕ). n * f.columns + (f.left + j - f.left)) row ∙ ap (λ (n : ℕ). i * f.columns + n) column

-- a tile has few positions
pub area-small : (s : Size) (t tile : ℕ) (f : Frame) → t ≤ 256 → IsArea s t tile f → f.columns * f.rows ≤ 65536
area-small s t tile f greatest area =
    let a = area.columns in
    let b = area.rows in
    let product = mul-le f.columns f.rows 256 256 (omega (arith, a, greatest)) (omega (arith, b, greatest)) in
    omega (arith, product)
