-- The tiles that hold a position or one of the eight round it are those at four corners.
use Rattle.std.proofs.Common.{ℕ, ◌≡◌, ◌<◌, ◌≤◌, ◌+◌, ◌-◌, ◌*◌, ◌/◌, ◌⊎◌, inl, inr, refl, sym, ◌∙◌, ap, subst, arith}
use Rattle.std.specs.Prelude.{min}
use Rattle.std.proofs.Math.Nat.{mul-le-mul_left, mul-le-mul_right}
use Rattle.std.proofs.lemmas.Nat.{mul-le, div_below}
use Rattle.hd_map.specs.declared.types.Pos.{Pos}
use Rattle.hd_map.specs.declared.types.Size.{Size}
use Rattle.hd_map.specs.Map.{InGrid, IsSize}
use Rattle.hd_tiles.specs.Tile.{IsRound, tile_of, tile_count, tiles_along, tiles_across}
use Rattle.hd_tiles.proofs.TilesAlong.{part-near, tiles_along-part}

-- the tile of a position of the grid is one of its tiles
pub tile_of-inside : (s : Size) (t : ℕ) (p : Pos) → 1 ≤ t → InGrid s p → tile_of s t p < tile_count s t
tile_of-inside s t p some inside =
    let column = tiles_along-part p.x s.points t some inside.column in
    let row : p.y / t + 1 ≤ tiles_along s.profiles t = (let below = tiles_along-part p.y s.profiles t some inside.profile in omega (arith, below)) in
    let rows = mul-le-mul_right (tiles_across s t) row in
    omega (arith, column, rows)

-- there are few tiles along a line, and in a grid
few_along : (n t : ℕ) → 8 ≤ t → tiles_along n t ≤ n
few_along n t wide =
    let product = mul-le-mul_left (n + 1) wide in
    let below = div_below (n + t - 1) t (n + 1) (omega arith) (let more = mul-le-mul_left n (let some : 1 ≤ t = omega arith in some) in omega (arith, more)) in
    omega (arith, below)

pub tile_count-few : (s : Size) (t : ℕ) → 8 ≤ t → IsSize s → tile_count s t < 4294967296
tile_count-few s t wide limits =
    let product = mul-le (tiles_along s.profiles t) (tiles_across s t) s.profiles s.points (few_along s.profiles t wide) (few_along s.points t wide) in
    let few = limits.cells in
    omega (arith, product, few)

-- a corner: a place before or after in each direction
module _ (s : Size) (t : ℕ) (p : Pos) (wide : 8 ≤ t) (inside : InGrid s p) where
  abbrev pub before : ℕ → ℕ
  before x = (x - 1) / t

  abbrev pub after : ℕ → ℕ → ℕ
  after x n = min (x + 1) (n - 1) / t

  abbrev pub corner : ℕ → ℕ → ℕ
  corner row column = row * tiles_across s t + column

  round : (q : Pos) → InGrid s q → q.x ≤ p.x + 1 → p.x ≤ q.x + 1 → q.y ≤ p.y + 1 → p.y ≤ q.y + 1 → IsRound s t (tile_of s t q) p
  round q there right left down up = record { from = q; in_grid = there; in_tile = refl; columns = (right, left); rows = (down, up) }

  -- each corner holds one of the positions
  pub IsRound-top_left : IsRound s t (corner (before p.y) (before p.x)) p
  IsRound-top_left = round (record { x = p.x - 1; y = p.y - 1 }) (record { column = omega (arith, inside.column); profile = omega (arith, inside.profile) }) (omega arith)
      (omega arith) (omega arith) (omega arith)

  pub IsRound-top_right : IsRound s t (corner (before p.y) (after p.x s.points)) p
  IsRound-top_right = round (record { x = min (p.x + 1) (s.points - 1); y = p.y - 1 }) (record { column = omega (arith, inside.column); profile = omega (arith, inside.profile) })
      (omega arith) (omega (arith, inside.column)) (omega arith) (omega arith)

  pub IsRound-bottom_left : IsRound s t (corner (after p.y s.profiles) (before p.x)) p
  IsRound-bottom_left = round (record { x = p.x - 1; y = min (p.y + 1) (s.profiles - 1) })
      (record { column = omega (arith, inside.column); profile = omega (arith, inside.profile) }) (omega arith) (omega arith) (omega arith) (omega (arith, inside.profile))

  pub IsRound-bottom_right : IsRound s t (corner (after p.y s.profiles) (after p.x s.points)) p
  IsRound-bottom_right = round (record { x = min (p.x + 1) (s.points - 1); y = min (p.y + 1) (s.profiles - 1) })
      (record { column = omega (arith, inside.column); profile = omega (arith, inside.profile) }) (omega arith) (omega (arith, inside.column)) (omega arith)
      (omega (arith, inside.profile))

  -- a tile is at one of the four corners
  abbrev pub AtCorner : ℕ → Type 0
  AtCorner tile = ((((⊥ ⊎ (tile ≡ corner (before p.y) (before p.x))) ⊎ (tile ≡ corner (before p.y) (after p.x s.points))) ⊎ (tile ≡ corner (after p.y s.profiles) (before p.x)))
      ⊎ (tile ≡ corner (after p.y s.profiles) (after p.x s.points)))

  at_row : (tile row column : ℕ) → tile ≡ corner row column → (row ≡ before p.y) ⊎ (row ≡ after p.y s.profiles) → (column ≡ before p.x) ⊎ (column ≡ after p.x s.points) → AtCorner tile
  at_row tile row column e (inl up) (inl left) = inl (inl (inl (inr (e ∙ ap (λ (k : ℕ). corner k column) up ∙ ap (corner (before p.y)) left))))
  at_row tile row column e (inl up) (inr right) = inl (inl (inr (e ∙ ap (λ (k : ℕ). corner k column) up ∙ ap (corner (before p.y)) right)))
  at_row tile row column e (inr down) (inl left) = inl (inr (e ∙ ap (λ (k : ℕ). corner k column) down ∙ ap (corner (after p.y s.profiles)) left))
  at_row tile row column e (inr down) (inr right) = inr (e ∙ ap (λ (k : ℕ). corner k column) down ∙ ap (corner (after p.y s.profiles)) right)

  -- the tiles that hold one of the positions are those at the corners
  pub AtCorner-round : (tile : ℕ) → IsRound s t tile p → AtCorner tile
  AtCorner-round tile r = at_row tile (r.from.y / t) (r.from.x / t) (sym r.in_tile)
      (part-near p.y r.from.y s.profiles t wide inside.profile r.in_grid.profile r.rows)
      (part-near p.x r.from.x s.points t wide inside.column r.in_grid.column r.columns)

  abbrev IsHere : ℕ → Type 0
  IsHere tile = IsRound s t tile p

  pub IsRound-corner : (tile : ℕ) → AtCorner tile → IsRound s t tile p
  IsRound-corner tile (inl (inl (inl (inl never)))) = absurd never
  IsRound-corner tile (inl (inl (inl (inr e)))) = subst IsHere (sym e) IsRound-top_left
  IsRound-corner tile (inl (inl (inr e))) = subst IsHere (sym e) IsRound-top_right
  IsRound-corner tile (inl (inr e)) = subst IsHere (sym e) IsRound-bottom_left
  IsRound-corner tile (inr e) = subst IsHere (sym e) IsRound-bottom_right

  -- such a tile is one of the grid
  pub IsRound-inside : (tile : ℕ) → IsRound s t tile p → tile < tile_count s t
  IsRound-inside tile r = subst (λ (k : ℕ). k < tile_count s t) r.in_tile (tile_of-inside s t r.from (omega arith) r.in_grid)
