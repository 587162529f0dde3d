-- A position that goes through a grid index by index.
use Rattle.std.proofs.Common.{◌≡◌, ◌<◌, ◌≤◌, ◌+◌, ℕ, sym, ap, ◌∙◌, arith}
use Rattle.hd_map.specs.declared.types.Pos.{Pos}
use Rattle.hd_map.specs.declared.types.Size.{Size}
use Rattle.hd_map.specs.Map.{InGrid, cell_count, place_of, position_at}
use Rattle.hd_map.proofs.Points.{inside_place, position_at-of}

-- the position of an index, or the first of a further profile
pub record IsAt (size : Size) (index : ℕ) (at : Pos) : Type 0 where
  pub column : at.x < size.points
  pub place : place_of size at ≡ index

pub at-first : (size : Size) (at : Pos) → at.x ≡ 0 → at.y ≡ 0 → 1 ≤ size.points → IsAt size 0 at
at-first size at x y some = record { column = omega arith; place = rw (y, x) (omega arith) }

pub at-next : (size s : Size) (index : ℕ) (at next : Pos) → s ≡ size → IsAt size index at → next.x < s.points → place_of s next ≡ place_of s at + 1 → IsAt size (index + 1) next
at-next size s index at next same so column place = record {
  column = rw same at column;
  place = (rw same at place) ∙ ap (λ (k : ℕ). k + 1) so.place;
}

pub at-inside : (size s : Size) (index : ℕ) (at : Pos) → s ≡ size → IsAt size index at → index < cell_count s → InGrid size at
at-inside size s index at same so below = inside_place size at so.column (rw so.place (rw same at below))

-- inside the grid it is the position of the index
pub at-position : (size : Size) (index : ℕ) (at : Pos) → IsAt size index at → InGrid size at → at ≡ position_at size index
at-position size index at so inside = sym (position_at-of size at inside) ∙ ap (position_at size) so.place
