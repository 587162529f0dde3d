-- Positions, present points, their ranks and neighbours.
use Rattle.std.proofs.Common.{ℕ, ℤ, ◌≡◌, List, Some, None, map, ◌<◌, ◌≤◌, ◌+◌, Bool, true, false, ◌⊎◌, inl, inr, ap, ◌∙◌, sym, refl, arith}
use Rattle.std.specs.Prelude.{Contains}
use Rattle.std.specs.List.{range_with_len}
use Rattle.std.proofs.Math.Nat.{mul-le-mul_right}
use Rattle.std.proofs.lemmas.Bool.{cases_lt}
use Rattle.std.proofs.lemmas.List.FromFn.{length-map-range_with_len, get_or-map-range_with_len}
use Rattle.std.proofs.lemmas.Nat.{same_from_place}
use Rattle.hd_map.specs.declared.types.Pos.{Pos}
use Rattle.hd_map.specs.declared.types.Size.{Size}
use Rattle.hd_map.specs.declared.types.Rank.{Rank}
use Rattle.hd_map.specs.declared.types.Cell.{Cell}
use Rattle.hd_map.specs.declared.types.Cell.TheVariants.{Height, Bad}
use Rattle.hd_map.specs.Map.{Map, InGrid, IsMeasured, Present, cell_at, height_or_zero, mask_at, place_of, position_at, cell_count, shown_height}
use Rattle.hd_map.specs.Neighbour.{Neighbour}
use Rattle.hd_map.specs.Rank.{IsPoint, Near, rank}
use Rattle.hd_map.proofs.Gather.{same_pos}
use Rattle.hd_map.proofs.Settings.{beside-sym}

-- the index of a position is less than the number of cells
pub place_inside : (s : Size) (p : Pos) → InGrid s p → place_of s p < cell_count s
place_inside s p inside = let row : p.y + 1 ≤ s.profiles = omega (arith, inside.profile) in omega (arith, inside.column, mul-le-mul_right s.points row)

-- one index has one position
pub same_place : (s : Size) (p q : Pos) → InGrid s p → InGrid s q → place_of s p ≡ place_of s q → p ≡ q
same_place s p q here there e = let at = same_from_place p.y p.x q.y q.x s.points here.column there.column e in same_pos p q at.1 at.0

-- a position is in the grid if its column is, and its index is less than the number of cells
pub inside_place : (s : Size) (p : Pos) → p.x < s.points → place_of s p < cell_count s → InGrid s p
inside_place s p column below = record {
  column = column;
  profile = elim (cases_lt p.y s.profiles) [
    | inl row ↦ row
    | inr past ↦ absurd (omega (arith, below, mul-le-mul_right s.points past))
  ];
}

-- the index of the position of an index is that index
pub position_at-place : (s : Size) (k : ℕ) → 1 ≤ s.points → place_of s (position_at s k) ≡ k
position_at-place s k some = omega (arith, some)

-- the position of an index is in the grid
pub position_at-inside : (s : Size) (k : ℕ) → 1 ≤ s.points → k < cell_count s → InGrid s (position_at s k)
position_at-inside s k some below = inside_place s (position_at s k) (omega (arith, some)) (rw (position_at-place s k some) below)

-- the index of a position has that position
pub position_at-of : (s : Size) (p : Pos) → InGrid s p → position_at s (place_of s p) ≡ p
position_at-of s p inside =
    let some : 1 ≤ s.points = omega (arith, inside.column) in
    same_place s (position_at s (place_of s p)) p (position_at-inside s (place_of s p) some (place_inside s p inside)) inside (position_at-place s (place_of s p) some)

-- one rank has one position
pub same_point : (m : Map) (p q : Pos) → Present m p → Present m q → rank m p ≡ rank m q → p ≡ q
same_point m p q here there e = same_place m.size p q here.in_grid there.in_grid (ap (λ (r : Rank). r.index) e)

-- points of one index are one
pub same_index : (m : Map) (a b : Rank) → IsPoint m a → IsPoint m b → a.index ≡ b.index → a ≡ b
same_index m a b one other e =
    let places : place_of m.size one.at ≡ place_of m.size other.at = ap (λ (r : Rank). r.index) (sym one.rank_is) ∙ e ∙ ap (λ (r : Rank). r.index) other.rank_is in
    one.rank_is ∙ ap (rank m) (same_place m.size one.at other.at one.present.in_grid other.present.in_grid places) ∙ sym other.rank_is

-- the position of a present point's rank is that point's
pub rank_position : (m : Map) (r : Rank) (p : Pos) → Present m p → r ≡ rank m p → position_at m.size r.index ≡ p
rank_position m r p here e = ap (λ (t : Rank). position_at m.size t.index) e ∙ position_at-of m.size p here.in_grid

-- the ranks of all positions, by index
abbrev pub ranks_of : Map → List Rank
ranks_of m = map (λ k. rank m (position_at m.size k)) (range_with_len 0 (cell_count m.size))

-- each point is one of them
pub point-listed : (m : Map) (r : Rank) → IsPoint m r → Contains (ranks_of m) r
point-listed m r point =
    let inside : r.index < cell_count m.size = rw point.rank_is (place_inside m.size point.at point.present.in_grid) in
    let ranked : ℕ → Rank = λ k. rank m (position_at m.size k) in (
      r.index,
      rw length-map-range_with_len inside,
      get_or-map-range_with_len ranked 0 (cell_count m.size) r.index r.index r inside (omega arith) ∙ ap (rank m) (rank_position m r point.at point.present point.rank_is) ∙ sym point.rank_is,
    )

-- whether a cell is measured
measured_or_not : (c : Cell) → IsMeasured c ⊎ (IsMeasured c → ⊥)
measured_or_not (Height h) = inl tt
measured_or_not Bad = inr (λ no. no)

-- whether a mask is clear
clear_or_not : (b : Bool) → (b ≡ false) ⊎ (b ≡ false → ⊥)
clear_or_not false = inl refl
clear_or_not true = inr (λ e. cc)

-- each position of the grid has a present point, or none
pub present_or_not : (m : Map) (p : Pos) → InGrid m.size p → Present m p ⊎ (Present m p → ⊥)
present_or_not m p inside = elim (measured_or_not (cell_at m p)) [
  | inl measured ↦ elim (clear_or_not (mask_at m p)) [
    | inl clear ↦ inl (record { in_grid = inside; measured = measured; shown = clear })
    | inr masked ↦ inr (λ here. masked here.shown)
  ]
  | inr bad ↦ inr (λ here. bad here.measured)
]

-- the rank of a present point is that of a point
pub point_at : (m : Map) (p : Pos) → Present m p → IsPoint m (rank m p)
point_at m p here = record { at = p; present = here; rank_is = refl }

-- a neighbour is one both ways
pub neighbour-sym : (m : Map) (p q : Pos) → Neighbour m p q → Neighbour m q p
neighbour-sym m p q n = record {
  from = n.to;
  to = n.from;
  columns = (n.columns.1, n.columns.0);
  rows = (n.rows.1, n.rows.0);
  different = λ e. n.different (sym e);
  beside = beside-sym m.adjacency p q n.beside;
}

-- what has a near one is a point
pub Near-from : (m : Map) (a b : Rank) → Near m a b → IsPoint m a
Near-from m a b n = record { at = n.from; present = n.neighbour.from; rank_is = n.from_rank }

-- what is near is a point
pub Near-to : (m : Map) (a b : Rank) → Near m a b → IsPoint m b
Near-to m a b n = record { at = n.to; present = n.neighbour.to; rank_is = n.to_rank }

-- near ranks are different
pub Near-apart : (m : Map) (a b : Rank) → Near m a b → a ≡ b → ⊥
Near-apart m a b n e = n.neighbour.different (same_point m n.from n.to n.neighbour.from n.neighbour.to (sym n.from_rank ∙ e ∙ n.to_rank))

-- the ranks of two neighbours are near
pub Near-at : (m : Map) (p q : Pos) → Neighbour m p q → Near m (rank m p) (rank m q)
Near-at m p q n = record { from = p; to = q; neighbour = n; from_rank = refl; to_rank = refl }

-- what is measured and shown is its height
pub shown_of : (c : Cell) (masked : Bool) → IsMeasured c → masked ≡ false → shown_height c masked ≡ Some (height_or_zero c)
shown_of (Height h) false measured clear = refl
shown_of (Height h) true measured clear = absurd (cc clear)
shown_of Bad masked measured clear = absurd measured

-- and what is shown is measured
pub of_shown : (c : Cell) (masked : Bool) (h : ℤ) → shown_height c masked ≡ Some h → IsMeasured c × (masked ≡ false) × (height_or_zero c ≡ h)
of_shown (Height z) false h is = (tt, refl, (let e = is in cc))
of_shown (Height z) true h is = absurd (cc is)
of_shown Bad masked h is = absurd (cc is)

-- what is not present shows no height
pub none_shown : (c : Cell) (masked : Bool) → (IsMeasured c → masked ≡ false → ⊥) → shown_height c masked ≡ None
none_shown (Height h) false absent = absurd (absent tt refl)
none_shown (Height h) true absent = refl
none_shown Bad masked absent = refl

-- the index of a point is that of a cell
pub point_inside : (m : Map) (r : Rank) → IsPoint m r → r.index < cell_count m.size
point_inside m r point = rw point.rank_is (place_inside m.size point.at point.present.in_grid)
