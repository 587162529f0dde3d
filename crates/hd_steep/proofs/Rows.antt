-- The row of a profile, and the lowest of two or three places in it.
use Rattle.std.proofs.Common.{◌≡◌, ◌<◌, ◌+◌, ◌-◌, ℕ, List, ◌⊎◌, inl, inr, sym, subst, arith}
use Rattle.std.proofs.lemmas.Bool.{cases_eq}
use Rattle.hd_map.specs.declared.types.Pos.{Pos}
use Rattle.hd_map.specs.declared.types.Rank.{Rank}
use Rattle.hd_map.specs.declared.types.SideName.{SideName}
use Rattle.hd_map.specs.Map.{InGrid, IsMap, Map, Present, place_of}
use Rattle.hd_map.specs.Ranks.{rank_or}
use Rattle.hd_map.proofs.Gather.{same_pos}
use Rattle.hd_map.proofs.Points.{present_or_not}
use Rattle.hd_map.proofs.Ranks.{rank_or-absent, rank_or-present}
use Rattle.hd_steep.specs.Lowest.{missing, lower_of, IsLow, IsAtPlace}
use Rattle.hd_steep.specs.Rows.{rank_in, IsRowOf}
use Rattle.hd_steep.proofs.Lows.{low_empty, low_join, low_point, place_before}

module _ (m : Map) (side : SideName) where
  -- the rank of a profile's place, or the one that stands where no point is present
  pub rank_low : (p : Pos) → InGrid m.size p → IsLow m side (IsAtPlace (p.y + 1) (p.x + 1)) (rank_or (missing side) m p)
  rank_low p inside = elim (present_or_not m p inside) [
    | inl here ↦ subst (IsLow m side (IsAtPlace (p.y + 1) (p.x + 1))) (sym (rank_or-present (missing side) m p here)) (low_point m side p here)
    | inr absent ↦ subst (IsLow m side (IsAtPlace (p.y + 1) (p.x + 1))) (sym (rank_or-absent (missing side) m p inside absent)) (low_empty m side (IsAtPlace (p.y + 1) (p.x + 1)) (λ q there here.
        absent (subst (Present m) (same_pos q p (let e = there.place in omega (arith, e)) (let e = there.profile in omega (arith, e))) here)))
  ]

  -- each place of a row, also on either side
  pub row_place : (y : ℕ) (row : List Rank) (k : ℕ) → IsRowOf m side y row → k < m.size.points + 2 → IsLow m side (IsAtPlace y k) (rank_in row k)
  row_place y row k of below = elim (cases_eq k 0) [
    | inl e ↦ rw (e, of.framed.left) (low_empty m side (IsAtPlace y 0) (λ q there here. (let p = there.place in omega (arith, p))))
    | inr some ↦ elim (cases_eq k (m.size.points + 1)) [
      | inl e ↦ rw (e, of.framed.right) (low_empty m side (IsAtPlace y (m.size.points + 1)) (λ q there here. (
          let p = there.place in
          let inside = here.in_grid.column in
          omega (arith, p, inside))))
      | inr other ↦
          let e : k ≡ k - 1 + 1 = omega (arith, some) in
          subst (λ i. IsLow m side (IsAtPlace y i) (rank_in row i)) (sym e) (of.each (k - 1) (omega (arith, below, some, other)))
    ]
  ]

  module _ (whole : IsMap m) where
    before : (i j y : ℕ) (p q : Pos) → i < j → IsAtPlace y i p → IsAtPlace y j q → place_of m.size p < place_of m.size q
    before i j y p q less s t = place_before m.size p q (let a = s.profile in let b = t.profile in omega (arith, a, b)) (let a = s.place in let b = t.place in omega (arith, a, b, less))

    -- the lower of two places side by side
    pub two_low : (y : ℕ) (row : List Rank) (x : ℕ) → IsRowOf m side y row → x < m.size.points + 1
        → IsLow m side (λ q. IsAtPlace y x q ⊎ IsAtPlace y (x + 1) q) (lower_of side (rank_in row x) (rank_in row (x + 1)))
    two_low y row x of below = low_join m side whole (λ q. IsAtPlace y x q) (λ q. IsAtPlace y (x + 1) q) (rank_in row x) (rank_in row (x + 1))
        (λ p q s t here. before x (x + 1) y p q (omega arith) s t) (row_place y row x of (omega arith)) (row_place y row (x + 1) of (omega arith))

    -- the lowest of three
    pub three_low : (y : ℕ) (row : List Rank) (x : ℕ) → IsRowOf m side y row → x < m.size.points
        → IsLow m side (λ q. (IsAtPlace y x q ⊎ IsAtPlace y (x + 1) q) ⊎ IsAtPlace y (x + 2) q) (lower_of side (lower_of side (rank_in row x) (rank_in row (x + 1))) (rank_in row (x + 2)))
    three_low y row x of below =
        low_join m side whole (λ q. IsAtPlace y x q ⊎ IsAtPlace y (x + 1) q) (λ q. IsAtPlace y (x + 2) q) (lower_of side (rank_in row x) (rank_in row (x + 1))) (rank_in row (x + 2))
        (λ p q s t here. elim s [
          | inl u ↦ before x (x + 2) y p q (omega arith) u t
          | inr u ↦ before (x + 1) (x + 2) y p q (omega arith) u t
        ]) (two_low y row x of (omega arith)) (row_place y row (x + 2) of (omega arith))
