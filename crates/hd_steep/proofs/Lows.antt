-- The lowest of some positions: of none, of one, and of several taken together.
use Rattle.std.proofs.Common.{◌≡◌, ◌<◌, ◌≤◌, ◌+◌, true, false, ◌⊎◌, inl, inr, ap, ◌∙◌, sym, subst, refl, arith}
use Rattle.std.proofs.Math.Nat.{mul-le-mul_right}
use Rattle.std.proofs.lemmas.Int.{ints}
use Rattle.std.proofs.lemmas.Bool.Decides.{nat_tests}
use Rattle.hd_map.specs.declared.types.Pos.{Pos}
use Rattle.hd_map.specs.declared.types.Rank.{Rank}
use Rattle.hd_map.specs.declared.types.SideName.{SideName}
use Rattle.hd_map.specs.declared.types.Size.{Size}
use Rattle.hd_map.specs.declared.types.SideName.TheVariants.{Dales, Hills}
use Rattle.hd_map.specs.Map.{Map, IsMap, Present, place_of}
use Rattle.hd_map.specs.Order.{IsNotAbove}
use Rattle.hd_map.specs.Rank.{rank, below_by}
use Rattle.hd_map.specs.SideLaws.{below_by-order}
use Rattle.hd_map.proofs.Gather.{same_pos}
use Rattle.hd_map.proofs.Order.{not_above-refl, not_above-trans}
use Rattle.hd_map.proofs.Points.{point_at}
use Rattle.hd_map.proofs.Depth.{InLimits, point_limits}
use Rattle.hd_steep.specs.Lowest.{missing, lower_of, IsLow, IsAtPlace}
use Rattle.hd_steep.proofs.LowerOf.{IsLower, lower-is}

-- a point is below where none is present
pub below_missing : (side : SideName) (r : Rank) → InLimits r → below_by side r (missing side) ≡ true
below_missing Dales r within = let high = within.high in grind (arith, ints, nat_tests)
below_missing Hills r within = let low = within.low in grind (arith, ints, nat_tests)

-- and has another height
height_apart : (side : SideName) (r : Rank) → InLimits r → r.height ≡ (missing side).height → ⊥
height_apart Dales r within e = let high = within.high in omega (arith, ints, high, e)
height_apart Hills r within e = let low = within.low in omega (arith, ints, low, e)

-- a point of an earlier profile has a lesser index
pub place_above : (s : Size) (p q : Pos) → p.x < s.points → p.y < q.y → place_of s p < place_of s q
place_above s p q column row = let next : p.y + 1 ≤ q.y = omega (arith, row) in omega (arith, column, mul-le-mul_right s.points next)

-- and so has a point of an earlier column
pub place_before : (s : Size) (p q : Pos) → p.y ≡ q.y → p.x < q.x → place_of s p < place_of s q
place_before s p q row column = rw row (omega (arith, column))

module _ (m : Map) (side : SideName) where
  -- of no point
  pub low_empty : (P : Pos → Type 0) → ((q : Pos) → P q → Present m q → ⊥) → IsLow m side P (missing side)
  low_empty P none = record { origin = inl refl; least = λ q chosen here. absurd (none q chosen here) }

  -- of one point
  pub low_point : (p : Pos) → Present m p → IsLow m side (IsAtPlace (p.y + 1) (p.x + 1)) (rank m p)
  low_point p here = record {
    origin = inr (record { at = p; chosen = record { profile = refl; place = refl }; present = here; low_is = refl });
    least = λ q there here'. (
        let same : p ≡ q = same_pos p q (let e = there.place in omega (arith, e)) (let e = there.profile in omega (arith, e)) in
        subst (λ (r : Pos). IsNotAbove (below_by side) (rank m p) (rank m r)) same (not_above-refl (below_by side) (below_by-order side) (rank m p)));
  }

  -- of the same points
  pub low_same : (P R : Pos → Type 0) (low : Rank) → ((q : Pos) → Present m q → P q → R q) → ((q : Pos) → Present m q → R q → P q) → IsLow m side P low → IsLow m side R low
  low_same P R low to from of = record {
    origin = elim of.origin [
      | inl none ↦ inl none
      | inr one ↦ inr (record { at = one.at; chosen = to one.at one.present one.chosen; present = one.present; low_is = one.low_is })
    ];
    least = λ q chosen here. of.least q (from q here chosen) here;
  }

module _ (m : Map) (side : SideName) (whole : IsMap m) where
  -- a point has another height than the one that stands where none is present
  pub point_apart : (r : Rank) (p : Pos) → Present m p → r ≡ rank m p → r.height ≡ (missing side).height → ⊥
  point_apart r p here is = rw is (height_apart side (rank m p) (point_limits m (rank m p) whole (point_at m p here)))

  -- where the lowest is missing, no chosen position has a point
  pub low_missing : (P : Pos → Type 0) (low : Rank) → IsLow m side P low → low ≡ missing side → (q : Pos) → P q → Present m q → ⊥
  low_missing P low of none q chosen here =
      let below : below_by side (rank m q) low ≡ true = rw none (below_missing side (rank m q) (point_limits m (rank m q) whole (point_at m q here))) in
      let not : below_by side (rank m q) low ≡ false = of.least q chosen here in
      cc

  module _ (P Q : Pos → Type 0) (a b : Rank) where
    -- ranks of one height come in the order of their points
    in_order : ((p q : Pos) → P p → Q q → Present m p → place_of m.size p < place_of m.size q) → IsLow m side P a → IsLow m side Q b → a.height ≡ b.height → a.index ≤ b.index
    in_order after of of' same = elim of.origin [
      | inl none ↦ elim of'.origin [
        | inl none' ↦ let e : a.index ≡ b.index = ap (λ (r : Rank). r.index) (none ∙ sym none') in omega (arith, e)
        | inr one ↦ absurd (point_apart b one.at one.present one.low_is (sym same ∙ ap (λ (r : Rank). r.height) none))
      ]
      | inr one ↦ elim of'.origin [
        | inl none ↦ absurd (point_apart a one.at one.present one.low_is (same ∙ ap (λ (r : Rank). r.height) none))
        | inr other ↦
            let less = after one.at other.at one.chosen other.chosen one.present in
            let i : a.index ≡ place_of m.size one.at = ap (λ (r : Rank). r.index) one.low_is in
            let j : b.index ≡ place_of m.size other.at = ap (λ (r : Rank). r.index) other.low_is in
            omega (arith, less, i, j)
      ]
    ]

    -- of some points, and of others that all come after them
    pub low_join : ((p q : Pos) → P p → Q q → Present m p → place_of m.size p < place_of m.size q)
        → IsLow m side P a → IsLow m side Q b → IsLow m side (λ q. P q ⊎ Q q) (lower_of side a b)
    low_join after of of' =
        let low = lower_of side a b in
        let lower : IsLower side a b low = lower-is side a b (in_order after of of') in
        let onward = not_above-trans (below_by side) (below_by-order side) low in
        record {
          origin = elim lower.origin [
            | inl e ↦ elim of.origin [
              | inl none ↦ inl (e ∙ none)
              | inr one ↦ inr (record { at = one.at; chosen = inl one.chosen; present = one.present; low_is = e ∙ one.low_is })
            ]
            | inr e ↦ elim of'.origin [
              | inl none ↦ inl (e ∙ none)
              | inr one ↦ inr (record { at = one.at; chosen = inr one.chosen; present = one.present; low_is = e ∙ one.low_is })
            ]
          ];
          least = λ q chosen here. elim chosen [
            | inl p ↦ onward a (rank m q) lower.first (of.least q p here)
            | inr p ↦ onward b (rank m q) lower.second (of'.least q p here)
          ];
        }
