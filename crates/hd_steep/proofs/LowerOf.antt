-- The lower of two ranks, of which the second has the greater index.
use Rattle.std.proofs.Common.{◌≡◌, ◌≤◌, true, false, ◌⊎◌, inl, inr, refl, arith}
use Rattle.std.specs.Prelude.{int_lt}
use Rattle.std.proofs.lemmas.Int.{ints}
use Rattle.std.proofs.lemmas.Bool.{cond_both}
use Rattle.std.proofs.lemmas.Bool.Decides.{nat_tests}
use Rattle.hd_map.specs.declared.types.Rank.{Rank}
use Rattle.hd_map.specs.declared.types.SideName.{SideName}
use Rattle.hd_map.specs.declared.types.SideName.TheVariants.{Dales, Hills}
use Rattle.hd_map.specs.Order.{IsNotAbove}
use Rattle.hd_map.specs.Rank.{below_by, comes_before}
use Rattle.hd_map.specs.SideLaws.{below_by-order}
use Rattle.hd_map.proofs.Order.{not_above-refl}
use Rattle.hd_steep.specs.Lowest.{later_below, lower_of}

-- what is known of the lower of two ranks
pub record IsLower (side : SideName) (a b low : Rank) : Type 0 where
  pub origin : (low ≡ a) ⊎ (low ≡ b)
  pub first : IsNotAbove (below_by side) low a
  pub second : IsNotAbove (below_by side) low b

-- a rank that is not higher, and of one height has no greater index, does not come after the other
not_after : (a b : Rank) → int_lt b.height a.height ≡ false → (a.height ≡ b.height → a.index ≤ b.index) → comes_before b a ≡ false
not_after a b low ordered = elim (comes_before b a) as (λ v. comes_before b a ≡ v → v ≡ false) [
  | true ↦ λ e. (
      let same : a.height ≡ b.height = grind (arith, ints, nat_tests) in
      let less = ordered same in
      grind (arith, ints, nat_tests))
  | false ↦ λ e. refl
] refl

-- what the test says of two ranks, the second of which has the greater index at one height
later_not_above : (side : SideName) (a b : Rank) → (a.height ≡ b.height → a.index ≤ b.index) → later_below side b a ≡ true → IsNotAbove (below_by side) b a
later_not_above Dales a b ordered e = grind (arith, ints, nat_tests)
later_not_above Hills a b ordered e = not_after a b (grind (arith, ints, nat_tests)) ordered

earlier_not_above : (side : SideName) (a b : Rank) → (a.height ≡ b.height → a.index ≤ b.index) → later_below side b a ≡ false → IsNotAbove (below_by side) a b
earlier_not_above Dales a b ordered e = not_after a b (grind (arith, ints, nat_tests)) ordered
earlier_not_above Hills a b ordered e = grind (arith, ints, nat_tests)

-- the lower of two ranks, where at one height the first has no greater index
pub lower-is : (side : SideName) (a b : Rank) → (a.height ≡ b.height → a.index ≤ b.index) → IsLower side a b (lower_of side a b)
lower-is side a b ordered = cond_both (later_below side b a) b a (λ low. IsLower side a b low)
    (λ e. record {
      origin = inr refl;
      first = later_not_above side a b ordered e;
      second = not_above-refl (below_by side) (below_by-order side) b;
    })
    (λ e. record {
      origin = inl refl;
      first = not_above-refl (below_by side) (below_by-order side) a;
      second = earlier_not_above side a b ordered e;
    })
