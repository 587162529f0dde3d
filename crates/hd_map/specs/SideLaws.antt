-- The order of ranks on each side is a strict order.
use Rattle.std.proofs.Common.{◌≡◌, ℕ, true, false, arith}
use Rattle.std.specs.Prelude.{ℤ}
use Rattle.std.proofs.lemmas.Int.{ints}
use Rattle.std.proofs.lemmas.Bool.Decides.{nat_tests}
use Rattle.hd_map.specs.declared.types.Rank.{Rank}
use Rattle.hd_map.specs.declared.types.SideName.{SideName}
use Rattle.hd_map.specs.declared.types.SideName.TheVariants.{Dales, Hills}
use Rattle.hd_map.specs.Order.{IsStrictOrder}
use Rattle.hd_map.specs.Rank.{comes_before, below_by}

-- no rank comes before itself
before-irreflexive : (h : ℤ) (i : ℕ) → comes_before (record { height = h; index = i }) (record { height = h; index = i }) ≡ false
before-irreflexive h i = grind (arith, ints, nat_tests)

-- what comes before what comes before a rank comes before that rank
before-transitive : (a b c : Rank) → comes_before a b ≡ true → comes_before b c ≡ true → comes_before a c ≡ true
before-transitive a b c p q = grind (arith, ints, nat_tests)

-- ranks of one height and one index are one
pub same_rank : (h k : ℤ) (i j : ℕ) → h ≡ k → i ≡ j → ◌≡◌ {A = Rank} (record { height = h; index = i }) (record { height = k; index = j })
same_rank h k i j p q = cc

-- of two different ranks one comes before the other
before-total : (a b : Rank) → comes_before a b ≡ false → comes_before b a ≡ false → a ≡ b
before-total a b p q =
    let h : a.height ≡ b.height = grind (arith, ints, nat_tests) in
    let i : a.index ≡ b.index = grind (arith, ints, nat_tests) in
    same_rank a.height b.height a.index b.index h i

-- each side orders the ranks strictly
pub below_by-order : (side : SideName) → IsStrictOrder (below_by side)
below_by-order Dales = record {
  irreflexive = λ a. before-irreflexive a.height a.index;
  transitive = before-transitive;
  total = before-total;
}
below_by-order Hills = record {
  irreflexive = λ a. before-irreflexive a.height a.index;
  transitive = λ a b c p q. before-transitive c b a q p;
  total = λ a b p q. before-total a b q p;
}
