use Rattle.std.proofs.Common.{mul-le-mul, arith}
use Rattle.hd_tests.proofs.num.fractions_are_added.Goals as goal

pub add-sum-requires-clause-own : goal.add-sum-requires-clause-own
add-sum-requires-clause-own g c =
    let first = c.reduced_fraction_is_no_greater.ensures _ _ _ _ (omega arith) c.new.ensures in
    let second = c.reduced_fraction_is_no_greater.ensures _ _ _ _ (omega arith) c.new-2.ensures in
    let product = mul-le-mul first.0 second.1 in
    omega (arith, product)

pub add-sum-requires-clause-other : goal.add-sum-requires-clause-other
add-sum-requires-clause-other g c =
    let first = c.reduced_fraction_is_no_greater.ensures _ _ _ _ (omega arith) c.new.ensures in
    let second = c.reduced_fraction_is_no_greater.ensures _ _ _ _ (omega arith) c.new-2.ensures in
    let product = mul-le-mul second.0 first.1 in
    omega (arith, product)

pub add-sum-requires-clause-dens : goal.add-sum-requires-clause-dens
add-sum-requires-clause-dens g c =
    let first = c.reduced_fraction_is_no_greater.ensures _ _ _ _ (omega arith) c.new.ensures in
    let second = c.reduced_fraction_is_no_greater.ensures _ _ _ _ (omega arith) c.new-2.ensures in
    let product = mul-le-mul first.1 second.1 in
    omega (arith, product)
