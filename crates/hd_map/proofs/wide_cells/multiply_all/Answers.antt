use Rattle.std.proofs.Common.{◌≡◌, ◌*ℤ◌, ◌*◌, ◌%◌, ◌≤◌, ◌<◌, length, refl, ◌∙◌, arith, rules}
use Rattle.std.specs.Int.{int_wrap, w64}
use mir.Val.{of_z, to_z}
use Rattle.std.proofs.lemmas.Int.{to_z-of_z, wraps}
use Rattle.hd_map.proofs.PackedPoints.{multiplied_all, multiplied_more}
use Rattle.hd_map.proofs.wide_cells.multiply_all.Goals as goal

pub loop-index-init : goal.loop-index-init
loop-index-init c = refl

pub loop-index-preserved : goal.loop-index-preserved
loop-index-preserved c =
    let loop = c.loop-index in
    let size : c.len-index-end.result ≡ length c.args.numbers.now.items = c.len-index-end.ensures ∙ c.args.numbers.now.ok.0 in
    let inside : loop.index < length c.args.numbers.now.items = omega (arith, size, c.loop-index-test.true) in
    let product : to_z w64 ((of_z w64 c.index.result.now * of_z w64 c.args.factor) % 18446744073709551616) ≡ int_wrap w64 (c.index.result.now *ℤ c.args.factor) = search (rules, wraps) in
    multiplied_more c.args.factor _ (to_z-of_z w64 c.args.factor c.ranges.factor) c.args.numbers.now.items loop.numbers.items loop.index c.index.result.now _ inside loop.invariant
    c.index.ensures product

pub returns : goal.returns
returns c =
    let loop = c.loop-index in
    let size : c.len-index-end.result ≡ length c.args.numbers.now.items = c.len-index-end.ensures ∙ c.args.numbers.now.ok.0 in
    let all : length c.args.numbers.now.items ≤ loop.index = omega (arith, size, c.loop-index-test.false) in
    multiplied_all c.args.factor _ (to_z-of_z w64 c.args.factor c.ranges.factor) c.args.numbers.now.items loop.numbers.items loop.index all loop.invariant
