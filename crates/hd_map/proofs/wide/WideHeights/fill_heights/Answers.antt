use Rattle.std.proofs.Common.{◌≡◌, ◌-ℤ◌, ◌∙◌, ℤ, pos, neg_ℤ, to_z, of_z, w64, get_or, Some, None, ap, sym, arith, rules}
use Rattle.std.specs.Prelude.{if◌then◌else◌}
use Rattle.std.proofs.lemmas.Int.{ints}
use Rattle.hd_map.specs.declared.types.Pos.{Pos}
use Rattle.hd_map.specs.Layouts.{wide_map}
use Rattle.hd_map.specs.Map.{place_of}
use Rattle.hd_map.specs.Packing.{as_it_is}
use Rattle.hd_map.proofs.Filled.{filled_none, filled_more, filled_row, filled_far, itself_tells, near_shown}
use Rattle.hd_map.proofs.PackedPoints.{height_shown}
use Rattle.hd_map.proofs.wide.WideHeights.fill_heights.Goals as goal

pub loop-x-init : goal.loop-x-init
loop-x-init g c = filled_none g.L.Lane.code (wide_map c.args.self.now) c.args.y c.args.row.now c.requires.columns

pub number_of-requires : goal.number_of-requires
number_of-requires g c =
    let n = g.L.Lane.code.most_height in
    let most = c.most_height-most.result in
    let low : to_z w64 (of_z w64 (pos 0 -ℤ to_z w64 (of_z w64 most))) ≡ neg_ℤ (pos n) = omega (arith, ints, c.most_height-most.ensures, c.most_height-most.type_inv) in
    let high : to_z w64 (of_z w64 most) ≡ pos n = omega (arith, ints, c.most_height-most.ensures, c.most_height-most.type_inv) in
    near_shown (pos n) _ c.is_shown-shown.result _ (itself_tells n _ _ _ low high)

pub loop-x-preserved : goal.loop-x-preserved
loop-x-preserved g c =
    let s = c.args.self.now in
    let at : Pos = record { x = c.loop-x.x; y = c.args.y } in
    let height : ℤ = get_or c.as_slice-heights.result.now (place_of s.size at) (pos 0) in
    let read : to_z w64 (of_z w64 height) ≡ height = search rules in
    let n = g.L.Lane.code.most_height in
    let most = c.most_height-most.result in
    let low : to_z w64 (of_z w64 (pos 0 -ℤ to_z w64 (of_z w64 most))) ≡ neg_ℤ (pos n) = omega (arith, ints, c.most_height-most.ensures, c.most_height-most.type_inv) in
    let high : to_z w64 (of_z w64 most) ≡ pos n = omega (arith, ints, c.most_height-most.ensures, c.most_height-most.type_inv) in
    filled_more g.L.Lane.code (wide_map s) c.args.y c.loop-x.x c.loop-x.all c.is_shown-shown.result _ c.loop-x.row (to_z w64 (of_z w64 height)) c.number_of.result
    (omega (arith, c.loop-x-test.true, c.loop-x.auto.row)) (c.loop-x.auto.row ∙ c.requires.columns)
    (height_shown as_it_is s.size s.data_type s.heights.items c.as_slice-heights.result.now s.marks.items c.as_slice-marks.result.now s.adjacency s.paired s.whole
    c.as_slice-heights.ensures.value c.as_slice-marks.ensures.value
    at (record { column = omega (arith, c.loop-x-test.true, c.requires.columns); profile = c.requires.profile }) c.is_shown-shown.result c.is_shown-shown.ensures (pos 0)
    ∙ ap (λ (z : ℤ). if c.is_shown-shown.result then Some z else None) (sym read))
    (itself_tells n _ _ _ low high) c.number_of.ensures c.loop-x.invariant

pub returns-clause-row : goal.returns-clause-row
returns-clause-row g c = filled_row g.L.Lane.code (wide_map c.args.self.now) c.args.y c.loop-x.x c.loop-x.all c.loop-x.row (omega (arith, c.requires.columns, c.loop-x-test.false)) c.loop-x.invariant

pub returns-clause-far : goal.returns-clause-far
returns-clause-far g c = filled_far g.L.Lane.code (wide_map c.args.self.now) c.args.y c.loop-x.x c.loop-x.all c.loop-x.row c.loop-x.invariant
