use Rattle.std.proofs.Common.{arith, get_or, ℕ, ◌≡◌, ◌<◌, ◌+◌, ◌*◌, pos, ◌∙◌}
use mir.Syntax.{w64}
use mir.Val.{of_z, to_z}
use Rattle.std.proofs.lemmas.Int.{ints}
use Rattle.hd_map.specs.declared.types.Pos.{Pos}
use Rattle.hd_map.specs.Layouts.{narrow_map}
use Rattle.hd_map.specs.Map.{four_bytes, place_of}
use Rattle.hd_map.specs.Packing.{over_least}
use Rattle.hd_map.proofs.DataTypes.{over_read}
use Rattle.hd_map.proofs.Filled.{filled_none, filled_more, filled_row, filled_far, near_shown, over_tells}
use Rattle.hd_map.proofs.PackedPoints.{height_shown}
use Rattle.hd_map.proofs.narrow.NarrowHeights.fill_heights.Goals as goal

pub loop-x-init : goal.loop-x-init
loop-x-init g c = filled_none g.L.Lane.code (narrow_map c.args.self.now) c.args.y c.args.row.now c.requires.columns

pub number_of-requires : goal.number_of-requires
number_of-requires g c =
    let s = c.args.self.now in
    let k : ℕ = c.args.y * s.size.points + c.loop-x.x in
    let over : ℕ = get_or c.as_slice-heights.result.now k 0 in
    let few : over < four_bytes = omega (arith, c.type_inv.heights k) in
    let n = g.L.Lane.code.most_height in
    let most_read : to_z w64 (of_z w64 c.most_height-most.result) ≡ pos n = omega (arith, ints, c.most_height-most.ensures, c.most_height-most.type_inv) in
    rw (over_read s.data_type s.least over s.is_least few) (near_shown (pos n) (over_least s.data_type over) c.is_shown-shown.result _
    (over_tells s.data_type s.least _ n c.first_near-from.result c.last_near-to.result over s.is_least most_read (c.first_near-from.ensures over) (c.last_near-to.ensures over few)))

pub loop-x-preserved : goal.loop-x-preserved
loop-x-preserved g c =
    let s = c.args.self.now in
    let t = s.data_type in
    let at : Pos = record { x = c.loop-x.x; y = c.args.y } in
    let k : ℕ = place_of s.size at in
    let over : ℕ = get_or c.as_slice-heights.result.now k 0 in
    let few : over < four_bytes = omega (arith, c.type_inv.heights k) in
    let n = g.L.Lane.code.most_height in
    let most_read : to_z w64 (of_z w64 c.most_height-most.result) ≡ pos n = omega (arith, ints, c.most_height-most.ensures, c.most_height-most.type_inv) in
    filled_more g.L.Lane.code (narrow_map s) c.args.y c.loop-x.x c.loop-x.all c.is_shown-shown.result _ c.loop-x.row (over_least t over) c.number_of.result
    (omega (arith, c.loop-x-test.true, c.loop-x.auto.row)) (c.loop-x.auto.row ∙ c.requires.columns)
    (height_shown (over_least t) s.size t s.heights.items c.as_slice-heights.result.now s.marks.items c.as_slice-marks.result.now s.adjacency s.paired s.whole
    c.as_slice-heights.ensures.value c.as_slice-marks.ensures.value
    at (record { column = omega (arith, c.loop-x-test.true, c.requires.columns); profile = c.requires.profile }) c.is_shown-shown.result c.is_shown-shown.ensures 0)
    (over_tells t s.least _ n c.first_near-from.result c.last_near-to.result over s.is_least most_read (c.first_near-from.ensures over) (c.last_near-to.ensures over few))
    (rw (over_read t s.least over s.is_least few) at c.number_of.ensures) c.loop-x.invariant

pub returns-clause-row : goal.returns-clause-row
returns-clause-row g c = filled_row g.L.Lane.code (narrow_map c.args.self.now) c.args.y c.loop-x.x c.loop-x.all c.loop-x.row (omega (arith, c.requires.columns, c.loop-x-test.false)) c.loop-x.invariant

pub returns-clause-far : goal.returns-clause-far
returns-clause-far g c = filled_far g.L.Lane.code (narrow_map c.args.self.now) c.args.y c.loop-x.x c.loop-x.all c.loop-x.row c.loop-x.invariant
