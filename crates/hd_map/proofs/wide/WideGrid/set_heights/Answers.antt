use Rattle.std.proofs.Common.{ℤ, ◌≡◌, ◌≤◌, SFits, length, get_or, pos, to_z, of_z, w64, ap, sym, ◌∙◌, arith, rules}
use Rattle.std.proofs.lemmas.Int.{to_z-of_z}
use Rattle.std.proofs.lemmas.List.{length-map, with_items_is}
use Rattle.hd_map.specs.declared.types.Pos.{Pos}
use Rattle.hd_map.specs.Encoding.{values_of}
use Rattle.hd_map.specs.Map.{InGrid, place_of}
use Rattle.hd_map.specs.Packing.{as_it_is}
use Rattle.hd_map.proofs.HeightsSet.{none_set, set_more, set_whole, all_set, or_before}
use Rattle.hd_map.proofs.Lanes.{value_in}
use Rattle.hd_map.proofs.wide.WideGrid.set_heights.Goals as goal

pub loop-x-init : goal.loop-x-init
loop-x-init g c =
    let s = c.args.self.now in
    none_set as_it_is s.size s.data_type s.heights.items s.marks.items s.adjacency c.args.y (values_of g.L.Lane.code c.args.row.now) s.whole
    c.as_mut_slice-heights.result.now c.as_mut_slice-marks.result.now c.as_mut_slice-heights.ensures.value c.as_mut_slice-marks.ensures.value s.paired

pub loop-x-preserved : goal.loop-x-preserved
loop-x-preserved g c =
    let s = c.args.self.now in
    let code = g.L.Lane.code in
    let at : Pos = record { x = c.loop-x.x; y = c.args.y } in
    let inside : InGrid s.size at = record { column = omega (arith, c.loop-x-test.true, c.requires.columns); profile = c.requires.profile } in
    let before : ℤ = get_or c.loop-x.heights (place_of s.size at) (pos 0) in
    let read : to_z w64 (of_z w64 before) ≡ before = search rules in
    let fits : SFits w64 c.unwrap_or.result = search rules in
    rw (to_z-of_z w64 _ fits) (set_more as_it_is s.size s.data_type s.heights.items s.marks.items s.adjacency c.args.y (values_of code c.args.row.now) s.whole c.requires.in_range
    c.loop-x.x c.loop-x.heights c.loop-x.marks c.unwrap_or.result (pos 0) c.measured_if.result (code.shown c.index-row-x.result) inside c.loop-x.invariant
    (value_in code c.args.row.now c.loop-x.x c.index-row-x.result c.loop-x-test.true c.index-row-x.is)
    (or_before (code.shown c.index-row-x.result) before c.unwrap_or.result (rw (c.height.ensures, read) at c.unwrap_or.ensures))
    (rw c.is_shown.ensures at c.measured_if.ensures.measured) c.measured_if.ensures.masked)

pub invariant_of-self : goal.invariant_of-self
invariant_of-self g c =
    let s = c.args.self.now in
    let loop = c.loop-x in
    let numbers = with_items_is s.heights loop.heights (loop.auto.heights ∙ ap length c.as_mut_slice-heights.ensures.value ∙ sym s.heights.ok.0) in
    let marks = with_items_is s.marks loop.marks (loop.auto.marks ∙ ap length c.as_mut_slice-marks.ensures.value ∙ sym s.marks.ok.0) in
    record {
      paired = ap length numbers ∙ loop.invariant.paired ∙ sym (ap length marks);
      whole = rw (numbers, marks) (set_whole as_it_is s.size s.data_type s.heights.items s.marks.items s.adjacency c.args.y (values_of g.L.Lane.code c.args.row.now) s.whole c.requires.in_range
          loop.x loop.heights loop.marks loop.invariant);
    }

pub returns-clause-sets : goal.returns-clause-sets
returns-clause-sets g c =
    let s = c.args.self.now in
    let loop = c.loop-x in
    let values = values_of g.L.Lane.code c.args.row.now in
    let numbers = with_items_is s.heights loop.heights (loop.auto.heights ∙ ap length c.as_mut_slice-heights.ensures.value ∙ sym s.heights.ok.0) in
    let marks = with_items_is s.marks loop.marks (loop.auto.marks ∙ ap length c.as_mut_slice-marks.ensures.value ∙ sym s.marks.ok.0) in
    let all : length values ≤ loop.x = omega (arith, length-map c.args.row.now g.L.Lane.code.shown, c.loop-x-test.false) in
    rw (numbers, marks) (all_set as_it_is s.size s.data_type s.heights.items s.marks.items s.adjacency c.args.y values loop.x loop.heights loop.marks all loop.invariant)
