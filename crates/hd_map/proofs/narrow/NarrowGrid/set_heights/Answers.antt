use Rattle.std.proofs.Common.{◌≤◌, length, ap, refl, sym, ◌∙◌, arith}
use Rattle.std.proofs.lemmas.List.{length-map, with_items_is}
use Rattle.hd_map.specs.declared.types.Pos.{Pos}
use Rattle.hd_map.specs.Encoding.{values_of}
use Rattle.hd_map.specs.Map.{InGrid}
use Rattle.hd_map.specs.Packing.{over_least}
use Rattle.hd_map.proofs.DataTypes.{in_four_bytes, least_read}
use Rattle.hd_map.proofs.HeightsSet.{none_set, set_more, set_whole, all_set}
use Rattle.hd_map.proofs.Lanes.{value_in}
use Rattle.hd_map.proofs.narrow.NarrowGrid.set_heights.Goals as goal

pub loop-x-init : goal.loop-x-init
loop-x-init g c =
    let s = c.args.self.now in
    none_set (over_least s.data_type) s.size s.data_type s.heights.items s.marks.items s.adjacency c.args.y (values_of g.L.Lane.code c.args.row.now) s.whole
    c.as_mut_slice-heights.result.now c.as_mut_slice-marks.result.now c.as_mut_slice-heights.ensures.value c.as_mut_slice-marks.ensures.value s.paired

pub over_of-requires : goal.over_of-requires
over_of-requires g c =
    let s = c.args.self.now in
    let is = value_in g.L.Lane.code c.args.row.now c.loop-x.x c.index-row-x.result c.loop-x-test.true c.index-row-x.is in
    rw (least_read s.data_type s.least s.is_least) (λ z shows. (
    let within = c.requires.in_range c.loop-x.x z (sym is ∙ shows) z refl in
    (within.0, in_four_bytes s.data_type z s.narrow within.1)))

pub loop-x-preserved : goal.loop-x-preserved
loop-x-preserved g c =
    let s = c.args.self.now in
    let t = s.data_type in
    let code = g.L.Lane.code in
    let at : Pos = record { x = c.loop-x.x; y = c.args.y } in
    let inside : InGrid s.size at = record { column = omega (arith, c.loop-x-test.true, c.requires.columns); profile = c.requires.profile } in
    set_more (over_least t) s.size t s.heights.items s.marks.items s.adjacency c.args.y (values_of code c.args.row.now) s.whole c.requires.in_range
    c.loop-x.x c.loop-x.heights c.loop-x.marks c.over_of.result 0 c.measured_if.result (code.shown c.index-row-x.result) inside c.loop-x.invariant
    (value_in code c.args.row.now c.loop-x.x c.index-row-x.result c.loop-x-test.true c.index-row-x.is)
    (rw (least_read t s.least s.is_least) at c.over_of.ensures) (rw c.is_shown.ensures at c.measured_if.ensures.measured) c.measured_if.ensures.masked

pub invariant_of-self : goal.invariant_of-self
invariant_of-self g c =
    let s = c.args.self.now in
    let loop = c.loop-x in
    let numbers = with_items_is s.heights loop.heights (loop.auto.heights ∙ ap length c.as_mut_slice-heights.ensures.value ∙ sym s.heights.ok.0) in
    let marks = with_items_is s.marks loop.marks (loop.auto.marks ∙ ap length c.as_mut_slice-marks.ensures.value ∙ sym s.marks.ok.0) in
    record {
      is_least = s.is_least;
      narrow = s.narrow;
      paired = ap length numbers ∙ loop.invariant.paired ∙ sym (ap length marks);
      whole = rw (numbers, marks) (set_whole (over_least s.data_type) s.size s.data_type s.heights.items s.marks.items s.adjacency c.args.y
          (values_of g.L.Lane.code c.args.row.now) s.whole c.requires.in_range
          loop.x loop.heights loop.marks loop.invariant);
    }

pub returns-clause-sets : goal.returns-clause-sets
returns-clause-sets g c =
    let s = c.args.self.now in
    let loop = c.loop-x in
    let values = values_of g.L.Lane.code c.args.row.now in
    let numbers = with_items_is s.heights loop.heights (loop.auto.heights ∙ ap length c.as_mut_slice-heights.ensures.value ∙ sym s.heights.ok.0) in
    let marks = with_items_is s.marks loop.marks (loop.auto.marks ∙ ap length c.as_mut_slice-marks.ensures.value ∙ sym s.marks.ok.0) in
    let all : length values ≤ loop.x = omega (arith, length-map c.args.row.now g.L.Lane.code.shown, c.loop-x-test.false) in
    rw (numbers, marks) (all_set (over_least s.data_type) s.size s.data_type s.heights.items s.marks.items s.adjacency c.args.y values loop.x loop.heights loop.marks all loop.invariant)
