use Rattle.std.proofs.Common.{sym, subst, ◌∙◌, ap, length}
use Rattle.std.specs.Int.{w64}
use Rattle.std.proofs.lemmas.Int.{to_z-of_z}
use Rattle.std.proofs.lemmas.List.{length-map}
use Rattle.hd_map.specs.Map.{AreCellsOf}
use Rattle.hd_map.proofs.PackedPoints.{multiplied_kept}
use Rattle.hd_map.proofs.wide_cells.WideCells.multiply.Goals as goal

pub invariant_of-self : goal.invariant_of-self
invariant_of-self c =
    let s = c.args.self.now in
    let kept = multiplied_kept c.args.data_type c.args.factor _ (to_z-of_z w64 c.args.factor c.ranges.factor) s.heights.items c.multiply_all.new.numbers.items s.marks.items
    c.multiply_all.ensures c.requires.of_type in
    record {
      places = c.requires.places;
      paired = ap length c.multiply_all.ensures ∙ length-map s.heights.items _ ∙ s.paired;
      unmasked = s.unmasked;
      of_type = subst (AreCellsOf c.args.data_type) (sym kept) c.requires.of_type;
    }

pub returns-clause-cells : goal.returns-clause-cells
returns-clause-cells c =
    let s = c.args.self.now in
    multiplied_kept c.args.data_type c.args.factor _ (to_z-of_z w64 c.args.factor c.ranges.factor) s.heights.items c.multiply_all.new.numbers.items s.marks.items
    c.multiply_all.ensures c.requires.of_type
