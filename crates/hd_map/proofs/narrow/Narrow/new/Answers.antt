use Rattle.hd_map.specs.declared.types.Adjacency.TheVariants.{Eight}
use Rattle.hd_map.specs.Packing.{over_least}
use Rattle.hd_map.proofs.DataTypes.{narrow_places}
use Rattle.hd_map.proofs.PackedPoints.{fresh_map, fresh_whole}
use Rattle.hd_map.proofs.narrow.Narrow.new.Goals as goal

pub invariant_of-result-clause-whole : goal.invariant_of-result-clause-whole
invariant_of-result-clause-whole c =
    let cells = c.args.cells in
    fresh_whole (over_least cells.data_type) c.args.size cells.data_type cells.heights.items cells.marks.items Eight cells.paired cells.unmasked c.requires.whole c.requires.limits
    (narrow_places cells.data_type cells.narrow) cells.of_type

pub returns : goal.returns
returns c =
    let cells = c.args.cells in
    fresh_map (over_least cells.data_type) c.args.size cells.data_type cells.heights.items cells.marks.items Eight cells.paired cells.unmasked c.requires.whole
