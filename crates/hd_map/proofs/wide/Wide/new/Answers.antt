use Rattle.hd_map.specs.declared.types.Adjacency.TheVariants.{Eight}
use Rattle.hd_map.specs.Packing.{as_it_is}
use Rattle.hd_map.proofs.PackedPoints.{fresh_map, fresh_whole}
use Rattle.hd_map.proofs.wide.Wide.new.Goals as goal

pub invariant_of-result-clause-whole : goal.invariant_of-result-clause-whole
invariant_of-result-clause-whole c =
    let cells = c.args.cells in
    fresh_whole as_it_is c.args.size cells.data_type cells.heights.items cells.marks.items Eight cells.paired cells.unmasked c.requires.whole c.requires.limits cells.places cells.of_type

pub returns : goal.returns
returns c =
    let cells = c.args.cells in
    fresh_map as_it_is c.args.size cells.data_type cells.heights.items cells.marks.items Eight cells.paired cells.unmasked c.requires.whole
