use Rattle.std.proofs.Common.{sym, ◌∙◌}
use Rattle.hd_map.specs.Packing.{over_least}
use Rattle.hd_map.proofs.PackedPoints.{bad_read}
use Rattle.hd_map.proofs.narrow.NarrowGrid.cell.Goals as goal

pub returns-else-is_measured : goal.returns-else-is_measured
returns-else-is_measured c =
    let s = c.args.self.now in
    let index = c.index_of-index in
    sym (bad_read (over_least s.data_type) s.size s.data_type s.heights.items s.marks.items s.adjacency s.paired s.whole
    c.args.at index.result index.ensures.value index.ensures.in_map c.index.result.now c.index.ensures 0 (sym c.is_measured.ensures ∙ c.if-is_measured.false))
