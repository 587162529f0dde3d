use Rattle.std.proofs.Common.{sym, ◌∙◌}
use Rattle.std.proofs.lemmas.Simd.{length-zip2}
use Rattle.hd_map.specs.Packing.{cell_from, over_least}
use Rattle.hd_map.proofs.cells.Cells.len.Goals as goal

pub returns : goal.returns
returns c =
    let s = c.args.self.now in
    c.len.ensures ∙ s.heights.ok.0 ∙ sym (length-zip2 (cell_from (over_least s.data_type)) s.heights.items s.marks.items s.paired)
