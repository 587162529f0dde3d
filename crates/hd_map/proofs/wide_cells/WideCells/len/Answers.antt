use Rattle.std.proofs.Common.{sym, ◌∙◌}
use Rattle.std.proofs.lemmas.Simd.{length-zip2}
use Rattle.hd_map.specs.Packing.{as_it_is, cell_from}
use Rattle.hd_map.proofs.wide_cells.WideCells.len.Goals as goal

pub returns : goal.returns
returns c =
    let s = c.args.self.now in
    c.len.ensures ∙ s.heights.ok.0 ∙ sym (length-zip2 (cell_from as_it_is) s.heights.items s.marks.items s.paired)
