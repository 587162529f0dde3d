use Rattle.std.proofs.Common.{◌∙◌, ℤ, List, ap, get_or, pos}
use Rattle.hd_map.specs.Map.{shown_height}
use Rattle.hd_map.specs.Packing.{as_it_is, cell_from, masks}
use Rattle.hd_map.proofs.PackedPoints.{height_read}
use Rattle.hd_map.proofs.wide.WideHeights.height.Goals as goal

pub returns : goal.returns
returns c =
    let s = c.args.self.now in
    let index = c.index_of-index in
    let mark = c.index.result.now in
    c.height_in.ensures
    ∙ ap (λ (hs : List ℤ). shown_height (cell_from as_it_is (get_or hs index.result (pos 0)) mark) (masks mark)) c.as_slice.ensures.value
    ∙ height_read as_it_is s.size s.data_type s.heights.items s.marks.items s.adjacency s.paired s.whole c.args.at index.result index.ensures.value index.ensures.in_map mark c.index.ensures (pos 0)
