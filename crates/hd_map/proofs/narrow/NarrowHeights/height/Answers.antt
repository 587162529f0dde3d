use Rattle.std.proofs.Common.{◌∙◌, ◌+ℤ◌, ℕ, ℤ, ap, pos}
use Rattle.hd_map.specs.Map.{shown_height}
use Rattle.hd_map.specs.Packing.{cell_from, masks, over_least}
use Rattle.hd_map.proofs.DataTypes.{least_read}
use Rattle.hd_map.proofs.PackedPoints.{height_read}
use Rattle.hd_map.proofs.narrow.NarrowHeights.height.Goals as goal

pub returns : goal.returns
returns c =
    let s = c.args.self.now in
    let index = c.index_of-index in
    let mark = c.index-2.result.now in
    c.height_over.ensures
    ∙ ap (λ (l : ℤ). shown_height (cell_from (λ (n : ℕ). l +ℤ pos n) c.index.result.now mark) (masks mark)) (least_read s.data_type s.least s.is_least)
    ∙ ap (λ (n : ℕ). shown_height (cell_from (over_least s.data_type) n mark) (masks mark)) c.index.ensures
    ∙ height_read (over_least s.data_type) s.size s.data_type s.heights.items s.marks.items s.adjacency s.paired s.whole
    c.args.at index.result index.ensures.value index.ensures.in_map mark c.index-2.ensures c.index.result.now
