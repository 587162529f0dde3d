use Rattle.std.proofs.Common.{◌≡◌, pos, true, drop, ◌∙◌, ap, List, ℕ}
use Rattle.std.proofs.lemmas.List.{take_rest}
use Rattle.hd_map.specs.declared.types.Cell.TheVariants.{Height}
use Rattle.hd_map.specs.Packing.{cell_from}
use Rattle.hd_num.specs.Lines.{without_start}
use Rattle.hd_num.specs.Whole.{signed_number}
use Rattle.hd_sdf_read.specs.Tokens.{is_gap}
use Rattle.hd_sdf_read.specs.ShortWords.{height_over}
use Rattle.hd_sdf_read.proofs.ShortWords.{without_start-behind_gap, without_start-behind_gaps, IsDatum-behind, IsDatum-height}
use Rattle.hd_sdf_read.proofs.short_words.next_cell.Goals as goal

pub returns-in-Some-clause-datum : goal.returns-in-Some-clause-datum
returns-in-Some-clause-datum c =
    let least = signed_number true c.args.below in
    let text : List ℕ = c.args.text.now in
    let takes = rw (take_rest text 1) at c.in-Some.ensures.cell in
    IsDatum-behind least (pos c.args.greatest) text (drop 1 text) c.in-Some.rest.now (Height (height_over c.args.below c.in-Some.over))
    (without_start-behind_gap text c.requires.some c.requires.begins)
    (IsDatum-height least (pos c.args.greatest) (drop 1 text) c.in-Some.rest.now (Height (height_over c.args.below c.in-Some.over)) takes c.in-Some.ensures.left)

pub returns-clause-datum : goal.returns-clause-datum
returns-clause-datum c =
    let text : List ℕ = c.args.text.now in
    let word_is : c.skip_gaps.result.now ≡ without_start is_gap (drop 1 text) = c.skip_gaps.ensures ∙ ap (without_start is_gap) (take_rest text 1) in
    IsDatum-behind (signed_number true c.args.below) (pos c.args.greatest) text c.skip_gaps.result.now c.in_ok-over.rest.now (cell_from (height_over c.args.below) c.in_ok-over.over c.in_ok-over.mark)
    (without_start-behind_gaps text c.skip_gaps.result.now c.requires.some c.requires.begins word_is) c.in_ok-over.ensures.datum
