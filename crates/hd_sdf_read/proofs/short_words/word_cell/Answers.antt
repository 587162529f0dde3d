use Rattle.std.proofs.Common.{pos, true}
use Rattle.hd_map.specs.declared.types.Cell.TheVariants.{Height}
use Rattle.hd_num.specs.Whole.{signed_number}
use Rattle.hd_sdf_read.specs.ShortWords.{height_over}
use Rattle.hd_sdf_read.proofs.ShortWords.{IsDatum-bad, IsDatum-height}
use Rattle.hd_sdf_read.proofs.short_words.word_cell.Goals as goal

pub returns-in-Some-clause-datum : goal.returns-in-Some-clause-datum
returns-in-Some-clause-datum c =
    IsDatum-bad (signed_number true c.args.below) (pos c.args.greatest) c.args.word.now c.in-Some.rest.now c.in-Some.ensures.0 c.in-Some.ensures.1 c.in-Some.ensures.2

pub returns-in-Some-leading_over-clause-datum : goal.returns-in-Some-leading_over-clause-datum
returns-in-Some-leading_over-clause-datum c =
    IsDatum-height (signed_number true c.args.below) (pos c.args.greatest) c.args.word.now c.in-Some-leading_over.rest.now (Height (height_over c.args.below c.in-Some-leading_over.over))
    c.in-Some-leading_over.ensures.cell c.in-Some-leading_over.ensures.left

pub returns-clause-datum : goal.returns-clause-datum
returns-clause-datum c =
    IsDatum-height (signed_number true c.args.below) (pos c.args.greatest) c.args.word.now c.in_ok-over.rest.now
    (Height (height_over c.args.below c.in_ok-over.over)) c.in_ok-over.ensures.cell c.in_ok-over.ensures.left
