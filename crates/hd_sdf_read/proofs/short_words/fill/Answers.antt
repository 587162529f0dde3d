use Rattle.std.proofs.Common.{pos, true, arith, ◌∙◌}
use Rattle.std.proofs.lemmas.List.{length-set}
use Rattle.hd_num.specs.Whole.{signed_number}
use Rattle.hd_sdf_read.specs.ShortWords.{height_over}
use Rattle.hd_sdf_read.proofs.ShortWords.{AreData-filled, masks-filled}
use Rattle.hd_sdf_read.proofs.short_words.fill.Goals as goal

pub cells-preserved : goal.cells-preserved
cells-preserved c =
    let before = c.cells.invariant in
    let overs = before.overs in
    let marks = before.marks in
    let inside = c.cells-test.true in
    record {
      overs = length-set c.cells.overs c.cells.place c.in-Some.over ∙ overs;
      marks = length-set c.cells.marks c.cells.place c.in-Some.mark ∙ marks;
      unmasked = masks-filled c.cells.marks c.cells.place c.in-Some.mark (omega (arith, marks, inside, c.requires.marks)) before.unmasked c.in-Some.ensures.unmasked;
      reads = AreData-filled (signed_number true c.args.below) (pos c.args.greatest)
          (height_over c.args.below) c.args.text.now c.cells.rest.now c.in-Some.after.now c.cells.overs c.cells.marks c.cells.place c.in-Some.over c.in-Some.mark
          (omega (arith, overs, inside, c.requires.overs)) (omega (arith, marks, inside, c.requires.marks)) before.reads c.in-Some.ensures.datum;
      some = c.in-Some.ensures.datum.left;
      begins = c.in-Some.ensures.datum.begins;
    }
