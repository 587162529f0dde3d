use Rattle.std.proofs.Common.{ap, arith, refl}
use Rattle.hd_map.specs.Encoding.{most_between, values_of}
use Rattle.hd_morph.proofs.StandAlike.{StandAlike-dilated, StandAlike-eroded, StandAlike-itself}
use Rattle.hd_morph.proofs.PlainNumbers.{ArePlain-more}
use Rattle.hd_morph.proofs.Settling.{ArePlain-dilated, ArePlain-eroded}
use Rattle.hd_morph.proofs.flat.filter_tops.Goals as goal

pub dilate_tops-requires-clause-tops : goal.dilate_tops-requires-clause-tops
dilate_tops-requires-clause-tops g c =
    let code = g.L.Lane.code in
    rw c.requires.same (ArePlain-more code c.args.size code.most_height (most_between code) c.args.heights.now (omega arith) c.requires.heights)

pub dilate_tops-requires-clause-alike : goal.dilate_tops-requires-clause-alike
dilate_tops-requires-clause-alike g c = let code = g.L.Lane.code in StandAlike-itself (values_of code c.args.heights.now) (values_of code c.args.tops.now) (ap (values_of code) c.requires.same)

pub erode_tops-requires-clause-tops : goal.erode_tops-requires-clause-tops
erode_tops-requires-clause-tops g c =
    let code = g.L.Lane.code in
    rw c.requires.same (ArePlain-more code c.args.size code.most_height (most_between code) c.args.heights.now (omega arith) c.requires.heights)

pub erode_tops-requires-clause-alike : goal.erode_tops-requires-clause-alike
erode_tops-requires-clause-alike g c = let code = g.L.Lane.code in StandAlike-itself (values_of code c.args.heights.now) (values_of code c.args.tops.now) (ap (values_of code) c.requires.same)

pub erode_tops-requires-in-Opening-clause-tops : goal.erode_tops-requires-in-Opening-clause-tops
erode_tops-requires-in-Opening-clause-tops g c =
    let code = g.L.Lane.code in
    rw c.requires.same (ArePlain-more code c.args.size code.most_height (most_between code) c.args.heights.now (omega arith) c.requires.heights)

pub erode_tops-requires-in-Opening-clause-alike : goal.erode_tops-requires-in-Opening-clause-alike
erode_tops-requires-in-Opening-clause-alike g c = let code = g.L.Lane.code in StandAlike-itself (values_of code c.args.heights.now) (values_of code c.args.tops.now)
    (ap (values_of code) c.requires.same)

pub dilate_tops-requires-in-Closing-clause-tops : goal.dilate_tops-requires-in-Closing-clause-tops
dilate_tops-requires-in-Closing-clause-tops g c =
    let code = g.L.Lane.code in
    rw c.requires.same (ArePlain-more code c.args.size code.most_height (most_between code) c.args.heights.now (omega arith) c.requires.heights)

pub dilate_tops-requires-in-Closing-clause-alike : goal.dilate_tops-requires-in-Closing-clause-alike
dilate_tops-requires-in-Closing-clause-alike g c = let code = g.L.Lane.code in StandAlike-itself (values_of code c.args.heights.now) (values_of code c.args.tops.now)
    (ap (values_of code) c.requires.same)

pub dilate_tops-requires-in-Opening-clause-tops : goal.dilate_tops-requires-in-Opening-clause-tops
dilate_tops-requires-in-Opening-clause-tops g c =
    let code = g.L.Lane.code in
    ArePlain-eroded code c.args.size c.args.element.now code.most_height code.most_number c.args.heights.now c.erode_tops-in-Opening.new.tops c.requires.size.some_points
    c.requires.numbers c.requires.heights
    (rw c.requires.same at c.erode_tops-in-Opening.ensures)

pub dilate_tops-requires-in-Opening-clause-alike : goal.dilate_tops-requires-in-Opening-clause-alike
dilate_tops-requires-in-Opening-clause-alike g c =
    let code = g.L.Lane.code in
    let heights = c.args.heights.now in
    StandAlike-eroded code c.args.size c.args.element.now heights heights c.erode_tops-in-Opening.new.tops c.requires.size.some_points c.requires.element c.requires.heights.whole
    (StandAlike-itself (values_of code heights) (values_of code heights) refl) (rw c.requires.same at c.erode_tops-in-Opening.ensures)

pub erode_tops-requires-in-Closing-clause-tops : goal.erode_tops-requires-in-Closing-clause-tops
erode_tops-requires-in-Closing-clause-tops g c =
    let code = g.L.Lane.code in
    ArePlain-dilated code c.args.size c.args.element.now code.most_height code.most_number c.args.heights.now c.dilate_tops-in-Closing.new.tops c.requires.size.some_points
    c.requires.numbers c.requires.heights
    (rw c.requires.same at c.dilate_tops-in-Closing.ensures)

pub erode_tops-requires-in-Closing-clause-alike : goal.erode_tops-requires-in-Closing-clause-alike
erode_tops-requires-in-Closing-clause-alike g c =
    let code = g.L.Lane.code in
    let heights = c.args.heights.now in
    StandAlike-dilated code c.args.size c.args.element.now heights heights c.dilate_tops-in-Closing.new.tops c.requires.size.some_points c.requires.element c.requires.heights.whole
    (StandAlike-itself (values_of code heights) (values_of code heights) refl) (rw c.requires.same at c.dilate_tops-in-Closing.ensures)
