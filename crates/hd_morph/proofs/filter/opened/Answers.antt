use Rattle.std.proofs.Common.{arith}
use Rattle.hd_map.specs.Encoding.{most_between}
use Rattle.hd_morph.proofs.PlainNumbers.{ArePlain-more}
use Rattle.hd_morph.proofs.Settling.{ArePlain-eroded}
use Rattle.hd_morph.proofs.filter.opened.Goals as goal

pub eroded-requires-clause-heights : goal.eroded-requires-clause-heights
eroded-requires-clause-heights g c =
    let code = g.L.Lane.code in
    rw c.deref_mut.ensures.value (ArePlain-more code c.args.size code.most_height (most_between code) c.args.heights.items (omega arith) c.requires.heights)

pub dilate_by_offsets-requires-clause-heights : goal.dilate_by_offsets-requires-clause-heights
dilate_by_offsets-requires-clause-heights g c =
    let code = g.L.Lane.code in
    rw c.deref.ensures.value (ArePlain-eroded code c.args.size c.args.element.now code.most_height code.most_number c.args.heights.items c.in_ok-between.between.items
    c.requires.size.some_points c.requires.numbers c.requires.heights
    (rw c.deref_mut.ensures.value at c.in_ok-between.ensures))
