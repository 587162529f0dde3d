use Rattle.std.proofs.Common.{◌+◌, arith, w64}
use Rattle.std.proofs.lemmas.Int.{to_z-of_z}
use Rattle.std.proofs.lemmas.List.{map-set}
use Rattle.hd_map.specs.Encoding.{values_of, most_between, most_filtered}
use Rattle.hd_morph.proofs.Encodings.{values_of-length, value_at-read}
use Rattle.hd_morph.proofs.PlainNumbers.{IsPlainNumber-read}
use Rattle.hd_morph.proofs.Raising.{RaisedBefore-none, RaisedBefore-more, AreRaisedTo-all}
use Rattle.hd_morph.proofs.offsets.raise_stretch.Goals as goal

pub loop-step-init : goal.loop-step-init
loop-step-init g c = RaisedBefore-none (values_of g.L.Lane.code c.args.heights.now) c.args.from _ c.args.to (values_of g.L.Lane.code c.args.tops.now)

pub raised_by-raised-requires-clause-plain : goal.raised_by-raised-requires-clause-plain
raised_by-raised-requires-clause-plain g c =
    let code = g.L.Lane.code in
    IsPlainNumber-read code (most_between code) (most_filtered code) (omega arith) c.args.heights.now c.requires.heights.each
    (c.args.from + c.loop-step.step) c.index-heights-from.result (omega arith) c.index-heights-from.is

pub loop-step-preserved : goal.loop-step-preserved
loop-step-preserved g c =
    let code = g.L.Lane.code in
    let heights = c.args.heights.now in
    let tops = c.loop-step.tops in
    let from = c.args.from + c.loop-step.step in
    let to = c.args.to + c.loop-step.step in
    let height = value_at-read code heights from c.index-heights-from.result (omega arith) c.index-heights-from.is in
    let top = value_at-read code tops to c.index-tops-to.result (omega arith) c.index-tops-to.is in
    rw (map-set code.shown tops to c.larger_of.result)
    (RaisedBefore-more (values_of code heights) c.args.from _ c.args.to c.loop-step.step (values_of code c.args.tops.now) (values_of code tops) (code.shown c.larger_of.result)
    (omega (arith, values_of-length code c.args.tops.now))
    (rw (c.raised_by-raised.ensures, height, top) at c.larger_of.ensures) c.loop-step.invariant)

pub returns : goal.returns
returns g c =
    let code = g.L.Lane.code in
    let invariant = rw (to_z-of_z w64 c.args.number c.ranges.number) at c.loop-step.invariant in
    AreRaisedTo-all (values_of code c.args.heights.now) c.args.from c.args.number c.args.to c.loop-step.step c.args.count (values_of code c.args.tops.now)
    (values_of code c.loop-step.tops) (omega arith) invariant
