use Rattle.std.proofs.Common.{◌≤◌, ◌+◌, ◌*◌, length, refl, arith, rules, w64}
use Rattle.std.proofs.lemmas.Int.{to_z-of_z}
use Rattle.std.proofs.Math.Nat.{mul-le-mul_right}
use Rattle.hd_morph.proofs.RaisedRectangles.{AreNumbersRaised-all, RaisedBefore-more, RaisedBefore-none, AreTopped-row}
use Rattle.hd_morph.proofs.rectangle.raise_within.Goals as goal

pub loop-y-init : goal.loop-y-init
loop-y-init g c = RaisedBefore-none g.L.Lane.code c.args.size c.args.from c.args.to _ c.args.heights.now c.args.from.y c.args.tops.now refl c.requires.same

pub offset_bounds-tops-start : goal.offset_bounds-tops-start
offset_bounds-tops-start g c =
    let to_end : c.loop-y.y * c.args.size.points + c.args.from.x ≤ length c.loop-y.tops =
    omega (
      arith,
      c.loop-y.invariant.whole,
      c.requires.heights.whole,
      c.requires.columns,
      c.requires.to.column,
      c.loop-y-test.true,
      mul-le-mul_right c.args.size.points c.requires.to.profile,
      mul-le-mul_right c.args.size.points c.loop-y-test.true,
    ) in
    search (rules, to_end)

pub settle-requires-clause-topped : goal.settle-requires-clause-topped
settle-requires-clause-topped g c =
    AreTopped-row g.L.Lane.code c.args.size c.args.from c.args.to _ c.args.heights.now c.loop-y.y _ _ c.loop-y.tops (omega arith) (omega arith) c.requires.to c.requires.columns
    (omega arith) (omega (arith, c.loop-y-test.true)) c.requires.heights.whole c.loop-y.invariant c.requires.heights

pub loop-y-preserved : goal.loop-y-preserved
loop-y-preserved g c =
    RaisedBefore-more g.L.Lane.code c.args.size c.args.from c.args.to _ c.args.heights.now c.loop-y.y _ _ c.loop-y.tops (omega arith) (omega arith) c.requires.to c.requires.columns
    (omega arith) (omega (arith, c.loop-y-test.true)) c.requires.heights.whole c.loop-y.invariant c.settle.new.tops c.settle.ensures

pub returns : goal.returns
returns g c =
    rw (to_z-of_z w64 c.args.number c.ranges.number) at
    (AreNumbersRaised-all g.L.Lane.code c.args.size c.args.from c.args.to _ c.args.heights.now c.loop-y.y c.loop-y.tops (omega (arith, c.loop-y-test.false)) c.loop-y.invariant)
