use Rattle.std.proofs.Common.{◌≡◌, ◌∙◌, Some, get_or, slice_get, sym, arith}
use Rattle.std.specs.Prelude.{pos}
use Rattle.std.proofs.lemmas.Option.{slice_get-get_or}
use Rattle.hd_map.specs.Rank.{below_by}
use Rattle.hd_lines.specs.declared.saddles.NumberedBorder.{NumberedBorder}
use Rattle.hd_lines.proofs.NumberedBorders.{AreJoinedTo-more, AreLower-more, BordersSplitAt-end, BordersSplitAt-here}
use Rattle.hd_lines.proofs.saddles.join_lower.Goals as goal

abbrev none : NumberedBorder
none = record { number = 0; a = 0; b = 0; at = record { height = pos 0; index = 0 } }

pub loop-place-preserved : goal.loop-place-preserved
loop-place-preserved g c =
    let x : NumberedBorder = get_or c.args.borders.now c.loop-place.place none in
    let at : slice_get c.args.borders.now c.loop-place.place ≡ Some x = slice_get-get_or c.args.borders.now c.loop-place.place none c.loop-place-test.true in
    record {
      inside = (let less = c.loop-place-test.true in omega arith);
      lower = AreLower-more (below_by g.S.Side.NAME) g.met.S.Side.order c.args.borders.now c.requires.sorted c.loop-place.place x c.args.level at
          (sym c.below.ensures ∙ c.if-below.true) c.loop-place.invariant.lower;
      falling = c.join.ensures.falling;
      long = c.join.ensures.long ∙ c.loop-place.invariant.long;
      joined = AreJoinedTo-more c.args.borders.now c.loop-place.place x at c.loop-place.classes.parents.items c.join.new.self.parents.items c.loop-place.invariant.joined c.join.result
          c.join.ensures.joins c.join.ensures.one c.join.ensures.same;
    }

pub returns-else-below-clause-splits : goal.returns-else-below-clause-splits
returns-else-below-clause-splits g c =
    BordersSplitAt-here (below_by g.S.Side.NAME) g.met.S.Side.order c.args.borders.now c.requires.sorted c.loop-place.place (get_or c.args.borders.now c.loop-place.place none) c.args.level
    (slice_get-get_or c.args.borders.now c.loop-place.place none c.loop-place-test.true) (sym c.below.ensures ∙ c.if-below.false) c.loop-place.invariant.lower

pub returns-after-loop-place-clause-splits : goal.returns-after-loop-place-clause-splits
returns-after-loop-place-clause-splits g c =
    BordersSplitAt-end (below_by g.S.Side.NAME) g.met.S.Side.order c.args.borders.now c.requires.sorted c.loop-place.place c.args.level c.loop-place-test.false c.loop-place.invariant.lower
