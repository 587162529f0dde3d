use Rattle.std.proofs.Common.{◌≡◌, length, sym, rules}
use Rattle.std.proofs.lemmas.Bool.{OnFalse_from, ltb-false}
use Rattle.hd_steep.specs.Ring.{IsOneAtMost}
use Rattle.hd_steep.proofs.Marks.{one_of_eight}
use Rattle.hd_steep.proofs.places.are_several.Goals as goal

pub returns : goal.returns
returns c = OnFalse_from _ (IsOneAtMost c.args.marks.now) (λ few.
    let long : length c.args.marks.now ≡ 8 = search rules in
    let count = ltb-false _ _ few in
    one_of_eight c.args.marks.now long (rw (
      sym c.from.ensures,
      sym c.from-2.ensures,
      sym c.from-3.ensures,
      sym c.from-4.ensures,
      sym c.from-5.ensures,
      sym c.from-6.ensures,
      sym c.from-7.ensures,
      sym c.from-8.ensures,
    ) count))
