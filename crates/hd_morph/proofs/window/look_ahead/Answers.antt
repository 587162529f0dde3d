use Rattle.std.proofs.Common.{arith}
use Rattle.hd_map.specs.Encoding.{values_of}
use Rattle.hd_morph.proofs.Windows.{AreAheadGreatests-one, AreAheadGreatests-join}
use Rattle.hd_morph.proofs.window.look_ahead.Goals as goal

pub wider-init : goal.wider-init
wider-init g c = record { some = omega arith; below = omega arith; ahead = AreAheadGreatests-one (values_of g.L.Lane.code c.args.tops.now) c.args.stride }

pub wider-preserved : goal.wider-preserved
wider-preserved g c =
    let code = g.L.Lane.code in
    record {
      some = omega arith;
      below = omega arith;
      ahead = AreAheadGreatests-join (values_of code c.args.tops.now) (values_of code c.wider.tops) (values_of code c.widen.new.tops) c.args.stride c.wider.seen c.min-step.result
          (omega arith) c.wider.invariant.ahead c.widen.ensures;
    }
