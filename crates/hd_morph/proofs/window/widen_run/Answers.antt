use Rattle.std.proofs.Common.{◌+◌, ℕ, subst, arith}
use Rattle.std.proofs.lemmas.List.{map-set}
use Rattle.hd_map.specs.Encoding.{values_of}
use Rattle.hd_morph.specs.Window.{AreWidened}
use Rattle.hd_morph.proofs.Encodings.{values_of-length, value_at-read}
use Rattle.hd_morph.proofs.Windows.{AreWidened-none, AreWidened-more}
use Rattle.hd_morph.proofs.window.widen_run.Goals as goal

pub loop-place-init : goal.loop-place-init
loop-place-init g c = record { after = omega arith; before = omega arith; widened = AreWidened-none (values_of g.L.Lane.code c.args.tops.now) c.args.step c.args.from c.args.from (omega arith) }

pub loop-place-preserved : goal.loop-place-preserved
loop-place-preserved g c =
    let code = g.L.Lane.code in
    let tops = c.loop-place.tops in
    let place = c.loop-place.place in
    let here = value_at-read code tops place c.index-tops-place.result (omega arith) c.index-tops-place.is in
    let there = value_at-read code tops (place + c.args.step) c.index-tops-place-in-loop-place.result (omega arith) c.index-tops-place-in-loop-place.is in
    record {
      after = omega arith;
      before = omega arith;
      widened = rw (map-set code.shown tops place c.larger_of.result)
          (AreWidened-more (values_of code c.args.tops.now) (values_of code tops) c.args.step c.args.from place (code.shown c.larger_of.result) c.loop-place.invariant.after
          (omega (arith, values_of-length code c.args.tops.now))
          (rw (here, there) at c.larger_of.ensures) c.loop-place.invariant.widened);
    }

pub returns : goal.returns
returns g c =
    let code = g.L.Lane.code in
    subst (λ (i : ℕ). AreWidened (values_of code c.args.tops.now) c.args.step c.args.from i (values_of code c.loop-place.tops)) (omega arith) c.loop-place.invariant.widened
