use Rattle.std.proofs.Common.{◌-◌, ℕ, subst, arith}
use Rattle.std.proofs.lemmas.List.{map-set}
use Rattle.hd_map.specs.Encoding.{values_of}
use Rattle.hd_morph.specs.Window.{AreLookedBack}
use Rattle.hd_morph.proofs.Encodings.{values_of-length, value_at-read}
use Rattle.hd_morph.proofs.Windows.{AreLookedBack-none, AreLookedBack-more}
use Rattle.hd_morph.proofs.window.look_run_back.Goals as goal

pub loop-place-init : goal.loop-place-init
loop-place-init g c = record { after = omega arith; before = omega arith; seen = AreLookedBack-none (values_of g.L.Lane.code c.args.tops.now) c.args.step c.args.to c.args.to (omega arith) }

pub loop-place-preserved : goal.loop-place-preserved
loop-place-preserved g c =
    let code = g.L.Lane.code in
    let tops = c.loop-place.tops in
    let at = c.loop-place.place - 1 in
    let here = value_at-read code tops at c.index-tops-place.result (omega arith) c.index-tops-place.is in
    let there = value_at-read code tops (c.loop-place.place - 1 - c.args.step) c.index-tops-place-in-loop-place.result (omega arith) c.index-tops-place-in-loop-place.is in
    record {
      after = omega arith;
      before = omega arith;
      seen = rw (map-set code.shown tops at c.larger_of.result)
          (AreLookedBack-more (values_of code c.args.tops.now) (values_of code tops) c.args.step at c.loop-place.place c.args.to (code.shown c.larger_of.result) (omega arith)
          (omega arith) (omega arith) (omega (arith, values_of-length code c.args.tops.now))
          (rw (here, there) at c.larger_of.ensures) c.loop-place.invariant.seen);
    }

pub returns : goal.returns
returns g c =
    let code = g.L.Lane.code in
    subst (λ (i : ℕ). AreLookedBack (values_of code c.args.tops.now) c.args.step i c.args.to (values_of code c.loop-place.tops)) (omega arith) c.loop-place.invariant.seen
