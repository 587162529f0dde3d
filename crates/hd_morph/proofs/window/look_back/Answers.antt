use Rattle.std.proofs.Common.{◌-◌, ◌%◌, arith}
use Rattle.std.proofs.lemmas.List.{map-set}
use Rattle.hd_map.specs.Encoding.{values_of}
use Rattle.hd_morph.proofs.Encodings.{values_of-length, value_at-read}
use Rattle.hd_morph.proofs.Windows.{LookedBackFrom-far, LookedBackFrom-more}
use Rattle.hd_morph.proofs.window.look_back.Goals as goal

pub loop-place-init : goal.loop-place-init
loop-place-init g c =
    let code = g.L.Lane.code in
    let size = values_of-length code c.args.tops.now in
    LookedBackFrom-far (values_of code c.args.tops.now) (values_of code c.look_far_back.new.tops) c.args.stride c.args.reach c.min-place.result (omega arith) (λ k more less. omega (arith, size))
    (rw (← size) at c.look_far_back.ensures)

pub loop-place-preserved : goal.loop-place-preserved
loop-place-preserved g c =
    let code = g.L.Lane.code in
    let tops = c.loop-place.tops in
    let at = c.loop-place.place - 1 in
    let here = value_at-read code tops at c.index-tops-place.result (omega arith) c.index-tops-place.is in
    let there = value_at-read code tops ((c.loop-place.place - 1) % c.args.stride) c.index-tops-place-in-loop-place.result (omega arith) c.index-tops-place-in-loop-place.is in
    rw (map-set code.shown tops at c.larger_of.result)
    (LookedBackFrom-more (values_of code c.args.tops.now) (values_of code tops) c.args.stride c.args.reach c.loop-place.place (code.shown c.larger_of.result) c.requires.some (omega arith)
    (omega (arith, values_of-length code c.args.tops.now)) (omega arith) (rw (here, there) at c.larger_of.ensures) c.loop-place.invariant)
