use Rattle.std.proofs.Common.{◌≡◌, ◌<◌, ℕ, length, subst, ◌∙◌, arith, refl}
use Rattle.hd_map.proofs.PackedPoints.{AreCleared, alike_length, more_cleared, cleared_all}
use Rattle.hd_map.proofs.mark.unmasked_marks.Goals as goal

pub loop-index-init : goal.loop-index-init
loop-index-init c = rw c.in_ok-copy.ensures.items (record { measured = refl; no_masks = refl })

pub loop-index-preserved : goal.loop-index-preserved
loop-index-preserved c =
    let loop = c.loop-index in
    let all = c.len-index-end.ensures ∙ c.in_ok-copy.ensures.len in
    let same = alike_length c.args.marks.now loop.copy.items loop.invariant.measured in
    let inside : loop.index < length loop.copy.items = omega (arith, all, same) in
    more_cleared c.args.marks.now loop.index loop.copy.items c.index.result.now c.unmasked.result loop.invariant inside c.index.ensures c.unmasked.ensures.measured c.unmasked.ensures.masked

pub returns : goal.returns
returns c =
    let loop = c.loop-index in
    let all = c.len-index-end.ensures ∙ c.in_ok-copy.ensures.len in
    let done : loop.index ≡ length c.args.marks.now = omega (arith, all) in
    cleared_all c.args.marks.now loop.copy.items (subst (λ (n : ℕ). AreCleared c.args.marks.now n loop.copy.items) done loop.invariant)
