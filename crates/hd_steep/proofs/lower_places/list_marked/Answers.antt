use Rattle.std.proofs.Common.{◌&&◌, ◌∙◌, length, ap, arith}
use Rattle.std.specs.Prelude.{is_some}
use Rattle.hd_steep.specs.Ring.{is_marked}
use Rattle.hd_steep.proofs.LowerPlaces.{listed_none, listed_more, wide_at}
use Rattle.hd_steep.proofs.lower_places.list_marked.Goals as goal

pub loop-x-init : goal.loop-x-init
loop-x-init g c = record { listed = listed_none g.L.Lane.code c.args.level.now c.args.marks.now; few = omega arith }

pub loop-x-preserved : goal.loop-x-preserved
loop-x-preserved g c =
    let code = g.L.Lane.code in
    let level = c.args.level.now in
    let marks = c.args.marks.now in
    let x = c.loop-x.x in
    let inside = c.loop-x-test.true in
    let few = c.loop-x.invariant.few in
    let listed = is_marked marks x && c.is_shown.result in
    let own = (wide_at code (length marks) 1 level c.requires.level (omega arith) x c.index-owns-x.result inside c.index-owns-x.is).0 in
    let is = ap (λ shown. is_marked marks x && shown) (c.is_shown.ensures ∙ ap (λ key. is_some (code.shown key)) own) in
    record {
      listed = rw c.put-count.ensures.items (listed_more code level marks x _ listed is c.loop-x.invariant.listed);
      few = (let one = c.put-count.ensures.few in omega (arith, few, one));
    }
