use Rattle.std.proofs.Common.{◌≡◌, ◌∙◌, ◌<◌, ap, arith, length, subst, sym}
use Rattle.hd_map.specs.declared.types.Size.{Size}
use Rattle.hd_map.specs.Map.{Present, cell_count, position_at}
use Rattle.hd_audit.specs.declared.types.AuditLine.{AuditLine}
use Rattle.hd_audit.specs.Lines.{IsPointAt, point_at}
use Rattle.hd_audit.proofs.listing.spread_kept.Goals as goal

pub position_of-at-requires : goal.position_of-at-requires
position_of-at-requires g c =
    let m = g.G.Heights.map c.args.grid.now in
    let inside : c.loop-place.place < length c.args.lines.now = (let less = c.loop-place-test.true in let is = c.len-place-end.ensures in omega (arith, less, is)) in
    let point : IsPointAt m c.at.result.index = subst (λ (x : AuditLine). IsPointAt m x.index) (sym c.at.ensures) (c.requires.points c.loop-place.place inside) in
    subst (λ (s : Size). c.at.result.index < cell_count s) (sym c.size.ensures) point.inside

pub spread-requires-clause-present : goal.spread-requires-clause-present
spread-requires-clause-present g c =
    let m = g.G.Heights.map c.args.grid.now in
    let inside : c.loop-place.place < length c.args.lines.now = (let less = c.loop-place-test.true in let is = c.len-place-end.ensures in omega (arith, less, is)) in
    let point : IsPointAt m c.at.result.index = subst (λ (x : AuditLine). IsPointAt m x.index) (sym c.at.ensures) (c.requires.points c.loop-place.place inside) in
    subst (Present m) (sym (c.position_of-at.ensures.value ∙ ap (λ (s : Size). position_at s c.at.result.index) c.size.ensures)) point.present

pub loop-place-preserved : goal.loop-place-preserved
loop-place-preserved g c =
    let m = g.G.Heights.map c.args.grid.now in
    let inside : c.loop-place.place < length c.args.lines.now = (let less = c.loop-place-test.true in let is = c.len-place-end.ensures in omega (arith, less, is)) in
    let at : c.position_of-at.result ≡ position_at m.size c.at.result.index = c.position_of-at.ensures.value ∙ ap (λ (s : Size). position_at s c.at.result.index) c.size.ensures in
    let is_at : point_at m c.args.lines.now c.loop-place.place ≡ c.position_of-at.result = ap (λ (x : AuditLine). position_at m.size x.index) (sym c.at.ensures) ∙ sym at in
    record {
      front = c.in_ok-spread.ensures.spreads c.args.lines.now c.loop-place.invariant.front inside is_at;
      standing = c.in_ok-spread.ensures.standing;
      heap = c.in_ok-spread.ensures.heap;
    }
