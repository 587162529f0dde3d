use Rattle.std.proofs.Common.{◌≡◌, ◌∙◌, refl, ap, subst, arith, ℕ}
use Rattle.hd_map.specs.declared.types.Pos.{Pos}
use Rattle.hd_map.specs.Map.{cell_count}
use Rattle.hd_map.proofs.PositionOrder.{at-first, at-inside, at-next}
use Rattle.hd_cert.specs.Listed.{AreListed, Lists}
use Rattle.hd_reach.specs.Reached.{IsReachedLow}
use Rattle.hd_cert.proofs.Listed.{AreListed-more, AreListed-none}
use Rattle.hd_cert.proofs.ReachedLow.{IsRouteCut-listed}
use Rattle.hd_cert.proofs.region_cut.region_cut.Goals as goal

pub overflow_mul-index-end : goal.overflow_mul-index-end
overflow_mul-index-end g c =
    let whole = g.met.G.Heights.whole c.args.grid.now in
    rw c.size-size.ensures (omega (arith, whole.size.cells))

pub loop-index-init : goal.loop-index-init
loop-index-init g c =
    let m = g.G.Heights.map c.args.grid.now in
    let whole = g.met.G.Heights.whole c.args.grid.now in
    (at-first m.size (record { x = 0; y = 0 }) refl refl whole.size.some_points, rw c.new-cut.ensures.items (AreListed-none m.size (IsReachedLow m g.S.Side.NAME c.args.saddle c.args.from)))

pub list_reached-requires-clause-at : goal.list_reached-requires-clause-at
list_reached-requires-clause-at g c =
    let m = g.G.Heights.map c.args.grid.now in
    at-inside m.size c.size-size.result c.loop-index.index c.loop-index.at c.size-size.ensures c.loop-index.invariant.0 c.loop-index-test.true

pub position_after-at-requires-clause-in_grid : goal.position_after-at-requires-clause-in_grid
position_after-at-requires-clause-in_grid g c =
    let m = g.G.Heights.map c.args.grid.now in
    rw c.size-size.ensures (at-inside m.size c.size-size.result c.loop-index.index c.loop-index.at c.size-size.ensures c.loop-index.invariant.0 c.loop-index-test.true)

pub loop-index-preserved : goal.loop-index-preserved
loop-index-preserved g c =
    let m = g.G.Heights.map c.args.grid.now in
    let chosen : Pos → Type 0 = IsReachedLow m g.S.Side.NAME c.args.saddle c.args.from in
    let so = c.loop-index.invariant.0 in
    let cut = c.loop-index.cut.items in
    let lists = subst (λ (n : ℕ). Lists m.size chosen n cut c.list_reached.new.cut.items) so.place c.in_ok-list_reached.ensures in (
      at-next m.size c.size-size.result c.loop-index.index c.loop-index.at c.position_after-at.result c.size-size.ensures so c.position_after-at.ensures.column c.position_after-at.ensures.place,
      AreListed-more m.size chosen c.loop-index.index cut c.list_reached.new.cut.items lists c.loop-index.invariant.1,
    )

pub returns : goal.returns
returns g c =
    let m = g.G.Heights.map c.args.grid.now in
    let side = g.S.Side.NAME in
    let e : c.loop-index.index ≡ cell_count c.size-size.result = omega (arith, c.loop-index-test.false, c.loop-index.auto.index-end) in
    let all : c.loop-index.index ≡ cell_count m.size = e ∙ ap cell_count c.size-size.ensures in
    rw c.from_vec.ensures (IsRouteCut-listed m side c.args.saddle c.args.from c.loop-index.cut.items c.requires.low
    (subst (λ (n : ℕ). AreListed m.size (IsReachedLow m side c.args.saddle c.args.from) n c.loop-index.cut.items) all c.loop-index.invariant.1))
