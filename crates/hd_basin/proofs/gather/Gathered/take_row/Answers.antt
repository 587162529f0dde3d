use Rattle.std.proofs.Common.{◌≡◌, ◌+◌, ◌*◌, ℕ, slice_index, sym, subst, arith}
use Rattle.hd_basin.specs.declared.frame.Frame.{Frame}
use Rattle.hd_basin.specs.Gathering.{IsGathered}
use Rattle.hd_basin.specs.Inside.{place_of_frame}
use Rattle.hd_basin.specs.Sinks.{IsSunk}
use Rattle.hd_basin.proofs.Areas.{place-below, point_in, point_in-frame, point_in-place}
use Rattle.hd_basin.proofs.gather.Gathered.take_row.Goals as goal

pub take-requires-clause-at : goal.take-requires-clause-at
take-requires-clause-at g c = point_in-frame c.args.plot.area c.args.row c.loop-column.column c.requires.row c.loop-column-test.true

pub take-requires-clause-sunk : goal.take-requires-clause-sunk
take-requires-clause-sunk g c =
    let f : Frame = c.args.plot.area in
    let k : ℕ = c.args.row * f.columns + c.loop-column.column in
    let below = place-below f c.args.row c.loop-column.column c.requires.row c.loop-column-test.true in
    subst (λ (n : ℕ). IsSunk (g.G.Heights.map c.args.grid.now) g.S.Side.NAME c.args.plot.tiling.side f n (slice_index c.args.sinks.now k))
    (sym (point_in-place f c.args.row c.loop-column.column)) (c.requires.sunk.each k below)

pub take-requires-clause-before : goal.take-requires-clause-before
take-requires-clause-before g c =
    let m = g.G.Heights.map c.args.grid.now in
    let all = c.loop-column.self in
    subst (λ (k : ℕ). IsGathered m g.S.Side.NAME c.args.plot.tiling.side c.args.plot.tile c.args.plot.area k all.nodes.items all.numbers.items all.labels.items)
    (sym (point_in-place c.args.plot.area c.args.row c.loop-column.column)) c.loop-column.invariant

pub loop-column-preserved : goal.loop-column-preserved
loop-column-preserved g c =
    let m = g.G.Heights.map c.args.grid.now in
    let f : Frame = c.args.plot.area in
    let all = c.take.new.self in
    let next : place_of_frame f (point_in f c.args.row c.loop-column.column) + 1 ≡ c.args.row * f.columns
    + (c.loop-column.column + 1) = (let e = point_in-place f c.args.row c.loop-column.column in omega (arith, e)) in
    subst (λ (k : ℕ). IsGathered m g.S.Side.NAME c.args.plot.tiling.side c.args.plot.tile f k all.nodes.items all.numbers.items all.labels.items) next c.in_ok-take.ensures

pub loop-column-init : goal.loop-column-init
loop-column-init g c =
    let m = g.G.Heights.map c.args.grid.now in
    let old = c.args.self.now in
    let first : c.args.row * c.args.plot.area.columns ≡ c.args.row * c.args.plot.area.columns + 0 = omega arith in
    subst (λ (k : ℕ). IsGathered m g.S.Side.NAME c.args.plot.tiling.side c.args.plot.tile c.args.plot.area k old.nodes.items old.numbers.items old.labels.items) first c.requires.before

pub returns : goal.returns
returns g c =
    let m = g.G.Heights.map c.args.grid.now in
    let all = c.loop-column.self in
    let done : c.loop-column.column ≡ c.args.plot.area.columns = omega arith in
    let last : c.args.row * c.args.plot.area.columns + c.loop-column.column ≡ (c.args.row + 1) * c.args.plot.area.columns = omega (arith, done) in
    subst (λ (k : ℕ). IsGathered m g.S.Side.NAME c.args.plot.tiling.side c.args.plot.tile c.args.plot.area k all.nodes.items all.numbers.items all.labels.items) last c.loop-column.invariant
