use Rattle.std.proofs.Common.{◌≡◌, ◌<◌, ◌+◌, ◌-◌, ◌*◌, ℕ, length, sym, ◌∙◌, ap, subst, arith}
use Rattle.hd_map.specs.declared.types.Pos.{Pos}
use Rattle.hd_basin.specs.declared.frame.Frame.{Frame}
use Rattle.hd_basin.specs.Frames.{InFrame}
use Rattle.hd_basin.specs.Inside.{AreMet, place_of_frame}
use Rattle.hd_basin.proofs.inside.meet_row.Goals as goal

abbrev point : Frame → ℕ → ℕ → Pos
point f i j = record { x = f.left + j; y = f.top + i }

-- the place of a row and a column
place-is : (f : Frame) (i j : ℕ) → place_of_frame f (point f i j) ≡ i * f.columns + j
place-is f i j =
    let row : f.top + i - f.top ≡ i = omega arith in
    let column : f.left + j - f.left ≡ j = omega arith in
    ap (λ (n : ℕ). n * f.columns + (f.left + j - f.left)) row ∙ ap (λ (n : ℕ). i * f.columns + n) column

within : (f : Frame) (i j : ℕ) → i < f.rows → j < f.columns → InFrame f (point f i j)
within f i j row column = record { left = omega arith; right = omega (arith, column); top = omega arith; bottom = omega (arith, row) }

pub meet_point-requires-clause-at : goal.meet_point-requires-clause-at
meet_point-requires-clause-at g c = within c.args.plot.area c.args.row c.loop-column.column c.requires.row c.loop-column-test.true

pub meet_point-requires-clause-before : goal.meet_point-requires-clause-before
meet_point-requires-clause-before g c =
    let m = g.G.Heights.map c.args.grid.now in
    subst (λ (k : ℕ). AreMet m g.S.Side.NAME c.args.plot.area c.args.labels.now (length c.args._nodes.now) k 0 c.loop-column.meetings.lasts.items c.loop-column.meetings.list.items)
    (sym (place-is c.args.plot.area c.args.row c.loop-column.column)) c.loop-column.invariant

pub loop-column-preserved : goal.loop-column-preserved
loop-column-preserved g c =
    let m = g.G.Heights.map c.args.grid.now in
    let new = c.meet_point.new.meetings in
    let next : place_of_frame c.args.plot.area (point c.args.plot.area c.args.row c.loop-column.column) + 1 ≡ c.args.row * c.args.plot.area.columns
    + (c.loop-column.column + 1) = (let e = place-is c.args.plot.area c.args.row c.loop-column.column in omega (arith, e)) in
    subst (λ (k : ℕ). AreMet m g.S.Side.NAME c.args.plot.area c.args.labels.now (length c.args._nodes.now) k 0 new.lasts.items new.list.items) next c.in_ok-meet_point.ensures

pub returns : goal.returns
returns g c =
    let m = g.G.Heights.map c.args.grid.now in
    let done : c.loop-column.column ≡ c.args.plot.area.columns = omega arith in
    let last : c.args.row * c.args.plot.area.columns + c.loop-column.column ≡ (c.args.row + 1) * c.args.plot.area.columns = omega (arith, done) in
    subst (λ (k : ℕ). AreMet m g.S.Side.NAME c.args.plot.area c.args.labels.now (length c.args._nodes.now) k 0 c.loop-column.meetings.lasts.items c.loop-column.meetings.list.items)
    last c.loop-column.invariant
