use Rattle.std.proofs.Common.{◌≡◌, ◌<◌, ◌≤◌, ◌+◌, ◌-◌, ◌*◌, ℕ, List, false, length, sym, ◌∙◌, arith}
use Rattle.std.proofs.Math.Nat.{mul-le-mul_right}
use Rattle.std.proofs.lemmas.Bool.{OnTrue_at}
use Rattle.hd_map.specs.declared.types.Pos.{Pos}
use Rattle.hd_map.specs.declared.types.Rank.{Rank}
use Rattle.hd_map.specs.declared.types.SideName.{SideName}
use Rattle.hd_basin.specs.declared.frame.Frame.{Frame}
use Rattle.hd_basin.specs.Frames.{InFrame}
use Rattle.hd_basin.specs.Round.{AreAllPoints, lacks_one}
use Rattle.hd_basin.proofs.Edges.{row-open, rows-closed}
use Rattle.hd_basin.proofs.edge.is_edge.Goals as goal

pub returns-then-lacks_one-clause-edge : goal.returns-then-lacks_one-clause-edge
returns-then-lacks_one-clause-edge g c = λ e. row-open (g.G.Heights.map c.args._grid.now) g.S.Side.NAME
    (g.met.G.Heights.whole c.args._grid.now) c.args.at c.requires.present c.args.area c.args.ranks.now c.requires.ranks c.requires.at 0 _ (omega arith) (omega arith)
    (sym c.lacks_one.ensures ∙ c.if-lacks_one.true)

pub returns-then-lacks_one-2-clause-edge : goal.returns-then-lacks_one-2-clause-edge
returns-then-lacks_one-2-clause-edge g c = λ e. row-open (g.G.Heights.map c.args._grid.now) g.S.Side.NAME
    (g.met.G.Heights.whole c.args._grid.now) c.args.at c.requires.present c.args.area c.args.ranks.now c.requires.ranks c.requires.at 1 _ (omega arith) (omega arith)
    (sym c.lacks_one-2.ensures ∙ c.if-lacks_one-2.true)

pub returns-clause-edge : goal.returns-clause-edge
returns-clause-edge g c = λ e. row-open (g.G.Heights.map c.args._grid.now) g.S.Side.NAME
    (g.met.G.Heights.whole c.args._grid.now) c.args.at c.requires.present c.args.area c.args.ranks.now c.requires.ranks c.requires.at 2 _ (omega arith) (omega arith)
    (sym c.lacks_one-3.ensures ∙ e)

pub returns-clause-inner : goal.returns-clause-inner
returns-clause-inner g c = λ e. rows-closed (g.G.Heights.map c.args._grid.now) g.S.Side.NAME
    (g.met.G.Heights.whole c.args._grid.now) c.args.at c.requires.present c.args.area c.args.ranks.now c.requires.ranks c.requires.at _ _ _ (omega arith) (omega arith)
    (omega arith) (sym c.lacks_one.ensures ∙ c.if-lacks_one.false) (sym c.lacks_one-2.ensures ∙ c.if-lacks_one-2.false) (sym c.lacks_one-3.ensures ∙ e)

-- where all ranks are those of points, so are three side by side
none-lacks : (side : SideName) (ranks : List Rank) (k : ℕ) → AreAllPoints side ranks → k + 2 < length ranks → lacks_one side ranks k ≡ false
none-lacks side ranks k all inside = rw (all k (omega (arith, inside)), all (k + 1) (omega (arith, inside)), all (k + 2) inside)

-- the three ranks of a row round a point are in the list
inside-row : (f : Frame) (p : Pos) (v count : ℕ) → InFrame f p → v ≤ 2 → count ≡ (f.rows + 2) * (f.columns + 2) → (p.y - f.top + v) * (f.columns + 2) + (p.x - f.left) + 2 < count
inside-row f p v count within low is =
    let top = within.top in
    let bottom = within.bottom in
    let left = within.left in
    let right = within.right in
    let rows = mul-le-mul_right (f.columns + 2) (let h : p.y - f.top + v + 1 ≤ f.rows + 2 = omega (arith, top, bottom, low) in h) in
    omega (arith, rows, left, right, is)

pub returns-then-whole-clause-inner : goal.returns-then-whole-clause-inner
returns-then-whole-clause-inner g c = λ e.
    let f : Frame = c.args.area in
    let p : Pos = c.args.at in
    let ranks : List Rank = c.args.ranks.now in
    let side = g.S.Side.NAME in
    let all = OnTrue_at c.if-whole.true c.requires.whole in
    let row = λ (v : ℕ) (low : v ≤ 2). none-lacks side ranks ((p.y - f.top + v) * (f.columns + 2) + (p.x - f.left)) all (inside-row f p v (length ranks) c.requires.at low c.requires.ranks.whole) in
    rows-closed (g.G.Heights.map c.args._grid.now) side (g.met.G.Heights.whole c.args._grid.now) p c.requires.present f ranks c.requires.ranks c.requires.at _ _ _ (omega arith)
    (omega arith) (omega arith)
    (row 0 (omega arith)) (row 1 (omega arith)) (row 2 (omega arith))
