use Rattle.std.proofs.Common.{◌≡◌, ◌*◌, ℕ, sym, subst, arith}
use Rattle.hd_basin.specs.Frames.{AreFilled}
use Rattle.hd_basin.proofs.Frames.{filled-window, filled-shows}
use Rattle.hd_basin.proofs.window.Window.look.Goals as goal

pub invariant_of-result : goal.invariant_of-result
invariant_of-result g c =
    let m = g.T.Looked.map c.args.tiles.now in
    let all : c.loop-row.row * c.args.frame.columns ≡ c.args.frame.columns * c.args.frame.rows =
    (let e : c.loop-row.row ≡ c.args.frame.rows = omega arith in subst (λ (r : ℕ). r * c.args.frame.columns ≡ c.args.frame.columns * c.args.frame.rows) (sym e)
    (omega arith)) in
    let filled : AreFilled m c.args.frame (c.args.frame.columns * c.args.frame.rows) c.loop-row.heights.items = rw (← all) c.loop-row.invariant.filled in
    record { whole = rw c.size.ensures (filled-window m c.args.frame c.loop-row.heights.items (g.met.T.Looked.whole c.args.tiles.now).map c.requires.fits filled) }

pub returns-clause-shows : goal.returns-clause-shows
returns-clause-shows g c =
    let m = g.T.Looked.map c.args.tiles.now in
    let all : c.loop-row.row * c.args.frame.columns ≡ c.args.frame.columns * c.args.frame.rows =
    (let e : c.loop-row.row ≡ c.args.frame.rows = omega arith in subst (λ (r : ℕ). r * c.args.frame.columns ≡ c.args.frame.columns * c.args.frame.rows) (sym e)
    (omega arith)) in
    let filled : AreFilled m c.args.frame (c.args.frame.columns * c.args.frame.rows) c.loop-row.heights.items = rw (← all) c.loop-row.invariant.filled in
    rw (c.size.ensures, c.adjacency.ensures) (filled-shows m c.args.frame c.loop-row.heights.items c.requires.fits filled)
