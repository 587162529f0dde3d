use Rattle.std.proofs.Common.{◌≡◌, ◌+◌, ◌*◌, ℕ, sym, ◌∙◌, ap, subst, arith}
use Rattle.hd_map.specs.Map.{height_at}
use Rattle.hd_basin.specs.Frames.{AreFilled}
use Rattle.hd_basin.proofs.Areas.{place-at, point_in-frame}
use Rattle.hd_basin.proofs.Frames.{filled_more, frame-in_grid}
use Rattle.hd_basin.proofs.window.look_along.Goals as goal

pub look-height-requires : goal.look-height-requires
look-height-requires g c =
    let within = point_in-frame c.args.frame c.args.row c.loop-column.column c.requires.row c.loop-column-test.true in
    record {
      in_grid = frame-in_grid (g.T.Looked.map c.args.tiles.now).size c.args.frame _ c.requires.fits within;
      allowed = c.requires.allowed _ within;
    }

pub loop-column-preserved : goal.loop-column-preserved
loop-column-preserved g c =
    let m = g.T.Looked.map c.args.tiles.now in
    let f = c.args.frame in
    let n : ℕ = c.args.row * f.columns + c.loop-column.column in
    let next : n + 1 ≡ c.args.row * f.columns + (c.loop-column.column + 1) = omega arith in
    let height = c.look-height.ensures.height ∙ ap (height_at m) (sym (place-at f c.args.row c.loop-column.column c.loop-column-test.true)) in
    record {
      counted = omega (arith, c.look-height.ensures.counted, c.loop-column.invariant.counted);
      filled = subst (λ (k : ℕ). AreFilled m f k c.push.new.self.items) next (rw c.in_ok-push.ensures.items
          (filled_more m f n c.loop-column.heights.items c.look-height.result c.loop-column.invariant.filled height));
    }
