use Rattle.std.proofs.Common.{◌<◌, ℕ, subst}
use Rattle.hd_map.specs.Map.{Present, position_at}
use Rattle.hd_audit.specs.Lines.{IsListed}
use Rattle.hd_audit.proofs.FailedTests.{test-fails, test-holds, below-more}
use Rattle.hd_audit.proofs.places.first_unlisted.Goals as goal

pub loop-index-preserved : goal.loop-index-preserved
loop-index-preserved g c =
    let m = g.G.Heights.map c.args.surface.now in
    below-more (λ i. Present m (position_at m.size i) → IsListed c.args.lines.now i) c.loop-index.index c.loop-index.invariant
    (test-holds c.has_line_if_present.result c.if-not-has_line_if_present.false c.has_line_if_present.ensures)

pub returns-then-not-has_line_if_present : goal.returns-then-not-has_line_if_present
returns-then-not-has_line_if_present g c = (
  c.loop-index.index,
  subst (λ (n : ℕ). c.loop-index.index < n) c.cells_of-index-end.ensures c.loop-index-test.true,
  c.loop-index.invariant,
  test-fails c.has_line_if_present.result c.if-not-has_line_if_present.true c.has_line_if_present.ensures,
  c.position_in.ensures,
)
