use Rattle.hd_engine.proofs.Served.{served_counts}
use Rattle.hd_engine.proofs.values.report_distribution.Goals as goal

pub returns-clause-text : goal.returns-clause-text
returns-clause-text g c = (
  c.in_ok-counts.counts,
  served_counts c.heights_alone_serve_distributions.ensures.counts (g.G.Heights.map c.args.grid.now) c.args.notation.now c.in_ok-regions.regions c.args.bins c.in_ok-counts.counts
      c.in_ok-regions.ensures.are c.in_ok-counts.ensures,
  c.in_ok-text.ensures,
)
