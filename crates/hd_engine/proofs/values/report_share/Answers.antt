use Rattle.std.proofs.Common.{◌∙◌, ap, subst, rules, SFits, w64}
use Rattle.std.proofs.lemmas.Int.{to_z-of_z}
use Rattle.hd_report.specs.Distributions.{perc_line}
use Rattle.hd_stats.specs.Distribution.{IsPerc}
use Rattle.hd_engine.proofs.Served.{served_share}
use Rattle.hd_engine.proofs.values.report_share.Goals as goal

pub returns-clause-text : goal.returns-clause-text
returns-clause-text g c =
    let n = c.args.notation.now in
    let fits : SFits w64 c.args.above = search rules in
    let same = to_z-of_z w64 c.args.above fits in
    let is = subst (λ z. IsPerc n c.in_ok-regions.regions z c.in_ok-share.share) same c.in_ok-share.ensures in (
      c.in_ok-share.share,
      served_share c.heights_alone_serve_distributions.ensures.shares (g.G.Heights.map c.args.grid.now) n c.in_ok-regions.regions c.args.above c.in_ok-share.share c.in_ok-regions.ensures.are is,
      c.in_ok-text.ensures ∙ ap (λ z. perc_line z c.args.word.now c.in_ok-share.share) same,
    )
