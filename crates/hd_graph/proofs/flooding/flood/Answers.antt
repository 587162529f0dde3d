use Rattle.std.proofs.Common.{List, map, length}
use Rattle.hd_map.specs.Rank.{below_by}
use Rattle.hd_graph.specs.declared.graph.Low.{Low}
use Rattle.hd_map.specs.declared.types.Link.{Link}
use Rattle.hd_graph.specs.Line.{AreStopsOf, IsFloodLine}
use Rattle.hd_graph.specs.Links.{HasEnds, pass_of}
use Rattle.hd_graph.proofs.LinkOrder.{same-each}
use Rattle.hd_graph.proofs.Linked.{passes-permuted}
use Rattle.hd_graph.proofs.LineSoFar.{line-same_passes}
use Rattle.hd_graph.proofs.LineStops.{stops-line}
use Rattle.hd_graph.proofs.flooding.flood.Goals as goal

pub links_of-requires-clause-joins : goal.links_of-requires-clause-joins
links_of-requires-clause-joins g c = rw (c.lows-lows.ensures.value, c.passes.ensures) (λ k d inside. let j = c.lows-lows.ensures.whole.joins k d inside in (j.first, j.second))

pub links_onward-requires-clause-within : goal.links_onward-requires-clause-within
links_onward-requires-clause-within g c = same-each (HasEnds (length c.lows-lows.result.now)) c.in_ok-links_of.field-0.items c.in_ok-links.links c.in_ok-links.ensures.same
    c.in_ok-links_of.ensures.within

pub visit_all-requires-clause-within : goal.visit_all-requires-clause-within
visit_all-requires-clause-within g c = same-each (HasEnds (length c.lows-lows.result.now)) c.in_ok-links_of.field-0.items c.in_ok-links.links c.in_ok-links.ensures.same c.in_ok-links_of.ensures.within

pub new-requires : goal.new-requires
new-requires g c =
    let lows : List Low = c.args.graph.now.lows in
    let whole = c.lows-lows.ensures.whole in
    let line = c.in_ok-stops.ensures in
    let stops : AreStopsOf lows c.in_ok-stops.stops = rw c.lows-lows.ensures.value at line.stops in
    stops-line lows whole.different c.in_ok-stops.stops stops line.once whole.few

pub returns : goal.returns
returns g c =
    let lows : List Low = c.lows-lows.result.now in
    let links : List Link = c.in_ok-links_of.field-0.items in
    let sorted : List Link = c.in_ok-links.links in
    let same = c.in_ok-links.ensures.same in
    let line : IsFloodLine (below_by g.S.Side.NAME) lows (map (pass_of lows) links) c.in_ok-stops.stops =
    line-same_passes (below_by g.S.Side.NAME) lows (map (pass_of lows) sorted) (map (pass_of lows) links) (passes-permuted lows sorted links same.only)
    (passes-permuted lows links sorted same.kept) c.in_ok-stops.stops c.in_ok-stops.ensures in
    rw c.new.ensures (rw (c.in_ok-links_of.ensures.passes, c.lows-lows.ensures.value, c.passes.ensures) at line)
