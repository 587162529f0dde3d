use Rattle.std.proofs.Common.{◌∙◌, List, length, sym, subst}
use Rattle.std.specs.Prelude.{All}
use Rattle.hd_map.specs.declared.types.Link.{Link}
use Rattle.hd_graph.specs.Links.{HasEnds}
use Rattle.hd_tests.proofs.WrittenGraphs.{different-linked, ends-linked}
use Rattle.hd_tests.proofs.graph.expect_linked.Goals as goal

pub merges_by_links-requires-clause-different : goal.merges_by_links-requires-clause-different
merges_by_links-requires-clause-different g c = different-linked c.args.lows.now c.args.links.now c.requires

pub merges_by_links-requires-clause-within : goal.merges_by_links-requires-clause-within
merges_by_links-requires-clause-within g c =
    subst (λ (xs : List Link). All (HasEnds (length c.args.lows.now)) xs) (sym (c.into_vec-links.ensures ∙ c.list.ensures)) (ends-linked c.args.lows.now c.args.links.now c.requires)
