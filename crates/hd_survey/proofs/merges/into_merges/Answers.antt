use Rattle.std.proofs.Common.{List, map, sym, subst, ap, ◌∙◌}
use Rattle.std.specs.Prelude.{All}
use Rattle.hd_map.specs.declared.types.Link.{Link}
use Rattle.hd_steep.specs.Crossings.{HasPits, passes_of}
use Rattle.hd_steep.specs.Numbering.{roots_of}
use Rattle.hd_survey.specs.PitLinks.{AreRegionCrossings, low_of}
use Rattle.hd_survey.proofs.merges.into_merges.Goals as goal

pub merges_of_linked_pits-requires : goal.merges_of_linked_pits-requires
merges_of_linked_pits-requires g c =
    let m = g.G.Heights.map c.args.grid.now in
    let side = g.S.Side.NAME in
    let regions = c.args.regions in
    record {
      pits = regions.pits;
      are_pits = c.requires.pits;
      are_lows = c.in_ok-lows.ensures ∙ ap (map low_of) (c.as_slice.ensures ∙ c.into_pits-pits.ensures);
      ends = subst (λ (xs : List Link). All (HasPits regions.pits) xs) (sym c.into_vec-links.ensures) c.in_ok-crossings.ensures.pits;
      crossings = subst (λ (xs : List Link). AreRegionCrossings m side (passes_of side regions.pits xs)) (sym c.into_vec-links.ensures)
          (roots_of regions, c.requires.roots, c.in_ok-crossings.ensures.passes);
    }
