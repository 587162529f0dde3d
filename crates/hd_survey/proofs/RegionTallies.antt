-- The tallies of regions, from those by number.
use Rattle.std.proofs.Common.{◌≡◌, ◌<◌, ◌∙◌, List, length, map, get_or, sym, ap, subst, arith}
use Rattle.std.specs.Prelude.{AllPairs, pos}
use Rattle.std.proofs.lemmas.List.{get_or-map, length-map}
use Rattle.hd_map.specs.declared.types.Rank.{Rank}
use Rattle.hd_map.specs.Map.{Map, cell_count}
use Rattle.hd_steep.specs.Numbering.{Numbering, roots_of}
use Rattle.hd_regions.specs.declared.tally.Tally.{Tally}
use Rattle.hd_survey.specs.Tallies.{AreTallies, numbered_below, region_tally, rooted_below, tally_of}
use Rattle.hd_survey.proofs.Lists.{same_lists}
use Rattle.hd_survey.proofs.Numbers.{below-numbered}

no_rank : Rank
no_rank = record { height = pos 0; index = 0 }

-- the tallies by number are those of the regions
pub tallies_are : (m : Map) (regions : Numbering) → AllPairs (λ a b. a.index < b.index) regions.pits → length regions.numbers ≡ cell_count m.size
    → (tallies : List Tally) → AreTallies m regions (cell_count m.size) tallies → tallies ≡ map (region_tally m (roots_of regions)) regions.pits
tallies_are m regions ordered long tallies counted =
    let pits : List Rank = regions.pits in
    same_lists tallies (map (region_tally m (roots_of regions)) pits) (counted.whole ∙ sym (length-map pits (region_tally m (roots_of regions)))) (λ i d below.
    let inside : i < length pits = subst (λ n. i < n) counted.whole below in
    let points : numbered_below regions.numbers i (cell_count m.size) ≡ rooted_below (roots_of regions) (get_or pits i no_rank).index (cell_count m.size) =
    below-numbered pits ordered regions.numbers i (cell_count m.size) no_rank inside (omega (arith, long)) in
    counted.each i d inside ∙ ap (tally_of m) points ∙ sym (get_or-map (region_tally m (roots_of regions)) pits i no_rank d inside))
