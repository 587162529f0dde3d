-- The regions of a map, where points have the numbers of their pits.
use Rattle.std.proofs.Common.{◌≡◌, ◌<◌, ℕ, List, length, get_or, slice_index, Some, None, sym, ◌∙◌, subst}
use Rattle.std.specs.Prelude.{slice_get}
use Rattle.std.proofs.lemmas.List.{get_or-map, length-map}
use Rattle.std.proofs.lemmas.List.Elements.{Contains-get_or}
use Rattle.std.proofs.lemmas.Option.{slice_get-get_or, same_Some}
use Rattle.hd_map.specs.declared.types.Rank.{Rank}
use Rattle.hd_map.specs.declared.types.SideName.{SideName}
use Rattle.hd_map.specs.Map.{Map, cell_count}
use Rattle.hd_map.specs.Pruning.{ArePits}
use Rattle.hd_map.specs.Rank.{IsPoint}
use Rattle.hd_map.specs.Region.{IsPit, IsRoot}
use Rattle.hd_map.proofs.Nexts.{root-is_pit}
use Rattle.hd_map.proofs.Points.{same_index, point_inside}
use Rattle.hd_steep.specs.Numbering.{Numbering, root_of, roots_of, IsLabelOf, AreNumbers, AreNumbered}
use Rattle.hd_steep.proofs.Labels.{labels_all, label_of_point}
use Rattle.hd_steep.proofs.PitNumbers.{root_at, root_below}

-- the root of an index is the pit of its number
pub roots_of-at : (regions : Numbering) (k : ℕ) → k < length regions.numbers → get_or (roots_of regions) k None ≡ root_of regions.pits (slice_index regions.numbers k)
roots_of-at regions k inside = get_or-map (root_of regions.pits) regions.numbers k 0 None inside

module _ (m : Map) (side : SideName) where
  -- numbers of the pits are the regions
  pub numbered_all : (regions : Numbering) → ArePits m side regions.pits → AreNumbers m side regions.pits regions.numbers → AreNumbered m side regions
  numbered_all regions pits are = record {
    pits = pits;
    roots = labels_all m side (roots_of regions) (length-map regions.numbers (root_of regions.pits) ∙ are.whole) (λ k below.
        let inside : k < length regions.numbers = rw (← length-map regions.numbers (root_of regions.pits)) below in
        subst (IsLabelOf m side k) (sym (roots_of-at regions k inside)) (are.each k inside));
  }

  module _ (regions : Numbering) (are : AreNumbered m side regions) where
    abbrev pits : List Rank
    pits = regions.pits

    abbrev number_at : ℕ → ℕ
    number_at k = slice_index regions.numbers k

    -- each index of the map has a number
    pub numbers_whole : length regions.numbers ≡ cell_count m.size
    numbers_whole = sym (length-map regions.numbers (root_of regions.pits)) ∙ are.roots.whole

    -- the pit of a number is one of the map
    pub numbered_pit : (i : ℕ) (d : Rank) → i < length pits → IsPit m side (get_or pits i d)
    numbered_pit i d inside = (are.pits.exactly (get_or pits i d)).0 (Contains-get_or pits i d inside)

    -- the number of a point is that of its root
    pub number_of_point : (x : Rank) → IsPoint m x → (number_at x.index < length pits) × ((d : Rank) → IsRoot m side x (get_or pits (number_at x.index) d))
    number_of_point x point =
        let found = label_of_point m side (roots_of regions) x are.roots point in
        let within : x.index < length regions.numbers = rw numbers_whole (point_inside m x point) in
        let is : root_of pits (number_at x.index) ≡ Some (found.0).index = sym (roots_of-at regions x.index within) ∙ found.2 in
        let inside = root_below pits (number_at x.index) (found.0).index is in (
          inside,
          λ d.
              let same : (found.0).index ≡ (get_or pits (number_at x.index) d).index = same_Some (found.0).index (get_or pits (number_at x.index) d).index
              (sym is ∙ root_at pits (number_at x.index) d inside) in
              subst (λ (r : Rank). IsRoot m side x r)
              (same_index m found.0 (get_or pits (number_at x.index) d) (root-is_pit m side x found.0 found.1).point (numbered_pit (number_at x.index) d inside).point same) found.1,
        )

    -- the pit of the number of a point is its root
    pub pit_of_point : (x : Rank) → IsPoint m x → (r : Rank) × IsRoot m side x r × (slice_get pits (number_at x.index) ≡ Some r)
    pit_of_point x point =
        let found = number_of_point x point in
        (get_or pits (number_at x.index) x, found.1 x, slice_get-get_or pits (number_at x.index) x found.0)
