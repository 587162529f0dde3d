-- The eight places round one, clockwise from the one above it, and which of them come first in their group.
use Rattle.std.specs.Prelude.{◌≡◌, ◌+◌, ◌&&◌, not, ℕ, Bool, true, false, List, [], ◌∷◌, slice_index_or}
use Rattle.hd_map.specs.declared.types.Adjacency.{Adjacency}
use Rattle.hd_map.specs.declared.types.Adjacency.TheVariants.{Four, Six, Eight}
use Rattle.hd_map.specs.declared.types.Rank.{Rank}
use Rattle.hd_map.specs.declared.types.SideName.{SideName}
use Rattle.hd_map.specs.Rank.{below_by}
use Rattle.hd_steep.specs.Lowest.{earlier_below, later_below}
use Rattle.hd_steep.specs.Rows.{rank_in}

-- the ranks round the place x + 1 of the row level
abbrev pub ring_of : List Rank → List Rank → List Rank → ℕ → List Rank
ring_of above level below x =
    rank_in above (x + 1) ∷ rank_in above (x + 2) ∷ rank_in level (x + 2) ∷ rank_in below (x + 2)
    ∷ rank_in below (x + 1) ∷ rank_in below x ∷ rank_in level x ∷ rank_in above x ∷ []

-- whether each rank is below the own one
abbrev pub are_lower : SideName → Rank → List Rank → List Bool
are_lower side own ring =
    below_by side (rank_in ring 0) own ∷ below_by side (rank_in ring 1) own ∷ below_by side (rank_in ring 2) own ∷ below_by side (rank_in ring 3) own
    ∷ below_by side (rank_in ring 4) own ∷ below_by side (rank_in ring 5) own ∷ below_by side (rank_in ring 6) own ∷ below_by side (rank_in ring 7) own ∷ []

-- the same by heights alone, where the ranks above the own one and left of it have lesser indexes, and the others greater ones
abbrev pub are_lower_heights : SideName → Rank → List Rank → List Bool
are_lower_heights side own ring =
    earlier_below side (rank_in ring 0) own ∷ earlier_below side (rank_in ring 1) own ∷ later_below side (rank_in ring 2) own ∷ later_below side (rank_in ring 3) own
    ∷ later_below side (rank_in ring 4) own ∷ later_below side (rank_in ring 5) own ∷ earlier_below side (rank_in ring 6) own ∷ earlier_below side (rank_in ring 7) own ∷ []

-- whether a place is marked
abbrev pub is_marked : List Bool → ℕ → Bool
is_marked marks k = slice_index_or marks k false

-- which places are the first of their group: of its straight places the first one clockwise from north, and
-- a corner only where neither of the places on its two sides is in the group
abbrev pub first_of : Bool → Bool → Bool → Bool → Bool → Bool → Bool → Bool → List Bool
first_of n ne e se s sw w nw =
    n ∷ (ne && (not n && not e)) ∷ (e && not n) ∷ (se && (not e && not s))
    ∷ (s && (not e && not (w && n))) ∷ (sw && (not s && not w)) ∷ (w && (not s && not n)) ∷ (nw && (not w && not n)) ∷ []

-- the first place of each group of lower places beside one another
abbrev pub firsts_of : List Bool → List Bool
firsts_of lower =
    first_of (is_marked lower 0) (is_marked lower 1) (is_marked lower 2) (is_marked lower 3) (is_marked lower 4) (is_marked lower 5) (is_marked lower 6) (is_marked lower 7)

-- the places of a ring of marks that a setting takes
abbrev pub taken_of : Adjacency → List Bool → List Bool
taken_of Four lower = is_marked lower 0 ∷ false ∷ is_marked lower 2 ∷ false ∷ is_marked lower 4 ∷ false ∷ is_marked lower 6 ∷ false ∷ []
taken_of Six lower = is_marked lower 0 ∷ false ∷ is_marked lower 2 ∷ is_marked lower 3 ∷ is_marked lower 4 ∷ false ∷ is_marked lower 6 ∷ is_marked lower 7 ∷ []
taken_of Eight lower = lower

-- under 8 the first place of each group, under 4 and 6 each place that is taken
abbrev pub marks_of : Adjacency → List Bool → List Bool
marks_of Four lower = taken_of Four lower
marks_of Six lower = taken_of Six lower
marks_of Eight lower = firsts_of lower

-- no two places are marked
abbrev pub IsOneAtMost : List Bool → Type 0
IsOneAtMost marks = (i j : ℕ) → is_marked marks i ≡ true → is_marked marks j ≡ true → i ≡ j
