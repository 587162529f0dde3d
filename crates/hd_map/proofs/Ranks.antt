-- The rank at a position, where a point is present.
use Rattle.std.proofs.Common.{◌≡◌, ap}
use Rattle.hd_map.specs.declared.types.Pos.{Pos}
use Rattle.hd_map.specs.declared.types.Rank.{Rank}
use Rattle.hd_map.specs.Map.{InGrid, Map, Present, cell_at, mask_at, place_of}
use Rattle.hd_map.specs.Rank.{rank}
use Rattle.hd_map.specs.Ranks.{rank_or, rank_shown}
use Rattle.hd_map.proofs.Points.{none_shown, shown_of}

-- the rank of a present point
pub rank_or-present : (none : Rank) (m : Map) (p : Pos) → Present m p → rank_or none m p ≡ rank m p
rank_or-present none m p here = ap (rank_shown none (place_of m.size p)) (shown_of (cell_at m p) (mask_at m p) here.measured here.shown)

-- and where none is present
pub rank_or-absent : (none : Rank) (m : Map) (p : Pos) → InGrid m.size p → (Present m p → ⊥) → rank_or none m p ≡ none
rank_or-absent none m p inside absent = ap (rank_shown none (place_of m.size p)) (none_shown (cell_at m p) (mask_at m p)
    (λ measured shown. absent (record { in_grid = inside; measured = measured; shown = shown })))
