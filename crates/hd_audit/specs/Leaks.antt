-- Points among some that a cut leaks to.
use Rattle.std.specs.Prelude.{◌≡◌, ◌<◌, ◌≤◌, ℕ, ℤ, List, length, Option, Some, None}
use Rattle.hd_map.specs.declared.types.Pos.{Pos}
use Rattle.hd_map.specs.declared.types.SideName.{SideName}
use Rattle.hd_map.specs.Map.{Map, place_of}
use Rattle.hd_map.specs.Neighbour.{Neighbour}
use Rattle.hd_map.specs.Rank.{rank}
use Rattle.hd_check.specs.Rules.{point_of}
use Rattle.hd_audit.specs.declared.types.AuditLine.{AuditLine}
use Rattle.hd_audit.specs.Lines.{HasCut, rank_at}
use Rattle.hd_audit.specs.Rules.{IsWithin}

module _ (m : Map) (side : SideName) (thousandths : ℕ) (sz : ℤ) (lines : List AuditLine) (cut : ℕ) where
  -- q is within the point of the cut and has not this cut
  pub record LeaksTo (q : Pos) : Type 0 where
    pub within : IsWithin side thousandths sz (rank_at m cut) (rank m q)
    pub outside : HasCut lines (place_of m.size q) cut → ⊥

  -- the first of the positions that the cut leaks to
  abbrev pub FirstLeaking : List Pos → Option Pos → Type 0
  FirstLeaking round None = (j : ℕ) → j < length round → LeaksTo (point_of round j) → ⊥
  FirstLeaking round (Some q) = (j : ℕ) × (j < length round) × ((i : ℕ) → i < j → LeaksTo (point_of round i) → ⊥) × LeaksTo q × (q ≡ point_of round j)

  -- the first neighbour of a position, in position order, that the cut leaks to
  abbrev pub FirstLeakRound : Pos → Option Pos → Type 0
  FirstLeakRound at None = (q : Pos) → Neighbour m at q → LeaksTo q → ⊥
  FirstLeakRound at (Some q) = Neighbour m at q × LeaksTo q × ((r : Pos) → Neighbour m at r → LeaksTo r → place_of m.size q ≤ place_of m.size r)
