-- The first lines of a shown certificate.
use Rattle.std.specs.Prelude.{◌<◌, ◌≤◌, ℕ, ℤ, List, length}
use Rattle.hd_map.specs.declared.types.Rank.{Rank}
use Rattle.hd_map.specs.declared.types.SideName.{SideName}
use Rattle.hd_map.specs.Map.{Map}
use Rattle.hd_audit.specs.declared.types.AuditLine.{AuditLine}
use Rattle.hd_audit.specs.Lines.{line_at, rank_at}
use Rattle.hd_audit.specs.Shown.{CutIs, IsKeptLine, IsReachedLine}

-- the first n lines, among them those of all kept pits, are as they are shown
pub record AreShownTo (m : Map) (side : SideName) (thousandths : ℕ) (sz : ℤ) (kept : List Rank) (lines : List AuditLine) (n : ℕ) : Type 0 where
  pub enough : length kept ≤ n
  pub pits : (k : ℕ) → k < length kept → IsKeptLine m side thousandths sz kept lines k
  pub others : (k : ℕ) → length kept ≤ k → k < n → IsReachedLine m side thousandths sz kept lines k
  pub cuts : (k : ℕ) → k < n → CutIs m side thousandths sz kept (rank_at m (line_at lines k).index) (line_at lines k).cut
