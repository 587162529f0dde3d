-- The pruning certificate that is shown of a map.
use Rattle.std.specs.Prelude.{◌≡◌, ◌<◌, ◌≤◌, ℕ, ℤ, List, length, All, Contains, slice_index_or, Option, Some, None}
use Rattle.hd_map.specs.declared.types.Pos.{Pos}
use Rattle.hd_map.specs.declared.types.Rank.{Rank}
use Rattle.hd_map.specs.declared.types.SideName.{SideName}
use Rattle.hd_map.specs.Map.{Map, place_of}
use Rattle.hd_map.specs.Neighbour.{Neighbour}
use Rattle.hd_map.specs.Order.{IsNotAbove}
use Rattle.hd_map.specs.Path.{Leads}
use Rattle.hd_map.specs.Pruning.{Leaving, IsPruning}
use Rattle.hd_map.specs.Rank.{Near, rank, below_by}
use Rattle.hd_num.specs.declared.percent.Percent.{Percent}
use Rattle.hd_audit.specs.declared.types.Audit.{Audit}
use Rattle.hd_audit.specs.declared.types.AuditLine.{AuditLine}
use Rattle.hd_audit.specs.Lines.{line_at, point_at, rank_at}
use Rattle.hd_audit.specs.Rules.{IsWithin}

-- x is c, or a path leads from c to x whose points after c are all within c
pub record IsReachedWithin (m : Map) (side : SideName) (thousandths : ℕ) (sz : ℤ) (c x : Rank) : Type 0 where
  pub points : List Rank
  pub leads : Leads (Near m) c points x
  pub within : All (IsWithin side thousandths sz c) points

module _ (m : Map) (side : SideName) (thousandths : ℕ) (sz : ℤ) (kept : List Rank) where
  -- c is the index of the kept pit from which x is so reached, none where there is no such kept pit
  abbrev pub CutIs : Rank → Option ℕ → Type 0
  CutIs x (Some c) = (r : Rank) × Contains kept r × (r.index ≡ c) × IsReachedWithin m side thousandths sz r x
  CutIs x None = (r : Rank) → Contains kept r → IsReachedWithin m side thousandths sz r x → ⊥

  module _ (lines : List AuditLine) where
    -- the line at place k is that of the kept pit at place k
    pub record IsKeptLine (k : ℕ) : Type 0 where
      pub index : (d : Rank) → (line_at lines k).index ≡ (slice_index_or kept k d).index
      pub parent : (line_at lines k).parent ≡ None

    -- none of the first n lines is that of q
    abbrev pub IsUnlisted : ℕ → Pos → Type 0
    IsUnlisted n q = (i : ℕ) → i < n → (line_at lines i).index ≡ place_of m.size q → ⊥

    -- q is an unlisted present point with a listed neighbour, where the first n lines are listed
    pub record IsNextTo (n : ℕ) (q : Pos) : Type 0 where
      pub unlisted : IsUnlisted n q
      pub listed : ℕ
      pub before : listed < n
      pub neighbour : Neighbour m q (point_at m lines listed)

    -- the line at place k is that of the lowest such point, and its parent is its neighbour that was listed first
    pub record IsReachedLine (k : ℕ) : Type 0 where
      pub point : Pos
      pub index : (line_at lines k).index ≡ place_of m.size point
      pub next_to : IsNextTo k point
      pub lowest : (q : Pos) → IsNextTo k q → IsNotAbove (below_by side) (rank m point) (rank m q)
      pub parent : (line_at lines k).parent ≡ Some (line_at lines next_to.listed).index
      pub first : (i : ℕ) → i < next_to.listed → Neighbour m point (point_at m lines i) → ⊥

    -- the kept pits come first, then each time the lowest unlisted point with a listed neighbour, until there
    -- is none; each point has its cut
    pub record AreShownLines : Type 0 where
      pub enough : length kept ≤ length lines
      pub pits : (k : ℕ) → k < length kept → IsKeptLine k
      pub others : (k : ℕ) → length kept ≤ k → k < length lines → IsReachedLine k
      pub all : (q : Pos) → IsNextTo (length lines) q → ⊥
      pub cuts : (k : ℕ) → k < length lines → CutIs (rank_at m (line_at lines k).index) (line_at lines k).cut

-- what is shown of the pruning of the map on the side at this percent, under the setting of the map
pub record IsShown (m : Map) (side : SideName) (percent : Percent) (a : Audit) : Type 0 where
  pub side_is : a.side ≡ side
  pub percent_is : a.percent ≡ percent
  pub adjacency_is : a.adjacency ≡ m.adjacency
  pub steps : List Leaving
  pub last : List Rank
  pub owner : Rank → Rank
  pub pruning : IsPruning m side percent.thousandths steps last owner
  pub lines : AreShownLines m side percent.thousandths pruning.sz last a.lines
