-- The rules of a pruning certificate. They are numbered on from those of a saddle certificate.
use Rattle.std.specs.Prelude.{◌≡◌, ◌<◌, ◌≤◌, ◌-ℤ◌, ℕ, ℤ, true, List, [], ◌∷◌, length, map, Option, Some, None, MatchOption}
use Rattle.hd_map.specs.declared.types.Pos.{Pos}
use Rattle.hd_map.specs.declared.types.Rank.{Rank}
use Rattle.hd_map.specs.declared.types.SideName.{SideName}
use Rattle.hd_map.specs.declared.types.SideName.TheVariants.{Dales, Hills}
use Rattle.hd_map.specs.Map.{Map, Present, cell_count, place_of, position_at}
use Rattle.hd_map.specs.Neighbour.{Neighbour}
use Rattle.hd_map.specs.Order.{IsNotAbove}
use Rattle.hd_map.specs.Path.{IsTop}
use Rattle.hd_map.specs.Pruning.{SzIs}
use Rattle.hd_map.specs.Rank.{rank, below_by}
use Rattle.hd_map.specs.Region.{IsPit}
use Rattle.hd_map.specs.Sets.{under}
use Rattle.hd_num.specs.Percent.{is_percent_less}
use Rattle.hd_check.specs.declared.types.Verdict.{Verdict}
use Rattle.hd_check.specs.declared.types.Verdict.TheVariants.{Yes}
use Rattle.hd_check.specs.Judged.{AsksEach, TriedFrom}
use Rattle.hd_audit.specs.declared.types.Audit.{Audit}
use Rattle.hd_audit.specs.declared.types.AuditLine.{AuditLine}
use Rattle.hd_audit.specs.Lines.{line_at, point_at, rank_at, IsListed, SaysKept, HasCut, AreParents}

-- how far x is above c on the side, negative where it is lower
abbrev pub rise_over : SideName → Rank → Rank → ℤ
rise_over Dales c x = x.height -ℤ c.height
rise_over Hills c x = c.height -ℤ x.height

-- x is within c: this is below the part of sz that these thousandths of a percent are
abbrev pub IsWithin : SideName → ℕ → ℤ → Rank → Rank → Type 0
IsWithin side thousandths sz c x = is_percent_less (rise_over side c x) thousandths sz ≡ true

-- P holds of each line, else the first of which it does not is named by its point
abbrev pub AsksLines : Map → List AuditLine → (ℕ → Type 0) → Option Pos → Type 0
AsksLines m lines P = AsksEach P (point_at m lines) (length lines)

-- the index of the line is that of a present point, and no earlier line has it
pub record IsNewPoint (m : Map) (lines : List AuditLine) (k : ℕ) : Type 0 where
  pub inside : (line_at lines k).index < cell_count m.size
  pub present : Present m (point_at m lines k)
  pub new : (i : ℕ) → i < k → (line_at lines i).index ≡ (line_at lines k).index → ⊥

-- an earlier line than this one has the index p, and the points of both are neighbours
pub record IsEarlierNeighbour (m : Map) (lines : List AuditLine) (k p : ℕ) : Type 0 where
  pub earlier : ℕ
  pub before : earlier < k
  pub index : (line_at lines earlier).index ≡ p
  pub near : Neighbour m (point_at m lines k) (position_at m.size p)

-- the point is a pit, in its own cut
pub record IsKeptPit (m : Map) (side : SideName) (x : AuditLine) : Type 0 where
  pub pit : IsPit m side (rank_at m x.index)
  pub own : x.cut ≡ Some x.index

-- c is the index of a line without a parent, and the point of x is not below it
pub record IsCutOf (m : Map) (side : SideName) (lines : List AuditLine) (x : AuditLine) (c : ℕ) : Type 0 where
  pub kept : SaysKept lines c
  pub not_below : IsNotAbove (below_by side) (rank_at m c) (rank_at m x.index)

-- 12: each line has the index of a present point that no earlier line has
abbrev pub NewPoints : Map → List AuditLine → Option Pos → Type 0
NewPoints m lines = AsksLines m lines (IsNewPoint m lines)

-- 13: each present point has a line
abbrev pub AllListed : Map → List AuditLine → Option Pos → Type 0
AllListed m lines = AsksEach (λ i. Present m (position_at m.size i) → IsListed lines i) (position_at m.size) (cell_count m.size)

-- 14: a parent is the index of an earlier line and a neighbour
abbrev pub ParentsEarlier : Map → List AuditLine → Option Pos → Type 0
ParentsEarlier m lines = AsksLines m lines (λ k. MatchOption (line_at lines k).parent (Unit {0}) (IsEarlierNeighbour m lines k))

-- 15: where there is no parent, the point is a pit, and its cut is itself
abbrev pub KeptArePits : Map → SideName → List AuditLine → Option Pos → Type 0
KeptArePits m side lines = AsksLines m lines (λ k. (line_at lines k).parent ≡ None → IsKeptPit m side (line_at lines k))

-- 16: a cut is the index of a line without a parent whose point the point of the line is not below
abbrev pub CutsOfKept : Map → SideName → List AuditLine → Option Pos → Type 0
CutsOfKept m side lines = AsksLines m lines (λ k. MatchOption (line_at lines k).cut (Unit {0}) (IsCutOf m side lines (line_at lines k)))

module _ (m : Map) (side : SideName) (thousandths : ℕ) (sz : ℤ) (lines : List AuditLine) where
  -- q is a neighbour of the point of the line, within the cut c of the line, and has not this cut
  pub record IsLeak (k : ℕ) (q : Pos) : Type 0 where
    pub cut : ℕ
    pub cut_is : (line_at lines k).cut ≡ Some cut
    pub neighbour : Neighbour m (point_at m lines k) q
    pub within : IsWithin side thousandths sz (rank_at m cut) (rank m q)
    pub outside : HasCut lines (place_of m.size q) cut → ⊥

  -- where a line has leaks, q is the first of them in position order
  abbrev pub FirstLeak : ℕ → Option Pos → Type 0
  FirstLeak k None = (q : Pos) → IsLeak k q → ⊥
  FirstLeak k (Some q) = IsLeak k q × ((r : Pos) → IsLeak k r → place_of m.size q ≤ place_of m.size r)

  -- 17: each neighbour of a point in a cut that is within it has this cut too, else for the first line with
  -- a leak its first leak is named
  abbrev pub CutsClosed : Option Pos → Type 0
  CutsClosed None = (k : ℕ) → k < length lines → FirstLeak k None
  CutsClosed (Some q) = (k : ℕ) × (k < length lines) × ((i : ℕ) → i < k → FirstLeak i None) × FirstLeak k (Some q)

  -- the highest point on the chain of parents from the point of an index, itself included, is within it
  pub record IsChainWithin (i : ℕ) : Type 0 where
    pub chain : List ℕ
    pub are_parents : AreParents lines i chain
    pub top : Rank
    pub is_top : IsTop (below_by side) top (map (rank_at m) (i ∷ chain))
    pub within : IsWithin side thousandths sz (rank_at m i) top

  -- 18: for each pit with a parent the highest point on its chain of parents is within it
  abbrev pub ChainsWithin : Option Pos → Type 0
  ChainsWithin = AsksLines m lines (λ k. ((line_at lines k).parent ≡ None → ⊥) → IsPit m side (rank_at m (line_at lines k).index) → IsChainWithin (line_at lines k).index)

-- the rules of lines, in order
abbrev pub rules_of : Map → SideName → ℕ → ℤ → List AuditLine → List (Option Pos → Type 0)
rules_of m side thousandths sz lines = NewPoints m lines ∷ AllListed m lines ∷ ParentsEarlier m lines ∷ KeptArePits m side lines ∷ CutsOfKept m side lines
    ∷ CutsClosed m side thousandths sz lines ∷ ChainsWithin m side thousandths sz lines ∷ []

-- all rules, where sz is that of the map
abbrev pub all_rules : Map → ℤ → Audit → List (Option Pos → Type 0)
all_rules m sz a = rules_of m a.side a.percent.thousandths sz a.lines

-- yes exactly where all rules hold on the map, else the first that fails and the position where it fails
pub record IsTried (m : Map) (a : Audit) (v : Verdict) : Type 0 where
  pub sz : ℤ
  pub sz_is : SzIs m sz
  pub tried : TriedFrom 12 (all_rules m sz a) v

-- the same on the map under the setting that the certificate names
abbrev pub IsVerdict : Map → Audit → Verdict → Type 0
IsVerdict m a v = IsTried (under a.adjacency m) a v

-- all rules hold
abbrev pub IsRight : Map → Audit → Type 0
IsRight m a = IsVerdict m a Yes
