-- The lines of a pruning certificate, each about a point, and what they say of it.
use Rattle.std.specs.Prelude.{◌≡◌, ◌<◌, ℕ, List, [], ◌∷◌, slice_index_or, Some, None, Contains}
use Rattle.hd_map.specs.declared.types.Pos.{Pos}
use Rattle.hd_map.specs.declared.types.Rank.{Rank}
use Rattle.hd_map.specs.Map.{Map, Present, cell_count, position_at}
use Rattle.hd_map.specs.Rank.{rank}
use Rattle.hd_audit.specs.declared.types.Audit.{Audit}
use Rattle.hd_audit.specs.declared.types.AuditLine.{AuditLine}

-- the line at a place of the list
abbrev pub line_at : List AuditLine → ℕ → AuditLine
line_at lines k = slice_index_or lines k (record { index = 0; parent = None; cut = None })

-- the position of its point
abbrev pub point_at : Map → List AuditLine → ℕ → Pos
point_at m lines k = position_at m.size (line_at lines k).index

-- the rank of the point of an index
abbrev pub rank_at : Map → ℕ → Rank
rank_at m i = rank m (position_at m.size i)

-- the index is that of a present point
pub record IsPointAt (m : Map) (i : ℕ) : Type 0 where
  pub inside : i < cell_count m.size
  pub present : Present m (position_at m.size i)

module _ (lines : List AuditLine) where
  -- x is a line of the point of this index
  pub record IsLineOf (i : ℕ) (x : AuditLine) : Type 0 where
    pub listed : Contains lines x
    pub index : x.index ≡ i

  -- some line has this index
  abbrev pub IsListed : ℕ → Type 0
  IsListed i = (x : AuditLine) × IsLineOf i x

  -- some line has this index and no parent: the certificate says that its point is a kept pit
  abbrev pub SaysKept : ℕ → Type 0
  SaysKept i = (x : AuditLine) × IsLineOf i x × (x.parent ≡ None)

  -- some line has this index and this cut
  abbrev pub HasCut : ℕ → ℕ → Type 0
  HasCut i c = (x : AuditLine) × IsLineOf i x × (x.cut ≡ Some c)

  -- from the point of an index the chain of parents is this list, and the last has no parent
  abbrev pub AreParents : ℕ → List ℕ → Type 0
  AreParents i [] = SaysKept i
  AreParents i (p ∷ ps) = (x : AuditLine) × IsLineOf i x × (x.parent ≡ Some p) × AreParents p ps

-- p is the point of a line without a parent
abbrev pub IsShownKept : Map → Audit → Rank → Type 0
IsShownKept m audit p = (x : AuditLine) × Contains audit.lines x × (x.parent ≡ None) × (p ≡ rank_at m x.index)
