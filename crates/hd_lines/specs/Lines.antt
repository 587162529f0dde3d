-- Border lines between the regions of kept pits.
use Rattle.std.specs.Prelude.{◌≡◌, ◌<◌, ◌⊎◌, ◌↔◌, ℕ, true, List, Contains, AllPairs}
use Rattle.hd_map.specs.declared.types.Rank.{Rank}
use Rattle.hd_map.specs.declared.types.SideName.{SideName}
use Rattle.hd_map.specs.Map.{Map}
use Rattle.hd_map.specs.Region.{IsRoot}
use Rattle.hd_map.specs.Saddle.{IsSaddle}
use Rattle.hd_steep.specs.Pairs.{AreCounted, IsAcross, Pair}
use Rattle.hd_lines.specs.declared.line.BorderLine.{BorderLine}
use Rattle.hd_prune.specs.declared.step.Kept.{Kept}
use Rattle.hd_prune.specs.declared.step.Owned.{Owned}
use Rattle.hd_prune.specs.declared.step.Step.{Step}
use Rattle.hd_prune.specs.Answer.{IsPruned}

module _ (m : Map) (side : SideName) where
  -- a present point is owned by the owner of its root
  pub record IsOwnedBy (owner : Rank → Rank) (x a : Rank) : Type 0 where
    pub root : Rank
    pub is_root : IsRoot m side x root
    pub owned : owner root ≡ a

  module _ (kept : List Rank) (owner : Rank → Rank) where
    -- the border line of two kept pits, the one of lesser index first
    pub record IsBorderLine (line : BorderLine) : Type 0 where
      pub first : Contains kept line.a
      pub second : Contains kept line.b
      pub lesser : line.a.index < line.b.index
      pub pairs : AreCounted side (IsAcross m (IsOwnedBy owner) line.a line.b) line.pairs line.pass
      pub on_saddle : (line.on_saddle ≡ true) ↔ IsSaddle m side line.a line.b line.pass

    -- one border line for each two kept pits with a pair across, by the index of the first and then of the second
    pub record AreBorderLines (lines : List BorderLine) : Type 0 where
      pub each : (line : BorderLine) → Contains lines line → IsBorderLine line
      pub all : (a b : Rank) (p : Pair) → Contains kept a → Contains kept b → a.index < b.index → IsAcross m (IsOwnedBy owner) a b p
          → (line : BorderLine) × Contains lines line × (line.a ≡ a) × (line.b ≡ b)
      pub in_order : AllPairs (λ x y. (x.a.index < y.a.index) ⊎ ((x.a.index ≡ y.a.index) × (x.b.index < y.b.index))) lines

-- the border lines of the pruning of the map that has these steps, kept pits and owners
abbrev pub AreLinesOf : Map → SideName → List Step → List Kept → List Owned → List BorderLine → Type 0
AreLinesOf m side steps kept owners lines = (thousandths : ℕ) (pruned : IsPruned m side thousandths steps kept owners)
    → AreBorderLines m side pruned.last pruned.owner lines
