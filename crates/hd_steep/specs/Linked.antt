-- The links of a profile, from the rows round it.
use Rattle.std.specs.Prelude.{◌≡◌, ◌<◌, ◌+◌, ℕ, true, List, length, slice_index, is_some, None}
use Rattle.hd_map.specs.declared.types.Adjacency.{Adjacency}
use Rattle.hd_map.specs.declared.types.Adjacency.TheVariants.{Four, Six, Eight}
use Rattle.hd_map.specs.declared.types.Rank.{Rank}
use Rattle.hd_map.specs.declared.types.SideName.{SideName}
use Rattle.hd_map.specs.Encoding.{Encoding, number_in}
use Rattle.hd_steep.specs.declared.low.Low.{Low}
use Rattle.hd_steep.specs.declared.rolling.Rows.{Rows}
use Rattle.hd_steep.specs.KeyRows.{ranks_of}
use Rattle.hd_steep.specs.Keys.{IsKey, rank_of}
use Rattle.hd_steep.specs.Links.{no_link}
use Rattle.hd_steep.specs.Lowest.{lower_of}
use Rattle.hd_steep.specs.Rows.{rank_in}

-- the lower of two places side by side
abbrev pub lower_of_two : SideName → List Rank → ℕ → Rank
lower_of_two side row x = lower_of side (rank_in row x) (rank_in row (x + 1))

-- the lowest of three
abbrev pub lowest_of_three : SideName → List Rank → ℕ → Rank
lowest_of_three side row x = lower_of side (lower_of_two side row x) (rank_in row (x + 2))

-- of the row above a place, the lowest of those that are beside it under a setting
abbrev pub lowest_above : Adjacency → SideName → List Rank → ℕ → Rank
lowest_above Four side row x = rank_in row (x + 1)
lowest_above Six side row x = lower_of_two side row x
lowest_above Eight side row x = lowest_of_three side row x

-- and of the row below it
abbrev pub lowest_below : Adjacency → SideName → List Rank → ℕ → Rank
lowest_below Four side row x = rank_in row (x + 1)
lowest_below Six side row x = lower_of_two side row (x + 1)
lowest_below Eight side row x = lowest_of_three side row x

-- the lowest of three rows at a place and those beside it
abbrev pub lowest_at : Adjacency → SideName → List Rank → List Rank → List Rank → ℕ → Rank
lowest_at adjacency side above level below x = lower_of side (lower_of side (lowest_above adjacency side above x) (lowest_of_three side level x)) (lowest_below adjacency side below x)

module _ {L : Type 0} (code : Encoding L) where
  -- the keys of a row, of which the first place is empty, and room for their indexes
  pub record AreIndexed (first : ℕ) (keys : List L) : Type 0 where
    pub each : (k : ℕ) → IsKey code (number_in code keys k)
    pub left : number_in code keys 0 ≡ code.missing
    pub room : first + length keys < 4294967296

  -- three rows for this many links
  pub record AreRowsFor (count : ℕ) (rows : Rows L) : Type 0 where
    pub above : AreIndexed rows.above.first rows.above.keys.items
    pub level : AreIndexed rows.level.first rows.level.keys.items
    pub below : AreIndexed rows.below.first rows.below.keys.items
    pub above_wide : length rows.above.keys.items ≡ count + 2
    pub level_wide : length rows.level.keys.items ≡ count + 2
    pub below_wide : length rows.below.keys.items ≡ count + 2

  module _ (side : SideName) where
    -- the key stands for this rank, and its index is that of the rank where a point is present
    pub record IsLowOf (rank : Rank) (low : Low L) : Type 0 where
      pub key : IsKey code low.key
      pub is : rank_of code side low.index low.key ≡ rank

    -- where the own key stands for a height, the link is the index of the lowest
    pub record IsLinkTo (own : L) (lowest : Rank) (link : ℕ) : Type 0 where
      pub some : is_some (code.shown own) ≡ true → (key : L) × (rank_of code side link key ≡ lowest)
      pub none : code.shown own ≡ None → link ≡ no_link

    -- the link at each place of the middle row
    abbrev pub AreLinked : Adjacency → Rows L → List ℕ → Type 0
    AreLinked adjacency rows links = (k : ℕ) → k < length links →
        IsLinkTo (number_in code rows.level.keys.items (k + 1)) (lowest_at adjacency side (ranks_of code side rows.above) (ranks_of code side rows.level) (ranks_of code side rows.below) k) (slice_index links k)
