-- Profiles as rows of keys, and three of them that roll over the map.
use Rattle.std.specs.Prelude.{◌≡◌, ◌<◌, ◌+◌, ◌-◌, ◌*◌, ℕ, List, length}
use Rattle.hd_map.specs.declared.types.Rank.{Rank}
use Rattle.hd_map.specs.declared.types.SideName.{SideName}
use Rattle.hd_map.specs.Encoding.{Encoding, number_in}
use Rattle.hd_map.specs.Map.{Map, height_at}
use Rattle.hd_steep.specs.declared.row.Row.{Row}
use Rattle.hd_steep.specs.declared.rolling.Rows.{Rows}
use Rattle.hd_steep.specs.Keys.{IsKey, IsKeyOf, ranks_in}
use Rattle.hd_steep.specs.Rows.{IsRowOf}

module _ {L : Type 0} (code : Encoding L) where
  -- this many keys, none of which stands for a height
  pub record IsEmpty (count : ℕ) (keys : List L) : Type 0 where
    pub whole : length keys ≡ count
    pub none : (k : ℕ) → number_in code keys k ≡ code.missing

  -- the keys of this many points, with an empty place on each side
  pub record AreFramed (points : ℕ) (keys : List L) : Type 0 where
    pub whole : length keys ≡ points + 2
    pub left : number_in code keys 0 ≡ code.missing
    pub right : number_in code keys (points + 1) ≡ code.missing

  module _ (side : SideName) where
    -- the ranks for which the keys of a row stand
    abbrev pub ranks_of : Row L → List Rank
    ranks_of row = ranks_in code side row.first row.keys.items

    module _ (m : Map) where
      -- by column the keys of a profile, between two empty places
      pub record AreKeysOf (y : ℕ) (keys : List L) : Type 0 where
        pub framed : AreFramed m.size.points keys
        pub each : (k : ℕ) → k < m.size.points → IsKeyOf code side (height_at m (record { x = k; y = y })) (number_in code keys (k + 1))

      -- the row of a profile. Profiles are counted from 1, and those before the first and after the last are empty
      pub record IsKeyRow (y : ℕ) (row : Row L) : Type 0 where
        pub framed : AreFramed m.size.points row.keys.items
        pub first : row.first ≡ (y - 1) * m.size.points
        pub keys : (k : ℕ) → IsKey code (number_in code row.keys.items k)
        pub ranks : IsRowOf m side y (ranks_of row)

      -- the rows of a profile, the one before it and the one after it
      pub record AreRowsRound (y : ℕ) (rows : Rows L) : Type 0 where
        pub above : IsKeyRow y rows.above
        pub level : IsKeyRow (y + 1) rows.level
        pub below : IsKeyRow (y + 2) rows.below

      -- the rows before those of a profile
      pub record AreRowsBefore (y : ℕ) (rows : Rows L) : Type 0 where
        pub spare : AreFramed m.size.points rows.above.keys.items
        pub level : IsKeyRow y rows.level
        pub below : IsKeyRow (y + 1) rows.below
