-- Keys: numbers that are the greater the further below a point lies. On the side of dales a key stands for the negative
-- of a height, on that of hills for the height.
use Rattle.std.specs.Prelude.{◌≡◌, ◌-◌, ℕ, ℤ, suc, List, [], ◌∷◌, length, Option}
use Rattle.hd_map.specs.declared.types.Rank.{Rank}
use Rattle.hd_map.specs.declared.types.SideName.{SideName}
use Rattle.hd_map.specs.declared.types.SideName.TheVariants.{Dales, Hills}
use Rattle.hd_map.specs.Encoding.{Encoding, most_filtered, number_in}
use Rattle.hd_map.specs.Lanes.{IsBounded, IsPlainNumber, IsFarProfile, minus}
use Rattle.hd_map.specs.Map.{Map}
use Rattle.hd_map.specs.Ranks.{rank_shown}
use Rattle.hd_steep.specs.Lowest.{missing}

-- a height as the key of a side stands for it, and back
abbrev pub on_side : SideName → Option ℤ → Option ℤ
on_side Dales value = minus value
on_side Hills value = value

-- 2 ^ 53: no height of a map is further from zero
abbrev pub most_of_map : ℕ
most_of_map = 9007199254740992

module _ {L : Type 0} (code : Encoding L) where
  -- the key stands for a height of a map, or is `missing`
  pub record IsKey (key : L) : Type 0 where
    pub plain : IsPlainNumber code (most_filtered code) key
    pub limits : IsBounded most_of_map (code.shown key)

  -- all numbers of a row are plain
  abbrev pub ArePlain : List L → Type 0
  ArePlain numbers = (k : ℕ) → IsPlainNumber code (most_filtered code) (number_in code numbers k)

  -- a height of the map is too far from zero for these numbers
  pub record IsBeyond (m : Map) : Type 0 where
    pub profile : ℕ
    pub far : IsFarProfile code m profile

  module _ (side : SideName) where
    -- the key stands for this height
    pub record IsKeyOf (height : Option ℤ) (key : L) : Type 0 where
      pub is : code.shown key ≡ on_side side height
      pub stands : IsKey key

    -- the plain number that a number becomes as a key, and back
    pub record IsTurned (old new : L) : Type 0 where
      pub value : code.shown new ≡ on_side side (code.shown old)
      pub plain : IsPlainNumber code (most_filtered code) new

    -- so does each number of a row
    pub record AreTurned (old new : List L) : Type 0 where
      pub whole : length new ≡ length old
      pub each : (k : ℕ) → IsTurned (number_in code old k) (number_in code new k)

    -- the rank for which a key at an index stands
    abbrev pub rank_of : ℕ → L → Rank
    rank_of index key = rank_shown (missing side) index (on_side side (code.shown key))

    -- those for which keys stand, the first of them before an index
    abbrev pub ranks_in : ℕ → List L → List Rank
    ranks_in index [] = []
    ranks_in index (key ∷ keys) = rank_of (index - 1) key ∷ ranks_in (suc index) keys
