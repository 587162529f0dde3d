-- Descents that are found profile by profile.
use Rattle.std.specs.Prelude.{◌≡◌, ◌≤◌, ◌*◌, ℕ, List, [], length, take}
use Rattle.hd_map.specs.declared.types.SideName.{SideName}
use Rattle.hd_map.specs.Encoding.{Encoding}
use Rattle.hd_map.specs.Map.{Map}
use Rattle.hd_steep.specs.declared.descending.Descending.{Descending}
use Rattle.hd_steep.specs.declared.descent.Descent.{Descent}
use Rattle.hd_steep.specs.Descended.{Descends}
use Rattle.hd_steep.specs.KeyRows.{AreRowsBefore, AreRowsRound}
use Rattle.hd_steep.specs.LowerPlaces.{HasColumns}

-- the descents that were found last
abbrev pub descents_of : {L : Type 0} → Descending L → List Descent
descents_of d = take d.count d.descents.items

-- there is room for what is told of this many columns
pub record HasRoomOf {L : Type 0} (width : ℕ) (d : Descending L) : Type 0 where
  pub lower : HasColumns width d.lower
  pub several : length d.several.items ≡ width
  pub columns : length d.columns.items ≡ width
  pub descents : length d.descents.items ≡ 8 * width

module _ {L : Type 0} (code : Encoding L) (side : SideName) (m : Map) (y : ℕ) where
  -- it comes before a profile
  pub record IsBefore (d : Descending L) : Type 0 where
    pub room : HasRoomOf m.size.points d
    pub rows : AreRowsBefore code side m y d.rows

  -- it has the rows of a profile, and the descents from its points
  pub record HasDescended (d : Descending L) : Type 0 where
    pub room : HasRoomOf m.size.points d
    pub rows : AreRowsRound code side m y d.rows
    pub descends : Descends m side (λ u. u.y ≡ y) [] (descents_of d)
    pub few : d.count ≤ 8 * m.size.points
