-- By index, how the points stand to the flood and to its level.
use Rattle.std.specs.Prelude.{◌≡◌, ◌<◌, ◌≤◌, ◌⊎◌, ℕ, Bool, true, false, List, length, map, replicate, slice_index_or, Option}
use Rattle.hd_map.specs.declared.types.Pos.{Pos}
use Rattle.hd_map.specs.declared.types.Rank.{Rank}
use Rattle.hd_map.specs.declared.types.SideName.{SideName}
use Rattle.hd_map.specs.Map.{InGrid, Map, Present, cell_count, place_of}
use Rattle.hd_map.specs.Rank.{below_by, rank}
use Rattle.hd_audit.specs.declared.standing.Standing.{Standing}
use Rattle.hd_audit.specs.declared.standing.Standing.TheVariants.{Absent, Over, Under, Seen}
use Rattle.hd_audit.specs.Flooding.{is_under}

-- whether it is listed or waits
abbrev pub is_seen : Standing → Bool
is_seen Absent = false
is_seen Over = false
is_seen Under = false
is_seen Seen = true

-- by index, whether the point is listed or waits
abbrev pub seen_of : List Standing → List Bool
seen_of standings = map is_seen standings

-- how the point of an index stands
abbrev pub standing_at : List Standing → ℕ → Standing
standing_at standings i = slice_index_or standings i Absent

-- how it stands once the level has gone past it
abbrev pub passed : Standing → Standing
passed Absent = Absent
passed Over = Under
passed Under = Under
passed Seen = Seen

-- so the point at a position stands to the level, unless it is seen
abbrev pub Stands : Map → SideName → Option Rank → Pos → Standing → Type 0
Stands m side level q Absent = Present m q → ⊥
Stands m side level q Over = Present m q × (is_under (below_by side) level (rank m q) ≡ false)
Stands m side level q Under = Present m q × (is_under (below_by side) level (rank m q) ≡ true)
Stands m side level q Seen = Unit {0}

-- so all points of the map stand to the level
pub record AreStanding (m : Map) (side : SideName) (level : Option Rank) (standings : List Standing) : Type 0 where
  pub whole : length standings ≡ cell_count m.size
  pub each : (q : Pos) → InGrid m.size q → Stands m side level q (standing_at standings (place_of m.size q))

-- so the points with an index below n stand before any is seen and without a level; the rest is not yet asked for
pub record AreStandingTo (m : Map) (n : ℕ) (standings : List Standing) : Type 0 where
  pub whole : length standings ≡ cell_count m.size
  pub blank : seen_of standings ≡ replicate (cell_count m.size) false
  pub each : (q : Pos) → InGrid m.size q → place_of m.size q < n → ((standing_at standings (place_of m.size q) ≡ Over) × Present m q) ⊎ ((standing_at standings (place_of m.size q) ≡ Absent) × (Present m q → ⊥))
  pub rest : (i : ℕ) → n ≤ i → standing_at standings i ≡ Absent
