-- The passes between regions, and the borders from which they are told, whose places are the indexes of the pits.
use Rattle.std.specs.Prelude.{◌≡◌, ◌⊎◌, ◌<◌, ℕ, min, max, if◌then◌else◌, Option, unwrap_or}
use Rattle.hd_map.specs.declared.types.Pass.{Pass}
use Rattle.hd_map.specs.declared.types.Rank.{Rank}
use Rattle.hd_map.specs.declared.types.SideName.{SideName}
use Rattle.hd_map.specs.Map.{Map, position_at}
use Rattle.hd_map.specs.Rank.{rank, below_by}
use Rattle.hd_steep.specs.declared.border.Border.{Border}
use Rattle.hd_steep.specs.Links.{HasPointAt}

-- this pass comes before that one: by the lesser index of its two regions, and then by the greater
abbrev pub ComesFirst : Pass → Pass → Type 0
ComesFirst p q =
    (min p.a.index p.b.index < min q.a.index q.b.index)
    ⊎ ((min p.a.index p.b.index ≡ min q.a.index q.b.index) × (max p.a.index p.b.index < max q.a.index q.b.index))

-- the pass between two pits, the lower one first
abbrev pub pass_between : SideName → Rank → Rank → Rank → Pass
pass_between side p q at = if below_by side p q then (record { a = p; b = q; at = at }) else (record { a = q; b = p; at = at })

-- the label of a point, and 0 where no point is present
abbrev pub place_of_label : Option ℕ → ℕ
place_of_label label = unwrap_or label 0

-- the point with an index
abbrev pub point_of : Map → ℕ → Rank
point_of m k = rank m (position_at m.size k)

-- the places of a border are the indexes of points
abbrev pub HasPoints : Map → Border → Type 0
HasPoints m l = HasPointAt m l.a × HasPointAt m l.b

-- the pass of such a border
abbrev pub pass_of_border : Map → SideName → Border → Pass
pass_of_border m side l = pass_between side (point_of m l.a) (point_of m l.b) l.pass
