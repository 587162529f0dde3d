-- The heights of the present points, as they are gathered point by point.
use Rattle.std.proofs.Common.{◌≡◌, ◌+◌, ◌++◌, ◌∙◌, ℤ, [], Option, ap, sym}
use Rattle.std.specs.List.{cons_option}
use Rattle.hd_map.specs.declared.types.Pos.{Pos}
use Rattle.hd_map.specs.Map.{InGrid, Map, height_at, place_of}
use Rattle.hd_map.specs.Presence.{heights_below}
use Rattle.hd_map.proofs.Points.{position_at-of}
use Rattle.hd_map.proofs.Presences.{heights_more}

-- the heights with that of one more point, as it was read
pub heights_below-read : (m : Map) (at : Pos) (height : Option ℤ) → InGrid m.size at → height ≡ height_at m at
    → heights_below m (place_of m.size at + 1) ≡ heights_below m (place_of m.size at) ++ cons_option height []
heights_below-read m at height inside here =
    heights_more m (place_of m.size at) ∙ ap (λ h. heights_below m (place_of m.size at) ++ cons_option h []) (ap (height_at m) (position_at-of m.size at inside) ∙ sym here)
