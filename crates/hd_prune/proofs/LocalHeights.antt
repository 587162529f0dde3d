-- The local height of a pit at a saddle is the difference of their heights.
use Rattle.std.proofs.Common.{◌≡◌, ◌<◌, ◌^◌, arith}
use Rattle.std.specs.Prelude.{ℤ, pos, negsuc, ◌≤ℤ◌}
use Rattle.std.specs.Int.{int_gap}
use Rattle.std.proofs.lemmas.Int.{ints}
use Rattle.hd_map.specs.declared.types.Rank.{Rank}
use Rattle.hd_map.specs.declared.types.SideName.{SideName}
use Rattle.hd_map.specs.declared.types.SideName.TheVariants.{Dales, Hills}
use Rattle.hd_map.specs.Map.{Map, IsMap}
use Rattle.hd_map.specs.NearestSaddle.{local_height}
use Rattle.hd_map.specs.Saddle.{IsSaddle}
use Rattle.hd_map.proofs.Depth.{InLimits, point_limits}
use Rattle.hd_map.proofs.Saddles.{saddle-point, top-head}
use Rattle.hd_prune.specs.Heights.{local_height_on, local_on}
use Rattle.hd_prune.proofs.Heights.{local_height_on-local_height}

int_gap_small : (a b : ℤ) → negsuc 9007199254740991 ≤ℤ a → a ≤ℤ pos 9007199254740992 → negsuc 9007199254740991 ≤ℤ b → b ≤ℤ pos 9007199254740992 → int_gap a b < 2 ^ 63
int_gap_small (pos a) (pos b) p q r s = omega (arith, ints)
int_gap_small (pos a) (negsuc b) p q r s = omega (arith, ints)
int_gap_small (negsuc a) (pos b) p q r s = omega (arith, ints)
int_gap_small (negsuc a) (negsuc b) p q r s = omega (arith, ints)

local_height_on_small : (side : SideName) (p s : Rank) → InLimits p → InLimits s → local_height_on side p s < 2 ^ 63
local_height_on_small Dales p s a b = int_gap_small p.height s.height a.low a.high b.low b.high
local_height_on_small Hills p s a b = int_gap_small s.height p.height b.low b.high a.low a.high

-- the local height is the difference of the heights, taken positive
pub local_is : (m : Map) (side : SideName) (p q s : Rank) → IsMap m → IsSaddle m side p q s → local_on side p s ≡ local_height p s
local_is m side p q s whole h =
    let low = point_limits m p whole h.reached.1.point in
    let high = point_limits m s whole (saddle-point m side p q s h) in
    let small = local_height_on_small side p s low high in
    let is : local_height_on side p s ≡ local_height p s = local_height_on-local_height side p s (top-head m side p h.reached.0 s h.reached.2) in
    omega arith
