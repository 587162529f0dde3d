-- The first of the regions, told by the key of the last of them.
use Rattle.std.specs.Prelude.{◌≡◌, ◌&&◌, ◌||◌, Bool, true, not, nat_lt, int_lt, List, Option, Some, None}
use Rattle.std.specs.Ordering.{int_eq}
use Rattle.hd_feature.specs.declared.notation.Kind.{Kind}
use Rattle.hd_feature.specs.declared.notation.Significance.{Significance}
use Rattle.hd_feature.specs.declared.notation.Significance.TheVariants as significance
use Rattle.hd_feature.specs.declared.region.Region.{Region}
use Rattle.hd_feature.specs.declared.significance.RegionKey.{RegionKey}
use Rattle.hd_feature.specs.Value.{is_open, is_significant}

abbrev pub key_of : Region → RegionKey
key_of r = record { lpvh = r.lpvh; index = r.pit.index }

-- the key is ahead: the local height is greater, or the same and the index less
abbrev pub is_ahead : RegionKey → RegionKey → Bool
is_ahead a b = int_lt b.lpvh a.lpvh || (int_eq a.lpvh b.lpvh && nat_lt a.index b.index)

-- the cut is not ahead of the key
abbrev pub is_within : RegionKey → Option RegionKey → Bool
is_within key None = true
is_within key (Some last) = not (is_ahead last key)

-- whether a region is significant, by the cut
abbrev pub significant_by : Kind → Significance → Option RegionKey → Region → Bool
significant_by kind significance.All cut r = true
significant_by kind (significance.Top n) cut r = nat_lt 0 n && is_within (key_of r) cut
significant_by kind (significance.Bot n) cut r = nat_lt 0 n && is_within (key_of r) cut
significant_by kind (significance.Closed c) cut r = not (is_open kind c r)
significant_by kind (significance.Open c) cut r = is_open kind c r

-- by the cut a region is significant exactly where it is among all regions
abbrev pub IsCut : Significance → List Region → Option RegionKey → Type 0
IsCut kept regions cut = (kind : Kind) (r : Region) → is_significant kind kept regions r ≡ significant_by kind kept cut r
