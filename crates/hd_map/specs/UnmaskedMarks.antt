-- Marks without their masks.
use Rattle.std.specs.Prelude.{◌≡◌, false, List, length, map, replicate}
use Rattle.hd_map.specs.declared.mark.Mark.{Mark}
use Rattle.hd_map.specs.Packing.{masks, measures}

-- they measure the same points, and none is masked
pub record AreUnmasked (before after : List Mark) : Type 0 where
  pub measured : map measures after ≡ map measures before
  pub no_masks : map masks after ≡ replicate (length before) false
