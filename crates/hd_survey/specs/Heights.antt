-- Heights of kept pits.
use Rattle.std.specs.Option.{ForSome}
use Rattle.hd_prune.specs.declared.step.Kept.{Kept}
pub use Rattle.hd_prune.specs.Span.{IsHeight, IsHeightRange, farthest_apart}

-- the heights of a kept pit and of its nearest saddle are heights
pub record HasHeights (k : Kept) : Type 0 where
  pub pit : IsHeight k.pit.height
  pub nearest : ForSome k.nearest (λ s. IsHeight s.height)
