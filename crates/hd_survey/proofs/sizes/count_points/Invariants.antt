use Rattle.std.proofs.Common.{◌≡◌, ◌<◌, ℕ, length, get_or, take}
use Rattle.hd_survey.specs.Regions.{points_numbered}
use Rattle.hd_survey.proofs.sizes.count_points.Given as goal

-- the counts of the points so far
abbrev pub invariant-indexes : goal.invariant-indexes
invariant-indexes l = record {
  whole : length l.points.items ≡ length l.fn.regions.pits;
  counted : (k : ℕ) → k < length l.fn.regions.pits → get_or l.points.items k 0 ≡ points_numbered (take l.index l.fn.regions.numbers) k;
}
