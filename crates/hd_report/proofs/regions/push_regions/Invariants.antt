use Rattle.std.proofs.Common.{◌≡◌, ◌++◌, drop}
use Rattle.std.specs.List.{flat_map}
use Rattle.hd_report.specs.Regions.{region_line}
use Rattle.hd_report.proofs.regions.push_regions.Given as goal

-- the lines so far, and then those of the regions that are left
abbrev pub invariant-lines : goal.invariant-lines
invariant-lines l = let line = region_line l.fn.side l.fn.size in l.text ++ flat_map line (drop l.region-index l.regions) ≡ l.fn.text ++ flat_map line l.regions
