use Rattle.std.proofs.Common.{◌≡◌, ◌++◌, drop}
use Rattle.std.specs.List.{flat_map}
use Rattle.hd_report.specs.Borders.{border_line}
use Rattle.hd_report.proofs.borders.push_borders.Given as goal

-- the lines so far, and then those of the borders that are left
abbrev pub invariant-lines : goal.invariant-lines
invariant-lines l = let line = border_line l.fn.side l.fn.size in l.text ++ flat_map line (drop l.border-index l.borders) ≡ l.fn.text ++ flat_map line l.borders
