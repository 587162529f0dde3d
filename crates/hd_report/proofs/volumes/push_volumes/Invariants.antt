use Rattle.std.proofs.Common.{◌≡◌, ◌++◌, drop}
use Rattle.std.specs.List.{zip}
use Rattle.hd_report.specs.Volumes.{volume_lines}
use Rattle.hd_report.proofs.volumes.push_volumes.Given as goal

-- the lines so far, and then those of the kept pits that are left
abbrev pub invariant-lines : goal.invariant-lines
invariant-lines l = l.text ++ volume_lines l.fn.size (zip (drop l.number l.kept) (drop l.number l.volumes)) ≡ l.fn.text ++ volume_lines l.fn.size (zip l.kept l.volumes)
