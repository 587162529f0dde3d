use Rattle.std.proofs.Common.{◌≡◌, ◌++◌, take}
use Rattle.std.specs.List.{flat_map}
use Rattle.hd_audit.specs.Text.{point_line}
use Rattle.hd_audit.proofs.writing.push_lines.Given as goal

abbrev pub invariant-loop-k : goal.invariant-loop-k
invariant-loop-k l = l.out ≡ l.fn.out ++ flat_map point_line (take l.k l.points)
