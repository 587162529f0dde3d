use Rattle.std.proofs.Common.{◌≡◌, ◌++◌, drop}
use Rattle.std.specs.List.{flat_map}
use Rattle.hd_report.specs.Elements.{element_line}
use Rattle.hd_report.proofs.elements.push_elements.Given as goal

-- the lines so far, and then those of the elements that are left
abbrev pub invariant-lines : goal.invariant-lines
invariant-lines l = l.text ++ flat_map element_line (drop l.line-index l.lines) ≡ l.fn.text ++ flat_map element_line l.lines
