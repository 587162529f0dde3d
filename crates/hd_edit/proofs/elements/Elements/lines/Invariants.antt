use Rattle.std.proofs.Common.{◌≡◌, map, take}
use Rattle.hd_edit.specs.Elements.{line_of}
use Rattle.hd_edit.proofs.elements.Elements.lines.Given as goal

abbrev pub invariant-loop-index : goal.invariant-loop-index
invariant-loop-index l = l.lines ≡ map line_of (take l.index l.self)
