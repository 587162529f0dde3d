use Rattle.std.proofs.Common.{◌≡◌, ◌++◌, drop}
use Rattle.std.specs.List.{flat_map}
use Rattle.hd_report.specs.Trees.{part_text}
use Rattle.hd_report.proofs.trees.push_parts.Given as goal

-- the pits so far, and then those that are left
abbrev pub invariant-parts : goal.invariant-parts
invariant-parts l = l.text ++ flat_map (part_text l.fn.size) (drop l.part-index l.parts) ≡ l.fn.text ++ flat_map (part_text l.fn.size) l.parts
