use Rattle.std.proofs.Common.{◌≡◌, map, take}
use Rattle.hd_steep.specs.Numbering.{root_of}
use Rattle.hd_steep.proofs.numbering.list_roots.Given as goal

-- the roots so far
abbrev pub invariant-loop-index : goal.invariant-loop-index
invariant-loop-index l = l.roots ≡ map (root_of l.regions.pits) (take l.index l.regions.numbers)
