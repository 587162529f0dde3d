use Rattle.hd_cert.specs.Listed.{AreListed}
use Rattle.hd_cert.specs.Residues.{IsReached}
use Rattle.hd_map.proofs.PositionOrder.{IsAt}
use Rattle.hd_cert.proofs.listed_points.listed.Given as goal

abbrev pub invariant-loop-index : goal.invariant-loop-index
invariant-loop-index l = IsAt l.size l.index l.at × AreListed l.size (IsReached l.size l.residues) l.index l.found.items
