use Rattle.std.proofs.Common.{◌≡◌, ◌++◌, length}
use Rattle.hd_sdf_write.specs.Canonical.{canonical}
use Rattle.hd_sdf_write.specs.Texts.{file_with}
use Rattle.hd_sdf_write.proofs.write.whole_text.Given as goal

abbrev pub invariant-pieces : goal.invariant-pieces
invariant-pieces g l = l.out ++ l.pieces.left ≡ canonical (file_with l.texts (g.G.Heights.map l.grid))

abbrev pub decreases-pieces : goal.decreases-pieces
decreases-pieces g l = length l.pieces.left
