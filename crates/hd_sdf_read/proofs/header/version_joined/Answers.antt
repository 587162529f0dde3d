use Rattle.std.proofs.Common.{◌++◌, sym}
use Rattle.hd_sdf_read.proofs.HeaderPieces.{version_of_line-long}
use Rattle.hd_sdf_read.proofs.header.version_joined.Goals as goal

pub returns-in-None : goal.returns-in-None
returns-in-None c = sym (version_of_line-long (c.args.line.text ++ c.args.end.now) (rw c.in-None.is at c.in_ok-line.ensures))
