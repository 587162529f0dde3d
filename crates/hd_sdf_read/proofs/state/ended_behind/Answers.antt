use Rattle.std.proofs.Common.{[], Result, sym, subst}
use Rattle.hd_sdf_read.specs.declared.error.SdfError.{SdfError}
use Rattle.hd_sdf_read.specs.File.{File}
use Rattle.hd_sdf_read.specs.FileOf.{file_of}
use Rattle.hd_sdf_read.specs.Reads.{Gives}
use Rattle.hd_sdf_read.proofs.state.ended_behind.Goals as goal

pub returns : goal.returns
returns c = subst (λ (r : Result File SdfError). Gives file_of c.ended_file.result r) (sym (c.in-Ok.ensures [])) c.ended_file.ensures
