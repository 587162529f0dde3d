use Rattle.std.proofs.KnownBytes.{Keeps-refl}
use Rattle.std.proofs.lemmas.Result.{on_ok_weaker, on_err_weaker}
use Rattle.hd_base.proofs.file_source.FileSourceSource.TheImpl.Goals as goal

pub open-tells : goal.open-tells
open-tells g c = record {
  opened = on_ok_weaker c.result (λ w. rw w.1 cc) c.ensures.file;
  file = on_ok_weaker c.result (λ w bytes told. cc) c.ensures.file;
  refused = on_err_weaker c.result (λ e. rw e (Keeps-refl _)) c.ensures.err;
  cause = c.ensures.cause;
}
