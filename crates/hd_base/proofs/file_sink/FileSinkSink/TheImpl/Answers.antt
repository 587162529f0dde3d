use Rattle.std.proofs.Common.{◌&&◌, ap, not}
use Rattle.std.proofs.KnownBytes.{Keeps-refl}
use Rattle.std.proofs.lemmas.Result.{IfOk-weaker, on_ok_weaker, on_err_weaker}
use Rattle.hd_base.proofs.LastTold.{last_told-kept, last_told-written}
use Rattle.hd_base.proofs.file_sink.FileSinkSink.TheImpl.Goals as goal

pub open-tells : goal.open-tells
open-tells g c = record {
  opened = on_ok_weaker c.result (λ e. ap (λ s. s.has_file) e) c.ensures.ok;
  empty = c.ensures.empty;
  refused = on_err_weaker c.result (λ e. rw e (Keeps-refl _)) c.ensures.err;
  cause = c.ensures.cause;
}

pub write-tells : goal.write-tells
write-tells g c = record {
  «open» = c.ensures.open;
  bound = c.ensures.bound;
  some = c.ensures.some;
  bytes = last_told-written c.args.self.now.got c.new.self.now.got c.args.self.now.taken c.new.self.now.taken c.result c.args.piece.now c.ensures.bound c.ensures.taken c.ensures.bytes;
  unflushed = λ bytes told. IfOk-weaker c.result _ _ (λ n unflushed some. ap (λ b. b && not c.new.self.now.is_pending && not c.new.self.now.is_lost) (unflushed some)) c.ensures.unflushed;
  cause = c.ensures.cause;
}

pub flush-tells : goal.flush-tells
flush-tells g c = record {
  «open» = c.ensures.open;
  flushed = c.ensures.placed;
  written = last_told-kept c.args.self.now.got c.new.self.now.got c.args.self.now.taken c.new.self.now.taken c.ensures.taken c.ensures.bytes;
  cause = c.ensures.cause;
}
