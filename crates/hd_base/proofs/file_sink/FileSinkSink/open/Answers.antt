use Rattle.std.proofs.Common.{◌∙◌, ap}
use Rattle.hd_base.specs.Adapters.{last_told}
use Rattle.hd_base.proofs.LastTold.{last_told-none}
use Rattle.hd_base.proofs.file_sink.FileSinkSink.open.Goals as goal

pub returns-clause-empty : goal.returns-clause-empty
returns-clause-empty g c = λ bytes told.
    last_told-none g.R.File.Write.contents c.self.inside.file c.in-Ok.opened.0 c.self.inside.taken bytes c.self.invariant
    (ap (λ s. last_told s.taken s.got) c.self.view_is ∙ told)
