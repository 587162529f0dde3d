use Rattle.std.proofs.Common.{◌≡◌, ◌∙◌, List, ℕ, Bool, Result, Err, ap, subst, sym}
use Rattle.hd_program.specs.declared.status.Status.TheVariants.{ReadFault}
use Rattle.hd_run.specs.declared.stop.Stop.{Stop}
use Rattle.hd_run.specs.declared.stop.Stop.TheVariants as stop
use Rattle.hd_program.specs.Ending.{EndsRun, Finishes}
use Rattle.hd_run.specs.FaultCounts.{Count}
use Rattle.hd_program.specs.Texts.{read_fault_text}
use Rattle.hd_program.proofs.work.end_run.Goals as goal

pub returns-in-Err-ReadFault : goal.returns-in-Err-ReadFault
unfolding read_fault_text
returns-in-Err-ReadFault g c =
    let status = c.finish-in-Err-ReadFault.result in
    let old = g.W.Sink.written c.args.out.now in
    let new = g.W.Sink.written c.finish-in-Err-ReadFault.new.out in
    let flushed = g.W.Sink.flushed c.finish-in-Err-ReadFault.new.out in
    let faults : Count = record { before = g.W.Sink.faults c.args.out.now; now = g.W.Sink.faults c.finish-in-Err-ReadFault.new.out } in
    let stop_is : c.in-Err-ReadFault.field-0 ≡ stop.ReadFault = rw c.in-Err-ReadFault.is at c.in-Err-ReadFault.field-0-is in
    let is : c.args.ran ≡ Err stop.ReadFault = c.in-Err-ReadFault.is ∙ ap Err stop_is in
    subst (λ (ran : Result Bool Stop). EndsRun ran status old new flushed faults) (sym is)
    (subst (λ (text : List ℕ). Finishes text ReadFault status old new flushed faults) c.as_bytes.ensures.value c.finish-in-Err-ReadFault.ensures)
