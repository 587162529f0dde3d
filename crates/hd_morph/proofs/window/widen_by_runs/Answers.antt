use Rattle.std.proofs.Common.{ℕ, subst, arith}
use Rattle.hd_map.specs.Encoding.{values_of}
use Rattle.hd_morph.specs.Window.{AreWidened}
use Rattle.hd_morph.proofs.Windows.{AreWidened-none, AreWidened-join}
use Rattle.hd_morph.proofs.window.widen_by_runs.Goals as goal

pub run-init : goal.run-init
run-init g c = record { below = omega arith; widened = AreWidened-none (values_of g.L.Lane.code c.args.tops.now) c.args.step 0 0 (omega arith) }

pub run-preserved : goal.run-preserved
run-preserved g c =
    let code = g.L.Lane.code in
    record {
      below = omega arith;
      widened = AreWidened-join (values_of code c.args.tops.now) (values_of code c.run.tops) (values_of code c.widen_run.new.tops) c.args.step 0 c.run.from _ (omega arith)
          (omega arith) c.run.invariant.widened c.widen_run.ensures;
    }

pub returns : goal.returns
returns g c =
    let code = g.L.Lane.code in
    subst (λ (i : ℕ). AreWidened (values_of code c.args.tops.now) c.args.step 0 i (values_of code c.run.tops)) (omega arith) c.run.invariant.widened
