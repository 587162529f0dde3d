use Rattle.std.proofs.Common.{ℕ, length, subst, arith}
use Rattle.hd_map.specs.Encoding.{values_of}
use Rattle.hd_morph.specs.Window.{AreLookedBack}
use Rattle.hd_morph.proofs.Windows.{AreLookedBack-none, AreLookedBack-join}
use Rattle.hd_morph.proofs.window.look_back_by_runs.Goals as goal

pub run-init : goal.run-init
run-init g c = record {
  after = omega arith;
  below = omega arith;
  seen = AreLookedBack-none (values_of g.L.Lane.code c.args.tops.now) c.args.step (length c.args.tops.now)
      (length c.args.tops.now) (omega arith);
}

pub run-preserved : goal.run-preserved
run-preserved g c =
    let code = g.L.Lane.code in
    record {
      after = omega arith;
      below = omega arith;
      seen = AreLookedBack-join (values_of code c.args.tops.now) (values_of code c.run.tops) (values_of code c.look_run_back.new.tops) c.args.step _ c.run.to
          (length c.args.tops.now) (omega arith) (omega arith) (omega arith)
          (omega arith) c.requires.some c.run.invariant.seen c.look_run_back.ensures;
    }

pub returns : goal.returns
returns g c =
    let code = g.L.Lane.code in
    subst (λ (i : ℕ). AreLookedBack (values_of code c.args.tops.now) c.args.step i (length c.args.tops.now) (values_of code c.run.tops)) (omega arith) c.run.invariant.seen
