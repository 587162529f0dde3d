use Rattle.std.proofs.Common.{ℤ, rules, SFits, w64}
use mir.Val.{to_z, of_z}
use Rattle.std.proofs.lemmas.Int.{to_z-of_z}
use Rattle.std.proofs.lemmas.Result.{IfOk-weaker}
use Rattle.hd_map.specs.Pruning.{SzIs}
use Rattle.hd_check.specs.declared.types.Verdict.{Verdict}
use Rattle.hd_check.specs.Judged.{TriedFrom}
use Rattle.hd_audit.specs.Rules.{IsTried, rules_of}
use Rattle.hd_audit.proofs.checking.check_under.Goals as goal

pub returns : goal.returns
returns g c =
    let m = g.G.Heights.map c.args.surface.now in
    let a = c.args.audit.now in
    let sz : ℤ = to_z w64 (of_z w64 c.height_span.result) in
    let fits : SFits w64 c.height_span.result = search rules in
    let is : SzIs m c.height_span.result = c.height_span.ensures m (g.met.G.Heights.whole c.args.surface.now) c.presence_of.ensures.range in
    let sz_is : SzIs m sz = rw (to_z-of_z w64 c.height_span.result fits) is in
    IfOk-weaker c.try_rules.result (λ (v : Verdict). TriedFrom 12 (rules_of m a.side a.percent.thousandths sz a.lines) v) (λ (v : Verdict). IsTried m a v)
    (λ v tried. record { sz = sz; sz_is = sz_is; tried = tried }) c.try_rules.ensures
