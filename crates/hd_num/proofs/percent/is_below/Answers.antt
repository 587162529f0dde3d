use Rattle.std.proofs.Common.{◌∙◌, arith}
use Rattle.std.specs.Prelude.{FitsSigned}
use mir.Syntax.{w64}
use Rattle.std.proofs.lemmas.Int.{ints, to_z-of_z}
use Rattle.hd_num.proofs.Percents.{is_percent_less-kept}
use Rattle.hd_num.proofs.percent.is_below.Goals as goal

pub returns : goal.returns
returns c =
    let l : FitsSigned w64 c.args.local = omega (arith, ints) in
    let s : FitsSigned w64 c.args.sz = omega (arith, ints) in
    is_percent_less-kept c.args.local c.args.sz c.args.thousandths c.from.result c.from-2.result c.from-3.result
    (c.from.ensures ∙ to_z-of_z w64 c.args.local l) c.from-2.ensures (c.from-3.ensures ∙ to_z-of_z w64 c.args.sz s)
    l s (omega arith)
