use Rattle.std.proofs.Common.{◌+◌, List, sym, subst, arith, false}
use Rattle.std.specs.Prelude.{pos, None}
use Rattle.hd_prune.specs.declared.step.Kept.{Kept}
use Rattle.hd_steep.specs.declared.border.Border.{Border}
use Rattle.hd_lines.specs.declared.line.BorderLine.{BorderLine}
use Rattle.hd_lines.specs.Listed.{AreListed}
use Rattle.hd_lines.proofs.Listed.{AreListed-more, AreListed-none}
use Rattle.hd_lines.proofs.lines.list_lines.Goals as goal

abbrev border : Border
border = record { a = 0; b = 0; pairs = 0; pass = record { height = pos 0; index = 0 } }

abbrev none : Kept
none = record { pit = record { height = pos 0; index = 0 }; nearest = None }

pub borders-init : goal.borders-init
borders-init c = subst (λ (xs : List BorderLine). AreListed c.args.kept.now c.args.borders.now c.args.firsts.now 0 xs) (sym c.in_ok-lines.ensures)
    (AreListed-none c.args.kept.now c.args.borders.now c.args.firsts.now)

pub borders-preserved : goal.borders-preserved
borders-preserved c = subst (λ (xs : List BorderLine). AreListed c.args.kept.now c.args.borders.now c.args.firsts.now (c.borders.number + 1) xs) (sym c.in_ok-push.ensures.ok)
    (AreListed-more c.args.kept.now c.args.borders.now c.args.firsts.now c.borders.number border none false c.borders.lines c.borders.invariant)

pub returns : goal.returns
returns c = record {
  whole = (let whole = c.borders.invariant.whole in let past = c.borders-test.false in let most = c.borders.auto.number-end in omega arith);
  each = λ k l a b first less at at_a at_b is. c.borders.invariant.each k l a b first (let past = c.borders-test.false in omega arith) at at_a at_b is;
}
