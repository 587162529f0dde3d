use Rattle.std.proofs.Common.{◌+◌, List, sym, subst, arith}
use Rattle.std.specs.Prelude.{pos}
use Rattle.hd_steep.specs.declared.border.Border.{Border}
use Rattle.hd_lines.specs.declared.saddles.NumberedBorder.{NumberedBorder}
use Rattle.hd_lines.specs.NumberedBorders.{AreNumberedBorders}
use Rattle.hd_lines.proofs.NumberedBorders.{AreNumberedBorders-more, AreNumberedBorders-none}
use Rattle.hd_lines.proofs.saddles.numbered_borders.Goals as goal

abbrev none : Border
none = record { a = 0; b = 0; pairs = 0; pass = record { height = pos 0; index = 0 } }

pub borders-init : goal.borders-init
borders-init c = subst (λ (xs : List NumberedBorder). AreNumberedBorders c.args.borders.now 0 xs) (sym c.in_ok-numbered.ensures.items) (AreNumberedBorders-none c.args.borders.now)

pub borders-preserved : goal.borders-preserved
borders-preserved c = subst (λ (xs : List NumberedBorder). AreNumberedBorders c.args.borders.now (c.borders.number + 1) xs) (sym c.in_ok-push.ensures.items)
    (AreNumberedBorders-more c.args.borders.now c.borders.number none c.borders.numbered.items c.borders-test.true c.borders.invariant)

pub returns : goal.returns
returns c = record { each = c.borders.invariant.each; all = λ k l less at. c.borders.invariant.all k l (let past = c.borders-test.false in omega arith) at }
