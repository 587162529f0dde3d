use Rattle.hd_lines.specs.NumberedBorders.{AreNumberedBorders}
use Rattle.hd_lines.proofs.saddles.numbered_borders.Given as goal

abbrev pub invariant-borders : goal.invariant-borders
invariant-borders l = AreNumberedBorders l.borders l.number l.numbered.items
