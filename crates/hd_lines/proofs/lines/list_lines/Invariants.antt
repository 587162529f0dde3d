use Rattle.hd_lines.specs.Listed.{AreListed}
use Rattle.hd_lines.proofs.lines.list_lines.Given as goal

abbrev pub invariant-borders : goal.invariant-borders
invariant-borders l = AreListed l.kept l.borders l.firsts l.number l.lines
