use Rattle.std.proofs.Common.{◌<◌, length, arith}
use Rattle.hd_num.proofs.LinePieces.{IsLineAt-from_piece}
use Rattle.hd_num.proofs.lines.next_line.Goals as goal

pub returns-clause-line : goal.returns-clause-line
returns-clause-line c =
    let before : c.args.from < length c.args.bytes.now = omega (arith, c.if-from-bytes.false) in
    IsLineAt-from_piece c.args.bytes.now c.args.from c.line_end-end.result c.min-next.result before c.min-next.ensures c.line_end-end.ensures
