use Rattle.std.proofs.Common.{◌++◌, sym}
use Rattle.hd_sdf_read.proofs.HeaderPieces.{kind_of-long, header_in-unread, is_line_feed-none_joined}
use Rattle.hd_sdf_read.proofs.header.Header.take_joined.Goals as goal

pub returns-in-None-clause-line : goal.returns-in-None-clause-line
returns-in-None-clause-line c = λ refused rest.
    let h = c.args.self.now in
    let line = c.args.line.text ++ c.args.end.now in
    header_in-unread h.version h.number h.entries line rest (is_line_feed-none_joined c.args.line.text c.args.end.now c.args.line.open c.requires.one)
    (sym (kind_of-long line (rw c.in-None.is at c.in_ok-line.ensures)))
