use Rattle.std.proofs.Common.{refl}
use Rattle.std.proofs.lemmas.List.{take_rest}
use Rattle.bstr.specs.Find.{is_byte}
use Rattle.hd_num.specs.Lines.{is_line_feed}
use Rattle.hd_num.proofs.LinePieces.{IsPieceEnd-found, IsPieceEnd-none}
use Rattle.hd_num.proofs.lines.line_end.Goals as goal

pub returns-in-Some : goal.returns-in-Some
returns-in-Some c = IsPieceEnd-found (is_byte 10) is_line_feed (λ x. refl) c.args.bytes.now _ c.args.from c.in-Some.count
    (take_rest c.args.bytes.now c.args.from) c.requires c.in-Some.ensures.0 c.in-Some.ensures.1

pub returns-in-None : goal.returns-in-None
returns-in-None c = IsPieceEnd-none (is_byte 10) is_line_feed (λ x. refl) c.args.bytes.now _ c.args.from (take_rest c.args.bytes.now c.args.from) c.requires c.in-None.ensures
