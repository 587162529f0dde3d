use Rattle.std.proofs.Common.{[], ◌∷◌}
use Rattle.std.proofs.lemmas.List.{take_rest}
use Rattle.bstr.specs.Bytes.{is_in}
use Rattle.hd_num.specs.Lines.{is_blank}
use Rattle.hd_num.proofs.LinePieces.{is_blank-is_in, IsPieceEnd-found, IsPieceEnd-none}
use Rattle.hd_num.proofs.words.word_end.Goals as goal

pub returns-in-Some : goal.returns-in-Some
returns-in-Some c =
    IsPieceEnd-found (is_in (32 ∷ 9 ∷ 13 ∷ [])) is_blank is_blank-is_in c.args.line.now _ c.args.from c.in-Some.count
    (take_rest c.args.line.now c.args.from) c.requires c.in-Some.ensures.0 c.in-Some.ensures.1

pub returns-in-None : goal.returns-in-None
returns-in-None c = IsPieceEnd-none (is_in (32 ∷ 9 ∷ 13 ∷ [])) is_blank is_blank-is_in c.args.line.now _ c.args.from (take_rest c.args.line.now c.args.from) c.requires c.in-None.ensures
