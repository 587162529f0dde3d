use Rattle.std.proofs.Common.{◌≡◌, ◌==◌, ◌∷◌, ◌+◌, ◌∙◌, ◌<◌, sym, ap, subst, take, drop, length, arith}
use Rattle.std.specs.List.{position_or_len}
use Rattle.std.proofs.lemmas.List.{take_rest}
use Rattle.std.proofs.lemmas.List.Splits.{slice_split_first}
use Rattle.std.proofs.lemmas.List.Sums.{position_or_len_is}
use Rattle.hd_num.proofs.LinePieces.{split_none}
use Rattle.hd_feature.specs.Parts.{is_separator, parts_of}
use Rattle.hd_feature.proofs.parts.split_part.Goals as goal

pub returns-then-byte-eq59 : goal.returns-then-byte-eq59
returns-then-byte-eq59 c =
    let text = c.args.text.now in
    let place : position_or_len is_separator text ≡ c.bytes.place = position_or_len_is is_separator text c.bytes.place 0 (omega arith) c.bytes.invariant (λ _. ap (λ b. b == 59) c.if-byte-eq59.true) in
    slice_split_first is_separator text 0 (subst (λ n. n < length text) (sym place) (omega arith))
    ∙ ap (λ n. take n text ∷ parts_of (drop (n + 1) text)) place
    ∙ ap (λ t. take c.bytes.place text ∷ parts_of t) (sym (take_rest text (c.bytes.place + 1)))

pub returns : goal.returns
returns c = split_none is_separator c.args.text.now (λ k lt. c.bytes.invariant k (omega arith))
