use Rattle.std.proofs.Common.{◌<◌, length, arith, subst, sym}
use Rattle.hd_script.proofs.WordCounts.{words_of-few}
use Rattle.hd_script.proofs.line.read_line.Goals as goal

pub read_words-requires-clause-few : goal.read_words-requires-clause-few
read_words-requires-clause-few c =
    let few = words_of-few c.args.line.now c.in_ok-words.words c.in_ok-words.ensures.words in
    subst (λ xs. length xs < 65536) (sym c.as_slice.ensures) (omega (arith, few, c.if-line-gt-LONGEST_LINE.false))
