-- How many words a line has.
use Rattle.std.proofs.Common.{◌≡◌, ◌≤◌, ◌+◌, ℕ, List, length, map, arith, sym, ◌∙◌, ap}
use Rattle.std.specs.Prelude.{count_by}
use Rattle.std.specs.List.{slice_split}
use Rattle.std.proofs.lemmas.List.{length-map}
use Rattle.std.proofs.lemmas.List.Splits.{length-slice_split}
use Rattle.std.proofs.lemmas.List.Sums.{length-filter, count_by-le-length}
use Rattle.hd_num.specs.declared.span.Span.{Span}
use Rattle.hd_num.specs.Span.{text_at}
use Rattle.hd_num.specs.Lines.{words_of, is_blank, is_filled}

-- a line has at most one word more than bytes
pub words_of-few : (line : List ℕ) (words : List Span) → map (text_at line) words ≡ words_of line → length words ≤ length line + 1
words_of-few line words are =
    let pieces = slice_split is_blank line in
    let count : length words ≡ count_by is_filled pieces = sym (length-map words (text_at line)) ∙ ap length are ∙ length-filter is_filled pieces in
    omega (arith, count, count_by-le-length is_filled pieces, length-slice_split is_blank line, count_by-le-length is_blank line)
