use Rattle.std.proofs.Common.{◌≡◌, ◌+◌, length, drop, map}
use Rattle.std.specs.Prelude.{All}
use Rattle.hd_morph.specs.Element.{IsEntry}
use Rattle.hd_num.specs.Span.{text_at}
use Rattle.hd_script.specs.Words.{entry_words}
use Rattle.hd_script.proofs.EntryWords.{entry_words-with_others}
use Rattle.hd_script.proofs.element.entry_words.Given as goal

abbrev pub invariant-entries : goal.invariant-entries
invariant-entries l = let words = map (text_at l.line) l.words in record {
  read : entry_words 5 words ≡ entry_words-with_others l.table (entry_words (l.index + 5) (drop l.index words));
  count : length l.table ≡ l.index;
  entries : All IsEntry l.table;
}
