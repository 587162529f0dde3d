use Rattle.std.proofs.Common.{rules, ◌≡◌, ◌+◌, ◌++◌, ◌∷◌, [], ◌∙◌, sym, ap, subst, drop, map, Err}
use Rattle.std.specs.Prelude.{All, IfOk, length}
use Rattle.std.proofs.lemmas.List.{length_push}
use Rattle.std.proofs.lemmas.List.Elements.{All-push}
use Rattle.hd_morph.specs.Element.{IsEntry}
use Rattle.hd_num.specs.Span.{text_at}
use Rattle.hd_script.specs.Words.{entry_words}
use Rattle.hd_script.proofs.EntryWords.{entry_words-next, entry_words-with_others, Onward}
use Rattle.hd_script.proofs.element.entry_words.Goals as goal

pub returns-in_err-entry_word-clause-value : goal.returns-in_err-entry_word-clause-value
returns-in_err-entry_word-clause-value c =
    let words = map (text_at c.args.line.now) c.args.words.now in
    let others = entry_words (c.entries.index + 1 + 5) (drop (c.entries.index + 1) words) in
    let step = entry_words-next c.args.line.now c.args.words.now c.entries.index c.entries.table _ c.text.result.now c.entry_word.result c.entries.invariant.read
    c.entries-test.true c.text.ensures c.entry_word.ensures.value in
    let refused : entry_words 5 words ≡ Err c.in_err-entry_word.field-0.0 = subst (λ r. Onward c.entries.table (entry_words 5 words) r others) c.in_err-entry_word.was step in
    search rules

pub entries-preserved : goal.entries-preserved
entries-preserved c =
    let words = map (text_at c.args.line.now) c.args.words.now in
    let others = entry_words (c.entries.index + 1 + 5) (drop (c.entries.index + 1) words) in
    let step = entry_words-next c.args.line.now c.args.words.now c.entries.index c.entries.table _ c.text.result.now c.entry_word.result c.entries.invariant.read
    c.entries-test.true c.text.ensures c.entry_word.ensures.value in
    let onward : entry_words 5 words ≡ entry_words-with_others (c.entries.table ++ c.in_ok-entry_word.field-0 ∷ []) others = subst
    (λ r. Onward c.entries.table (entry_words 5 words) r others) c.in_ok-entry_word.was step in
    let is = c.in_ok-push.ensures.ok in
    let entry : IsEntry c.in_ok-entry_word.field-0 = subst (λ r. IfOk r IsEntry) c.in_ok-entry_word.was c.entry_word.ensures.entry in record {
      read = onward ∙ ap (λ t. entry_words-with_others t others) (sym is);
      count = ap length is ∙ length_push c.entries.table c.in_ok-entry_word.field-0 ∙ ap (λ n. n + 1) c.entries.invariant.count;
      entries = subst (All IsEntry) (sym is) (All-push IsEntry c.entries.table c.in_ok-entry_word.field-0 c.entries.invariant.entries entry);
    }
