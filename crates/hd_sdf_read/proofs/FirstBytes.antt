-- The first byte of a text that passes a test.
use Rattle.std.proofs.Common.{◌≡◌, ◌+◌, ◌<◌, ℕ, Bool, true, false, List, length, take, drop, get_or, ◌∷◌, ◌++◌, sym, ap, arith, ◌∙◌}
use Rattle.std.specs.List.{after_first, before_first, list_any, position_or_len}
use Rattle.std.proofs.lemmas.List.Folds.{list_any_at, list_any_none}
use Rattle.std.proofs.lemmas.List.Elements.{All-from_get_or}
use Rattle.std.proofs.lemmas.List.{drop_more, take-append-drop}
use Rattle.std.proofs.lemmas.List.Sums.{position_or_len_is}
use Rattle.hd_num.specs.Lines.{is_line_feed}
use Rattle.hd_sdf_read.specs.FirstLine.{IsFirstLine}
use Rattle.hd_sdf_read.proofs.Trims.{before_first-none}

-- it is found at its place
pub record IsFirstAt (test : ℕ → Bool) (text : List ℕ) (place : ℕ) : Type 0 where
  pub some : list_any test text ≡ true
  pub before : take place text ≡ before_first test text
  pub after : drop (place + 1) text ≡ after_first test text

pub IsFirstAt-found : (test : ℕ → Bool) (text : List ℕ) (place : ℕ) → place < length text → ((k : ℕ) → k < place → test (get_or text k 0) ≡ false) → test (get_or text place 0) ≡ true
    → IsFirstAt test text place
IsFirstAt-found test text place inside before here =
    let at : position_or_len test text ≡ place = position_or_len_is test text place 0 (omega arith) before (λ _. here) in
    record {
      some = list_any_at test text place 0 inside here;
      before = sym (ap (λ n. take n text) at);
      after = sym (ap (λ n. drop (n + 1) text) at);
    }

-- none is found
pub list_any-none : (test : ℕ → Bool) (text : List ℕ) → ((k : ℕ) → k < length text → test (get_or text k 0) ≡ false) → list_any test text ≡ false
list_any-none test text none = list_any_none test text (All-from_get_or (λ x. test x ≡ false) text 0 none)

-- the bytes before the first LF are the first line
pub IsFirstLine-found : (text : List ℕ) (place : ℕ) → place < length text → ((k : ℕ) → k < place → is_line_feed (get_or text k 0) ≡ false) → get_or text place 0 ≡ 10
    → IsFirstLine text (take place text) (drop (place + 1) text)
IsFirstLine-found text place inside before here =
    let first = IsFirstAt-found is_line_feed text place inside before (ap is_line_feed here) in
    record {
      text_is = sym (take-append-drop place text) ∙ ap (λ xs. take place text ++ xs) (drop_more text place 0 inside ∙ ap (λ x. x ∷ drop (place + 1) text) here);
      one = ap (list_any is_line_feed) first.before ∙ before_first-none is_line_feed text;
    }
