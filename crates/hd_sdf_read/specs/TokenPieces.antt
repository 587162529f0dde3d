-- Tokens that come in pieces.
use Rattle.std.specs.Prelude.{◌≡◌, ◌<◌, ◌++◌, ℕ, false, true, List, length, slice_index}
use Rattle.std.specs.List.{list_any}
use Rattle.hd_num.specs.Lines.{without_start}
use Rattle.hd_sdf_read.specs.declared.joining.Joined.{Joined}
use Rattle.hd_sdf_read.specs.declared.joining.Joined.TheVariants as joins
use Rattle.hd_sdf_read.specs.Tokens.{is_gap}

-- a token ends before this text: a gap begins it, or nothing follows
abbrev pub Ends : List ℕ → Type 0
Ends rest = 0 < length rest → is_gap (slice_index rest 0) ≡ true

-- a text begins with these bytes without gaps, and a gap follows them
pub record IsCut (text token rest : List ℕ) : Type 0 where
  pub text_is : text ≡ token ++ rest
  pub gapless : list_any is_gap token ≡ false
  pub some : 0 < length rest
  pub gap : is_gap (slice_index rest 0) ≡ true

-- a part of a token and a piece are, but for gaps before them, a token and the text from the gap on that ends it
pub record IsWord (before text word rest : List ℕ) : Type 0 where
  pub same : (more : List ℕ) → without_start is_gap (before ++ (text ++ more)) ≡ without_start is_gap (word ++ (rest ++ more))
  pub some : 0 < length word
  pub gapless : list_any is_gap word ≡ false
  pub left : 0 < length rest
  pub gap : is_gap (slice_index rest 0) ≡ true

-- what has come of a token with a piece, but for gaps before it
abbrev pub JoinGiven : List ℕ → List ℕ → Joined → Type 0
JoinGiven before text (joins.Part token) = (more : List ℕ) → without_start is_gap (before ++ (text ++ more)) ≡ without_start is_gap (token.text ++ more)
JoinGiven before text (joins.Whole word rest) = IsWord before text word.text rest.now
