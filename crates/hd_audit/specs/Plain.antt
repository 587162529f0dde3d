-- The first line of a text, where it is that of a point and has no more blanks than needed.
use Rattle.std.specs.Prelude.{◌≡◌, ◌<◌, ◌++◌, ℕ, List, ◌∷◌, length, map, Option, Some}
use Rattle.hd_num.specs.Lines.{lines_of, words_of}
use Rattle.hd_audit.specs.declared.types.AuditLine.{AuditLine}
use Rattle.hd_audit.specs.Reading.{point_form}

-- the text begins with a word that is read as x, and the rest follows
pub record BeginsWith {A : Type 0} (read : List ℕ → Option A) (text : List ℕ) (x : A) (rest : List ℕ) : Type 0 where
  pub word : List ℕ
  pub whole : text ≡ word ++ rest
  pub reads : read word ≡ Some x

-- the first line of the text is that of a point, and the rest follows
pub record BeginsWithLine (text : List ℕ) (line : AuditLine) (rest : List ℕ) : Type 0 where
  pub words : List (List ℕ)
  pub lines : map words_of (lines_of text) ≡ words ∷ map words_of (lines_of rest)
  pub form : point_form words ≡ Some line
  pub front : List ℕ
  pub whole : text ≡ front ++ rest
  pub some : 0 < length front
