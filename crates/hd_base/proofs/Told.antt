-- Some first bytes of a text that are written.
use Rattle.std.proofs.Common.{◌∙◌, ◌++◌, ℕ, List, length, drop, Option, sym, ap, subst, arith, append_assoc, length-append}
use Rattle.std.specs.Io.{StartsWith}
use Rattle.std.specs.Io.KnownBytes.{Appends, Keeps}
use Rattle.std.proofs.KnownBytes.{Appends-kept, Appends-trans, starts_with_rest}
use Rattle.std.proofs.Math.Seq.{take-append_seam}
use Rattle.hd_base.specs.Told.{AppendsPart, AppendsStart}

-- a text begins with its first part
pub StartsWith-front : (part rest : List ℕ) → StartsWith (part ++ rest) part
StartsWith-front part rest = take-append_seam part rest

start_after : (front text part : List ℕ) → StartsWith text part → StartsWith (front ++ text) (front ++ part)
start_after front text part begins =
    subst (λ (whole : List ℕ). StartsWith whole (front ++ part)) (append_assoc front part (drop (length part) text) ∙ ap (λ xs. front ++ xs) (sym (starts_with_rest text part begins)))
    (StartsWith-front (front ++ part) (drop (length part) text))

module _ (old mid new : Option (List ℕ)) (front text : List ℕ) (written : Appends old mid front) where
  -- and then not all of it
  pub AppendsPart-after : AppendsPart mid new text → AppendsPart old new (front ++ text)
  AppendsPart-after (got, begins, short, more) =
      (front ++ got, start_after front text got begins, omega (arith, short, length-append front got, length-append front text), Appends-trans old mid new front got written more)

module _ (old mid new : Option (List ℕ)) (text : List ℕ) where
  -- not all of a text is written, and then nothing
  pub AppendsPart-kept : AppendsPart old mid text → Keeps mid new → AppendsPart old new text
  AppendsPart-kept (got, begins, short, written) kept = (got, begins, short, Appends-kept old mid new got written kept)

-- not all of a text is some first bytes of it
pub AppendsPart-start : (old new : Option (List ℕ)) (text : List ℕ) → AppendsPart old new text → AppendsStart old new text
AppendsPart-start old new text (got, begins, short, written) = (got, begins, written)
