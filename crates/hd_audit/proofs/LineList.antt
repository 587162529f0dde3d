-- The lines that are kept as numbers and what is named, one after another.
use Rattle.std.proofs.Common.{◌≡◌, ◌<◌, ◌+◌, ◌++◌, ℕ, List, [], ◌∷◌, length, get_or, ap, ◌∙◌, sym, refl, arith}
use Rattle.std.specs.Simd.Lanes.{zip2}
use Rattle.std.proofs.lemmas.List.{length_push}
use Rattle.std.proofs.lemmas.Simd.{get_or-zip2, length-zip2}
use Rattle.hd_audit.specs.declared.line_list.Named.{Named}
use Rattle.hd_audit.specs.declared.line_list.LineNumbers.{LineNumbers}
use Rattle.hd_audit.specs.declared.types.AuditLine.{AuditLine}
use Rattle.hd_audit.specs.LineList.{line_kept, lines_kept}
use Rattle.hd_audit.specs.Lines.{line_at}

zip2-push : {X Y Z : Type 0} (f : X → Y → Z) (xs : List X) (ys : List Y) (x : X) (y : Y) → length xs ≡ length ys → zip2 f (xs ++ x ∷ []) (ys ++ y ∷ []) ≡ zip2 f xs ys ++ f x y ∷ []
zip2-push f [] [] x y e = refl
zip2-push f [] (b ∷ ys) x y e = absurd (omega arith)
zip2-push f (a ∷ xs) [] x y e = absurd (omega arith)
zip2-push f (a ∷ xs) (b ∷ ys) x y e = ap (λ zs. f a b ∷ zs) (zip2-push f xs ys x y (omega arith))

module _ (numbers : List LineNumbers) (named : List Named) (paired : length numbers ≡ length named) where
  -- they are as many as their numbers
  length_kept : length (lines_kept numbers named) ≡ length numbers
  length_kept = length-zip2 line_kept numbers named paired

  -- so are the lines that are seen
  pub lines_kept-length : (lines : List AuditLine) → lines_kept numbers named ≡ lines → length numbers ≡ length lines
  lines_kept-length lines is = sym length_kept ∙ ap length is

  -- the line at a place is that of what is kept there
  pub lines_kept-line_at : (k : ℕ) (n : LineNumbers) (which : Named) → k < length numbers → n ≡ get_or numbers k n → which ≡ get_or named k which
      → line_at (lines_kept numbers named) k ≡ line_kept n which
  lines_kept-line_at k n which inside n_is which_is =
      get_or-zip2 line_kept numbers named k n which _ inside (let e = paired in omega (arith, inside, e)) ∙ sym (rw (← n_is, ← which_is) refl)

  module _ (n : LineNumbers) (which : Named) where
    -- is one more line
    pub lines_kept-push : lines_kept (numbers ++ n ∷ []) (named ++ which ∷ []) ≡ lines_kept numbers named ++ line_kept n which ∷ []
    lines_kept-push = zip2-push line_kept numbers named n which paired
