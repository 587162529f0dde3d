-- A state that is led on by a piece.
use Rattle.std.proofs.Common.{◌≡◌, ℕ, ◌<◌, true, false, arith, List, [], ◌∷◌, ◌++◌, length, eqb, Result, Ok, Err, refl, sym, ap, ◌∙◌, append_assoc}
use borrow.Author.Tests.{eqb-true}
use Rattle.hd_sdf_read.specs.declared.error.SdfError.{SdfError}
use Rattle.hd_sdf_read.specs.declared.header.Header.{Header}
use Rattle.hd_sdf_read.specs.declared.state.State.{State}
use Rattle.hd_sdf_read.specs.FirstLine.{IsFirstLine}
use Rattle.hd_sdf_read.specs.Grammar.{body_in}
use Rattle.hd_sdf_read.specs.States.{Feeds, FeedsBehind, continued}

-- a part of a line, and a piece that ends it
pub IsFirstLine-piece : (front text line after more : List ℕ) → IsFirstLine text line after → front ++ (text ++ more) ≡ (front ++ line) ++ 10 ∷ (after ++ more)
IsFirstLine-piece front text line after more is =
    ap (λ xs. front ++ (xs ++ more)) is.text_is ∙ ap (λ xs. front ++ xs) (append_assoc line (10 ∷ after) more) ∙ sym (append_assoc front line (10 ∷ (after ++ more)))

-- a piece does what another does from another state
pub Feeds-from : (old other : State) (piece rest : List ℕ) (result : Result State SdfError) → ((more : List ℕ) → continued old (piece ++ more) ≡ continued other (rest ++ more))
    → Feeds other rest result → Feeds old piece result
Feeds-from old other piece rest (Ok new) same fed = λ more. same more ∙ fed more
Feeds-from old other piece rest (Err e) same fed = λ refused more. same more ∙ fed refused more

-- the same, where the other stands behind the end of a header
pub Feeds-behind : (old : State) (header : Header) (piece rest : List ℕ) (result : Result State SdfError)
    → ((more : List ℕ) → continued old (piece ++ more) ≡ body_in header.version header.entries (rest ++ more))
    → FeedsBehind header rest result → Feeds old piece result
Feeds-behind old header piece rest (Ok new) same fed = λ more. same more ∙ fed more
Feeds-behind old header piece rest (Err e) same fed = λ refused more. same more ∙ fed refused more

-- what follows a header is fed
pub FeedsBehind-from : (header : Header) (other : State) (piece : List ℕ) (result : Result State SdfError) → ((more : List ℕ) → body_in header.version header.entries more ≡ continued other more)
    → Feeds other piece result → FeedsBehind header piece result
FeedsBehind-from header other piece (Ok new) same fed = λ more. same (piece ++ more) ∙ fed more
FeedsBehind-from header other piece (Err e) same fed = λ refused more. same (piece ++ more) ∙ fed refused more

-- a text of no bytes
pub length-none : (text : List ℕ) → eqb (length text) 0 ≡ true → text ≡ []
length-none [] none = refl
length-none (x ∷ xs) none = absurd (omega (arith, eqb-true (length (x ∷ xs)) 0 none))

pub length-some : (text : List ℕ) → eqb (length text) 0 ≡ false → 0 < length text
length-some [] some = cc
length-some (x ∷ xs) some = omega arith
