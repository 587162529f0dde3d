use Rattle.std.proofs.Common.{◌≡◌, ◌<◌, ◌++◌, List, [], ◌∷◌, ℕ, length, eqb, sym, ap, subst, ◌∙◌, append-nil}
use Rattle.std.specs.Prelude.{Result}
use Rattle.hd_sdf_read.specs.declared.error.SdfError.{SdfError}
use Rattle.hd_sdf_read.specs.File.{File}
use Rattle.hd_sdf_read.specs.FileOf.{file_of}
use Rattle.hd_sdf_read.specs.Grammar.{body_in}
use Rattle.hd_sdf_read.specs.HeaderPieces.{header_on}
use Rattle.hd_sdf_read.specs.Reads.{Gives}
use Rattle.hd_sdf_read.proofs.States.{length-some, length-none}
use Rattle.hd_sdf_read.proofs.HeaderPieces.{header_in-last_line, header_in-no_line}
use Rattle.hd_sdf_read.proofs.state.ended_header.Goals as goal

pub returns-then-is_empty : goal.returns-then-is_empty
returns-then-is_empty c = λ refused.
    let h = c.args.header in
    let none : c.args.line.text ≡ [] = length-none c.args.line.text (ap (λ (t : List ℕ). eqb (length t) 0) (sym c.as_slice.ensures) ∙ sym c.is_empty.ensures ∙ c.if-is_empty.true) in
    ap (λ (t : List ℕ). header_on h (t ++ [])) none ∙ header_in-no_line h.version h.number h.entries

pub returns-then-ends : goal.returns-then-ends
returns-then-ends c =
    let h = c.args.header in
    let text = c.args.line.text in
    let new = c.take_line.new.self in
    let some : 0 < length text = length-some text (ap (λ (t : List ℕ). eqb (length t) 0) (sym c.as_slice.ensures) ∙ sym c.is_empty.ensures ∙ c.if-is_empty.false) in
    let whole : header_on h (text ++ []) ≡ body_in new.version new.entries [] =
    ap (λ (t : List ℕ). header_on h t) (append-nil text) ∙ header_in-last_line h.version h.number h.entries text c.args.line.open some
    ∙ ap (λ (t : List ℕ). header_on h (t ++ 10 ∷ [])) (sym c.as_slice-2.ensures) ∙ (rw c.if-ends.true at c.in-Ok.ensures.line) [] in
    subst (λ (r : Result File SdfError). Gives file_of c.ended_behind.result r) (sym whole) c.ended_behind.ensures

pub returns : goal.returns
returns c = λ refused.
    let h = c.args.header in
    let text = c.args.line.text in
    let new = c.take_line.new.self in
    let some : 0 < length text = length-some text (ap (λ (t : List ℕ). eqb (length t) 0) (sym c.as_slice.ensures) ∙ sym c.is_empty.ensures ∙ c.if-is_empty.false) in
    ap (λ (t : List ℕ). header_on h t) (append-nil text) ∙ header_in-last_line h.version h.number h.entries text c.args.line.open some
    ∙ ap (λ (t : List ℕ). header_on h (t ++ 10 ∷ [])) (sym c.as_slice-2.ensures) ∙ (rw c.if-ends.false at c.in-Ok.ensures.line) [] ∙ header_in-no_line new.version new.number new.entries

pub returns-in-Err : goal.returns-in-Err
returns-in-Err c = λ refused.
    let h = c.args.header in
    let text = c.args.line.text in
    let some : 0 < length text = length-some text (ap (λ (t : List ℕ). eqb (length t) 0) (sym c.as_slice.ensures) ∙ sym c.is_empty.ensures ∙ c.if-is_empty.false) in
    ap (λ (t : List ℕ). header_on h t) (append-nil text) ∙ header_in-last_line h.version h.number h.entries text c.args.line.open some
    ∙ ap (λ (t : List ℕ). header_on h (t ++ 10 ∷ [])) (sym c.as_slice-2.ensures) ∙ c.in-Err.ensures.line refused []
