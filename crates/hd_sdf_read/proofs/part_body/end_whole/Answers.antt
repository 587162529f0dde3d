use Rattle.std.proofs.Common.{◌≡◌, ◌++◌, ◌<◌, ℕ, List, [], length, Ok, Err, eqb, arith, sym, ap, ap₂, subst, ◌∙◌}
use Rattle.hd_map.specs.Cells.{cells_in}
use Rattle.hd_map.specs.Map.{Map, cell_count}
use Rattle.hd_map.specs.Surface.{map_of}
use Rattle.hd_sdf_read.specs.declared.error.SdfError.TheVariants.{TooFewData}
use Rattle.hd_sdf_read.specs.Bodies.{whole_in}
use Rattle.hd_sdf_read.specs.WholeCut.{TakesWord}
use Rattle.hd_sdf_read.specs.Grammar.{map_with}
use Rattle.hd_sdf_read.proofs.Bodies.{Ends-none, trailed-nothing, whole_in-done, whole_in-nothing}
use Rattle.hd_sdf_read.proofs.WholeCuts.{length-filled, length-nothing}
use Rattle.hd_sdf_read.proofs.part_body.end_whole.Goals as goal

pub take_word-requires-clause-some : goal.take_word-requires-clause-some
take_word-requires-clause-some c = length-filled c.as_slice-2.result.now (ap (λ (t : List ℕ). eqb (length t) 0) (c.as_slice-2.ensures ∙ sym c.as_slice.ensures)
    ∙ sym c.is_empty.ensures ∙ c.if-is_empty.false)

pub returns-then-is_empty-clause-text : goal.returns-then-is_empty-clause-text
returns-then-is_empty-clause-text c = λ _.
    let part = c.args.part in
    let none : part.token.text ≡ [] = sym c.as_slice.ensures ∙ length-nothing c.as_slice.result.now (sym c.is_empty.ensures ∙ c.if-is_empty.true) in
    ap (λ (t : List ℕ). whole_in part.size part.cells.data_type (cells_in part.cells) (t ++ [])) none ∙ whole_in-nothing part.size part.cells.data_type (cells_in part.cells) part.missing
    ∙ ap (λ n. Err (TooFewData n)) (sym c.len.ensures)

pub returns-in-Err-clause-text : goal.returns-in-Err-clause-text
returns-in-Err-clause-text c = λ refused.
    let part = c.args.part in
    ap (λ (t : List ℕ). whole_in part.size part.cells.data_type (cells_in part.cells) (t ++ [])) (sym c.as_slice-2.ensures) ∙ c.in-Err.ensures refused [] Ends-none

pub returns-then-len-size-clause-text : goal.returns-then-len-size-clause-text
returns-then-len-size-clause-text c = λ _.
    let part = c.args.part in
    let taken : TakesWord part.size part.cells part.token.text c.in-Ok.cells = subst (λ (w : List ℕ). TakesWord part.size part.cells w c.in-Ok.cells) c.as_slice-2.ensures c.in-Ok.ensures in
    let size = c.len-2.ensures in
    let missing : length (cells_in c.in-Ok.cells) < cell_count part.size = omega (arith, size, c.if-len-size.true) in
    taken.same [] Ends-none ∙ whole_in-nothing part.size c.in-Ok.cells.data_type (cells_in c.in-Ok.cells) missing ∙ ap (λ n. Err (TooFewData n)) (sym c.len-then-len-size.ensures)

pub returns-clause-text : goal.returns-clause-text
returns-clause-text c =
    let part = c.args.part in
    let taken : TakesWord part.size part.cells part.token.text c.in-Ok.cells = subst (λ (w : List ℕ). TakesWord part.size part.cells w c.in-Ok.cells) c.as_slice-2.ensures c.in-Ok.ensures in
    let size = c.len-2.ensures in
    let count = taken.count in
    let missing = part.missing in
    let all : length (cells_in c.in-Ok.cells) ≡ cell_count part.size = omega (arith, size, c.if-len-size.false, count, missing) in
    let made : map_of c.new.result ≡ map_with part.size c.in-Ok.cells.data_type (cells_in c.in-Ok.cells) = c.new.ensures in
    taken.same [] Ends-none ∙ whole_in-done part.size c.in-Ok.cells.data_type (cells_in c.in-Ok.cells) [] all
    ∙ trailed-nothing part.size (map_with part.size c.in-Ok.cells.data_type (cells_in c.in-Ok.cells))
    ∙ ap₂ (λ (m : Map) (t : List ℕ). Ok (record { map = m; trailer = t })) (sym made) (sym c.new-2.ensures)
