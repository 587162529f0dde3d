use Rattle.std.proofs.Common.{◌≡◌, ◌++◌, ◌<◌, ℕ, List, [], length, Ok, Err, eqb, arith, sym, ap, ap₂, subst, ◌∙◌}
use Rattle.hd_map.specs.declared.wide_cells.WideCells.{WideCells}
use Rattle.hd_map.specs.Cells.{wide_cells_in}
use Rattle.hd_map.specs.Layouts.{wide_map}
use Rattle.hd_map.specs.Map.{Map, cell_count}
use Rattle.hd_sdf_read.specs.declared.error.SdfError.TheVariants.{TooFewData}
use Rattle.hd_sdf_read.specs.Bodies.{decimal_in}
use Rattle.hd_sdf_read.specs.DecimalCut.{TakesDatum}
use Rattle.hd_sdf_read.specs.Scaling.{data_of}
use Rattle.hd_sdf_read.specs.Grammar.{map_with}
use Rattle.hd_sdf_read.proofs.Bodies.{Ends-none, trailed-nothing}
use Rattle.hd_sdf_read.proofs.DecimalCuts.{decimal_in-none, decimal_in-whole}
use Rattle.hd_sdf_read.proofs.WholeCuts.{length-filled, length-nothing}
use Rattle.hd_sdf_read.proofs.part_body.end_decimals.Goals as goal

pub take_decimal-requires-clause-some : goal.take_decimal-requires-clause-some
take_decimal-requires-clause-some c = length-filled c.as_slice-2.result.now (ap (λ (t : List ℕ). eqb (length t) 0) (c.as_slice-2.ensures ∙ sym c.as_slice.ensures)
    ∙ sym c.is_empty.ensures ∙ c.if-is_empty.false)

pub returns-then-is_empty-clause-text : goal.returns-then-is_empty-clause-text
returns-then-is_empty-clause-text c = λ _.
    let part = c.args.part in
    let none : part.token.text ≡ [] = sym c.as_slice.ensures ∙ length-nothing c.as_slice.result.now (sym c.is_empty.ensures ∙ c.if-is_empty.true) in
    ap (λ (t : List ℕ). decimal_in part.size part.data_type (data_of part.scaled) (t ++ [])) none ∙ decimal_in-none part.size part.data_type part.scaled part.missing
    ∙ ap (λ n. Err (TooFewData n)) (sym c.len.ensures)

pub returns-in-Err-clause-text : goal.returns-in-Err-clause-text
returns-in-Err-clause-text c = λ refused.
    let part = c.args.part in
    ap (λ (t : List ℕ). decimal_in part.size part.data_type (data_of part.scaled) (t ++ [])) (sym c.as_slice-2.ensures) ∙ c.in-Err.ensures refused [] Ends-none

pub returns-then-len-size-clause-text : goal.returns-then-len-size-clause-text
returns-then-len-size-clause-text c = λ _.
    let part = c.args.part in
    let taken : TakesDatum part.size part.data_type part.scaled part.token.text c.in-Ok.scaled = subst
    (λ (w : List ℕ). TakesDatum part.size part.data_type part.scaled w c.in-Ok.scaled) c.as_slice-2.ensures c.in-Ok.ensures in
    let size = c.len-2.ensures in
    let missing : length (wide_cells_in c.in-Ok.scaled.cells) < cell_count part.size = omega (arith, size, c.if-len-size.true) in
    taken.same [] Ends-none ∙ decimal_in-none part.size part.data_type c.in-Ok.scaled missing ∙ ap (λ n. Err (TooFewData n)) (sym c.len-then-len-size.ensures)

pub returns-clause-text : goal.returns-clause-text
returns-clause-text c =
    let part = c.args.part in
    let taken : TakesDatum part.size part.data_type part.scaled part.token.text c.in-Ok.scaled = subst
    (λ (w : List ℕ). TakesDatum part.size part.data_type part.scaled w c.in-Ok.scaled) c.as_slice-2.ensures c.in-Ok.ensures in
    let size = c.len-2.ensures in
    let count = taken.count in
    let missing = part.missing in
    let all : length (wide_cells_in c.in-Ok.scaled.cells) ≡ cell_count part.size = omega (arith, size, c.if-len-size.false, count, missing) in
    let made : wide_map c.new.result ≡ map_with part.size c.in-Ok.scaled.cells.data_type (wide_cells_in c.in-Ok.scaled.cells) =
    c.new.ensures ∙ ap (λ (cells : WideCells). map_with part.size cells.data_type (wide_cells_in cells)) c.into_cells.ensures in
    taken.same [] Ends-none ∙ decimal_in-whole part.size part.data_type c.in-Ok.scaled [] taken.kept all
    ∙ trailed-nothing part.size (map_with part.size c.in-Ok.scaled.cells.data_type (wide_cells_in c.in-Ok.scaled.cells))
    ∙ ap₂ (λ (m : Map) (t : List ℕ). Ok (record { map = m; trailer = t })) (sym made) (sym c.new-2.ensures)
