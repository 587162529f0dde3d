use Rattle.std.proofs.Common.{◌<◌, ◌+◌, ◌++◌, [], length, arith, sym, ap, subst, ◌∙◌}
use mir.Syntax.{w64}
use mir.Val.{of_z, to_z}
use Rattle.std.proofs.lemmas.Int.{to_z-of_z}
use Rattle.hd_map.specs.Cells.{cells_in}
use Rattle.hd_map.specs.declared.types.DataType.{DataType}
use Rattle.hd_map.specs.Map.{IsCellOf, cell_count, greatest_height, least_height}
use Rattle.hd_sdf_read.proofs.DatumAt.{datum_at-fits}
use Rattle.hd_sdf_read.proofs.WholeCuts.{HasOn-another, HasOn-refused}
use Rattle.hd_sdf_read.proofs.ShortWords.{HasOn-again, HasOn-short}
use Rattle.hd_sdf_read.proofs.whole_data.read_on.Goals as goal

pub push-requires : goal.push-requires
push-requires c =
    let given = rw c.in-Ok-Some.field-0-is at c.in-Ok-Some.ensures in
    let low = to_z-of_z w64 c.least_of-least.result (record { sfits = c.least_of-least.type_inv }) ∙ c.least_of-least.ensures ∙ ap least_height c.data_type.ensures in
    let high = to_z-of_z w64 c.greatest_of-greatest.result (record { sfits = c.greatest_of-greatest.type_inv }) ∙ c.greatest_of-greatest.ensures ∙ ap greatest_height c.data_type-2.ensures in
    let reads = c.in_ok-rest.ensures in
    let has = HasOn-short c.args.size c.args.cells c.args.text.now c.data.cells c.data.rest.now
    (length (cells_in c.data.cells)) c.read_short.new.cells c.in_ok-rest.rest.now c.len-read.result c.data.invariant.0 reads c.len-read.ensures in
    subst (λ (t : DataType). IsCellOf t c.in-Ok-Some.cell) (sym has.data_type)
    (datum_at-fits c.args.cells.data_type (to_z w64 (of_z w64 c.least_of-least.result)) (to_z w64 (of_z w64 c.greatest_of-greatest.result)) c.len-read.result
    (c.in_ok-rest.rest.now ++ []) c.in-Ok-Some.cell low high (given []).0)

pub data-preserved : goal.data-preserved
data-preserved c =
    let given = rw c.in-Ok-Some.field-0-is at c.in-Ok-Some.ensures in
    let low = to_z-of_z w64 c.least_of-least.result (record { sfits = c.least_of-least.type_inv }) ∙ c.least_of-least.ensures ∙ ap least_height c.data_type.ensures in
    let high = to_z-of_z w64 c.greatest_of-greatest.result (record { sfits = c.greatest_of-greatest.type_inv }) ∙ c.greatest_of-greatest.ensures ∙ ap greatest_height c.data_type-2.ensures in
    let reads = c.in_ok-rest.ensures in
    let has = HasOn-short c.args.size c.args.cells c.args.text.now c.data.cells c.data.rest.now
    (length (cells_in c.data.cells)) c.read_short.new.cells c.in_ok-rest.rest.now c.len-read.result c.data.invariant.0 reads c.len-read.ensures in
    let few = reads.few in
    let inside : c.len-read.result < cell_count c.args.size = omega (arith, few, c.len-read.ensures, c.if-read-count.false) in
    HasOn-again c.args.size c.args.cells c.args.text.now c.push.new.self c.in-Ok-Some.after.now (c.len-read.result + 1)
    (HasOn-another c.args.size c.args.cells c.args.text.now c.read_short.new.cells c.in_ok-rest.rest.now c.len-read.result has inside
    (to_z w64 (of_z w64 c.least_of-least.result)) (to_z w64 (of_z w64 c.greatest_of-greatest.result)) low high
    c.push.new.self c.in-Ok-Some.cell c.in-Ok-Some.after.now c.in_ok-push-in-Ok-Some.ensures.ok c.push.ensures.data_type given) (omega (arith, inside))

pub returns-in-Err : goal.returns-in-Err
returns-in-Err c = λ _.
    let low = to_z-of_z w64 c.least_of-least.result (record { sfits = c.least_of-least.type_inv }) ∙ c.least_of-least.ensures ∙ ap least_height c.data_type.ensures in
    let high = to_z-of_z w64 c.greatest_of-greatest.result (record { sfits = c.greatest_of-greatest.type_inv }) ∙ c.greatest_of-greatest.ensures ∙ ap greatest_height c.data_type-2.ensures in
    let reads = c.in_ok-rest.ensures in
    let has = HasOn-short c.args.size c.args.cells c.args.text.now c.data.cells c.data.rest.now
    (length (cells_in c.data.cells)) c.read_short.new.cells c.in_ok-rest.rest.now c.len-read.result c.data.invariant.0 reads c.len-read.ensures in
    let few = reads.few in
    let inside : c.len-read.result < cell_count c.args.size = omega (arith, few, c.len-read.ensures, c.if-read-count.false) in
    HasOn-refused c.args.size c.args.cells c.args.text.now c.read_short.new.cells c.in_ok-rest.rest.now c.len-read.result has inside
    (to_z w64 (of_z w64 c.least_of-least.result)) (to_z w64 (of_z w64 c.greatest_of-greatest.result)) low high c.in-Err.refusal c.in-Err.ensures
