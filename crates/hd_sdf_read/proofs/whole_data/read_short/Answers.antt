use Rattle.std.proofs.Common.{◌≡◌, pos, true, arith, sym, ap, ◌∙◌}
use mir.Syntax.{w64}
use Rattle.std.proofs.lemmas.Int.{ints, to_z-of_z}
use Rattle.hd_map.specs.Map.{greatest_height, least_height}
use Rattle.hd_num.specs.Whole.{signed_number}
use Rattle.hd_sdf_read.proofs.ShortWords.{AreData-begin, ReadsShort-batch}
use Rattle.hd_sdf_read.proofs.whole_data.read_short.Goals as goal

pub returns-then-read-eq0 : goal.returns-then-read-eq0
returns-then-read-eq0 c =
    let before = c.short.invariant in
    let least = to_z-of_z w64 c.least_of.result (record { sfits = c.least_of.type_inv }) in
    let greatest = to_z-of_z w64 c.greatest_of.result (record { sfits = c.greatest_of.type_inv }) in
    let low_is : signed_number true c.over_least-below.result ≡ c.least_of.result = omega (arith, ints, least, c.over_least-below.ensures) in
    let high_is : pos c.over_least-greatest.result ≡ c.greatest_of.result = omega (arith, ints, greatest, c.over_least-greatest.ensures) in
    let low = low_is ∙ c.least_of.ensures ∙ ap least_height (c.data_type.ensures ∙ sym before.reads.data_type) in
    let high = high_is ∙ c.greatest_of.ensures ∙ ap greatest_height (c.data_type-2.ensures ∙ sym before.reads.data_type) in
    let batch = c.in_ok-read.ensures in
    let on = ReadsShort-batch c.args.size c.args.cells.now c.args.text.now c.short.cells c.short.rest.now c.read_batch.new.cells c.in_ok-read.after.now
    (signed_number true c.over_least-below.result) (pos c.over_least-greatest.result) _ c.in_ok-read.read
    before.reads low high batch (omega arith) in
    on.0

pub short-preserved : goal.short-preserved
short-preserved c =
    let before = c.short.invariant in
    let least = to_z-of_z w64 c.least_of.result (record { sfits = c.least_of.type_inv }) in
    let greatest = to_z-of_z w64 c.greatest_of.result (record { sfits = c.greatest_of.type_inv }) in
    let low_is : signed_number true c.over_least-below.result ≡ c.least_of.result = omega (arith, ints, least, c.over_least-below.ensures) in
    let high_is : pos c.over_least-greatest.result ≡ c.greatest_of.result = omega (arith, ints, greatest, c.over_least-greatest.ensures) in
    let low = low_is ∙ c.least_of.ensures ∙ ap least_height (c.data_type.ensures ∙ sym before.reads.data_type) in
    let high = high_is ∙ c.greatest_of.ensures ∙ ap greatest_height (c.data_type-2.ensures ∙ sym before.reads.data_type) in
    let batch = c.in_ok-read.ensures in
    let on = ReadsShort-batch c.args.size c.args.cells.now c.args.text.now c.short.cells c.short.rest.now c.read_batch.new.cells c.in_ok-read.after.now
    (signed_number true c.over_least-below.result) (pos c.over_least-greatest.result) _ c.in_ok-read.read
    before.reads low high batch (omega arith) in
    let begin = AreData-begin (signed_number true c.over_least-below.result) (pos c.over_least-greatest.result) c.short.rest.now c.in_ok-read.after.now batch.more batch.reads
    before.some before.begins in
    record { reads = on.0; some = begin.0; begins = begin.1 }
