use Rattle.std.proofs.Common.{arith}
use Rattle.hd_map.specs.Encoding.{most_between, most_filtered}
use Rattle.hd_morph.specs.Element.{ElementTable}
use Rattle.hd_morph.specs.declared.filter.Filter.TheVariants.{Dilation}
use Rattle.hd_morph.specs.Plain.{ArePlain}
use Rattle.hd_morph.specs.Raised.{ArePlainlyFiltered}
use Rattle.hd_morph.specs.Turned.{turned_table}
use Rattle.hd_morph.proofs.PlainNumbers.{ArePlain-more}
use Rattle.hd_morph.proofs.Settling.{ArePlain-dilated}
use Rattle.hd_morph.proofs.Turned.{IsElement-turned, HasNumbersWithin-turned, ArePlain-negated, ArePlainlyFiltered-eroded}
use Rattle.hd_morph.proofs.filter.eroded.Goals as goal

pub negate-requires : goal.negate-requires
negate-requires g c =
    let code = g.L.Lane.code in
    (ArePlain-more code c.args.size (most_between code) (most_filtered code) c.args.heights.now (omega arith) c.requires.heights).plain

pub dilate_by_offsets-requires-clause-heights : goal.dilate_by_offsets-requires-clause-heights
dilate_by_offsets-requires-clause-heights g c =
    let code = g.L.Lane.code in
    ArePlain-negated code c.args.size (most_between code) c.args.heights.now c.negate.new.values c.negate.ensures c.requires.heights

pub dilate_by_offsets-requires-clause-numbers : goal.dilate_by_offsets-requires-clause-numbers
dilate_by_offsets-requires-clause-numbers g c = rw c.in_ok-turned.ensures.turned (HasNumbersWithin-turned g.L.Lane.code.most_number c.args.element.now c.requires.numbers)

pub dilate_by_offsets-requires-clause-element : goal.dilate_by_offsets-requires-clause-element
dilate_by_offsets-requires-clause-element g c = rw c.in_ok-turned.ensures.turned (IsElement-turned c.args.element.now c.requires.element)

pub all_negated-requires : goal.all_negated-requires
all_negated-requires g c =
    let code = g.L.Lane.code in
    let e : ElementTable = c.args.element.now in
    let n = c.negate.new.values in
    let negatives : ArePlain code c.args.size (most_between code) n = ArePlain-negated code c.args.size (most_between code) c.args.heights.now n c.negate.ensures c.requires.heights in
    let made : ArePlainlyFiltered code Dilation c.args.size (turned_table e) n c.in_ok-lowered.lowered.items = rw c.in_ok-turned.ensures.turned at c.in_ok-lowered.ensures in
    (ArePlain-dilated code c.args.size (turned_table e) (most_between code) code.most_number n c.in_ok-lowered.lowered.items c.requires.size.some_points
    (HasNumbersWithin-turned code.most_number e c.requires.numbers) negatives made).plain

pub returns : goal.returns
returns g c =
    let code = g.L.Lane.code in
    let e : ElementTable = c.args.element.now in
    let n = c.negate.new.values in
    let negatives : ArePlain code c.args.size (most_between code) n = ArePlain-negated code c.args.size (most_between code) c.args.heights.now n c.negate.ensures c.requires.heights in
    let made : ArePlainlyFiltered code Dilation c.args.size (turned_table e) n c.in_ok-lowered.lowered.items = rw c.in_ok-turned.ensures.turned at c.in_ok-lowered.ensures in
    let lowered = ArePlain-dilated code c.args.size (turned_table e) (most_between code) code.most_number n c.in_ok-lowered.lowered.items c.requires.size.some_points
    (HasNumbersWithin-turned code.most_number e c.requires.numbers) negatives made in
    ArePlainlyFiltered-eroded code c.args.size e (most_filtered code) c.args.heights.now n c.in_ok-lowered.lowered.items c.all_negated.result.items c.requires.element
    c.negate.ensures made.filtered lowered c.all_negated.ensures
