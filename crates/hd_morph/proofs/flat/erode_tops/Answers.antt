use Rattle.std.proofs.Common.{◌/◌, w64, arith}
use Rattle.std.proofs.lemmas.Int.{to_z-of_z}
use Rattle.hd_map.specs.Encoding.{most_between, most_filtered, values_of}
use Rattle.hd_morph.specs.Element.{ElementTable}
use Rattle.hd_morph.specs.declared.filter.Filter.TheVariants.{Dilation}
use Rattle.hd_morph.specs.Plain.{ArePlain}
use Rattle.hd_morph.specs.Raised.{AreFlatlyDilated, ArePlainlyFiltered}
use Rattle.hd_morph.specs.Turned.{turned_table}
use Rattle.hd_morph.proofs.StandAlike.{StandAlike-negated}
use Rattle.hd_morph.proofs.Flats.{IsFlat-turned, IsFlat-within}
use Rattle.hd_morph.proofs.PlainNumbers.{ArePlain-more}
use Rattle.hd_morph.proofs.Settling.{ArePlain-dilated}
use Rattle.hd_morph.proofs.Turned.{HasNumbersWithin-turned, ArePlain-negated, ArePlainlyFiltered-eroded}
use Rattle.hd_morph.proofs.flat.erode_tops.Goals as goal

pub negate-requires : goal.negate-requires
negate-requires g c =
    let code = g.L.Lane.code in
    (ArePlain-more code c.args.size (most_between code) (most_filtered code) c.args.tops.now (omega arith) c.requires.tops).plain

pub raise_tops-requires-clause-tops : goal.raise_tops-requires-clause-tops
raise_tops-requires-clause-tops g c =
    let code = g.L.Lane.code in
    ArePlain-negated code c.args.size (most_between code) c.args.tops.now c.negate.new.values c.negate.ensures c.requires.tops

pub raise_tops-requires-clause-alike : goal.raise_tops-requires-clause-alike
raise_tops-requires-clause-alike g c =
    let code = g.L.Lane.code in
    StandAlike-negated code (values_of code c.args.heights.now) c.args.tops.now c.negate.new.values c.requires.alike c.negate.ensures

pub raise_tops-requires-clause-least : goal.raise_tops-requires-clause-least
raise_tops-requires-clause-least g c =
    let e = c.args.element.now in
    rw (to_z-of_z w64 c.args.number c.ranges.number) ((IsFlat-within e (e.width / 2) (e.height / 2) g.L.Lane.code.most_number c.args.number c.requires.element c.requires.numbers c.requires.flat).0)

pub raise_tops-requires-clause-greatest : goal.raise_tops-requires-clause-greatest
raise_tops-requires-clause-greatest g c =
    let e = c.args.element.now in
    rw (to_z-of_z w64 c.args.number c.ranges.number) ((IsFlat-within e (e.width / 2) (e.height / 2) g.L.Lane.code.most_number c.args.number c.requires.element c.requires.numbers c.requires.flat).1)

pub negate-requires-2 : goal.negate-requires-2
negate-requires-2 g c =
    let code = g.L.Lane.code in
    let e : ElementTable = c.args.element.now in
    let n = c.negate.new.values in
    let negatives : ArePlain code c.args.size (most_between code) n = ArePlain-negated code c.args.size (most_between code) c.args.tops.now n c.negate.ensures c.requires.tops in
    let raised : AreFlatlyDilated code c.args.size (e.width / 2) (e.height / 2) c.args.number n c.raise_tops.new.tops =
    rw (to_z-of_z w64 c.args.number c.ranges.number, c.width.ensures.width, c.height.ensures.height) at c.raise_tops.ensures in
    let made : ArePlainlyFiltered code Dilation c.args.size (turned_table e) n c.raise_tops.new.tops = raised.each (turned_table e)
    (IsFlat-turned e (e.width / 2) (e.height / 2) c.args.number c.requires.element c.requires.flat) in
    (ArePlain-dilated code c.args.size (turned_table e) (most_between code) code.most_number n c.raise_tops.new.tops c.requires.size.some_points
    (HasNumbersWithin-turned code.most_number e c.requires.numbers) negatives made).plain

pub returns : goal.returns
returns g c =
    let code = g.L.Lane.code in
    let e : ElementTable = c.args.element.now in
    let n = c.negate.new.values in
    let negatives : ArePlain code c.args.size (most_between code) n = ArePlain-negated code c.args.size (most_between code) c.args.tops.now n c.negate.ensures c.requires.tops in
    let raised : AreFlatlyDilated code c.args.size (e.width / 2) (e.height / 2) c.args.number n c.raise_tops.new.tops =
    rw (to_z-of_z w64 c.args.number c.ranges.number, c.width.ensures.width, c.height.ensures.height) at c.raise_tops.ensures in
    let made : ArePlainlyFiltered code Dilation c.args.size (turned_table e) n c.raise_tops.new.tops = raised.each (turned_table e)
    (IsFlat-turned e (e.width / 2) (e.height / 2) c.args.number c.requires.element c.requires.flat) in
    let lowered = ArePlain-dilated code c.args.size (turned_table e) (most_between code) code.most_number n c.raise_tops.new.tops c.requires.size.some_points
    (HasNumbersWithin-turned code.most_number e c.requires.numbers) negatives made in
    ArePlainlyFiltered-eroded code c.args.size e (most_filtered code) c.args.tops.now n c.raise_tops.new.tops c.negate-2.new.values c.requires.element c.negate.ensures
    made.filtered lowered c.negate-2.ensures
