use Rattle.std.proofs.Common.{refl, arith, rules, SFits, w64}
use Rattle.std.proofs.lemmas.Bool.{false≢true}
use Rattle.std.proofs.lemmas.Int.{to_z-of_z}
use Rattle.hd_map.specs.Encoding.{values_of}
use Rattle.hd_map.proofs.DataTypes.{least_read, type_limits}
use Rattle.hd_morph.proofs.Encodings.{values_of-length, value_at-read}
use Rattle.hd_morph.proofs.AreBetween.{BetweenBefore-more, AreBetween-all, AreOfType-between, IsFirstOutside-first}
use Rattle.hd_morph.proofs.heights.first_outside.Goals as goal

pub returns-then-not-is_between : goal.returns-then-not-is_between
returns-then-not-is_between g c =
    let m = g.G.Heights.map c.args.grid.now in
    let code = g.L.Lane.code in
    let index = c.loop-index.index in
    let least : SFits w64 c.least_of-least.result = search rules in
    let greatest : SFits w64 c.greatest_of-greatest.result = search rules in
    let height = value_at-read code c.args.numbers.now index c.index-numbers-index.result c.loop-index-test.true c.index-numbers-index.is in
    let tested = rw (height, to_z-of_z w64 _ least, to_z-of_z w64 _ greatest, c.least_of-least.ensures, c.greatest_of-greatest.ensures, c.data_type-data_type.ensures) at c.if-not-is_between.ensures in
    let before = rw (to_z-of_z w64 _ least, to_z-of_z w64 _ greatest, c.least_of-least.ensures, c.greatest_of-greatest.ensures, c.data_type-data_type.ensures) at c.loop-index.invariant in
    IsFirstOutside-first m (values_of code c.args.numbers.now) index c.position_of.result (rw c.size.ensures at c.position_of.ensures.in_grid) (rw c.size.ensures at c.position_of.ensures.place)
    (λ between. false≢true (tested.1 between)) before

pub loop-index-preserved : goal.loop-index-preserved
loop-index-preserved g c =
    let code = g.L.Lane.code in
    let index = c.loop-index.index in
    let height = value_at-read code c.args.numbers.now index c.index-numbers-index.result c.loop-index-test.true c.index-numbers-index.is in
    let tested = rw height at c.if-not-is_between.ensures in
    BetweenBefore-more _ _ (values_of code c.args.numbers.now) index (tested.0 refl) c.loop-index.invariant

pub returns : goal.returns
returns g c =
    let m = g.G.Heights.map c.args.grid.now in
    let code = g.L.Lane.code in
    let values = values_of code c.args.numbers.now in
    let least : SFits w64 c.least_of-least.result = search rules in
    let greatest : SFits w64 c.greatest_of-greatest.result = search rules in
    let before = rw (to_z-of_z w64 _ least, to_z-of_z w64 _ greatest, c.least_of-least.ensures, c.greatest_of-greatest.ensures, c.data_type-data_type.ensures) at c.loop-index.invariant in
    AreOfType-between m values (AreBetween-all _ _ values c.loop-index.index (omega (arith, c.loop-index-test.false, values_of-length code c.args.numbers.now)) before)

pub returns-then-are_between : goal.returns-then-are_between
returns-then-are_between g c =
    let m = g.G.Heights.map c.args.grid.now in
    let least : SFits w64 c.least_of-least.result = search rules in
    let greatest : SFits w64 c.greatest_of-greatest.result = search rules in
    let tested = rw (
      c.if-are_between.true,
      to_z-of_z w64 _ least,
      to_z-of_z w64 _ greatest,
      c.least_of-least.ensures,
      c.greatest_of-greatest.ensures,
      c.data_type-data_type.ensures,
    ) at c.are_between.ensures in
    AreOfType-between m (values_of g.L.Lane.code c.args.numbers.now) (tested.0 refl)

pub are_between-requires : goal.are_between-requires
are_between-requires g c =
    let data_type = c.data_type-data_type.result in
    rw (least_read data_type c.least_of-least.result c.least_of-least.ensures) (type_limits data_type).1

pub position_of-requires : goal.position_of-requires
position_of-requires g c =
    let inside = c.loop-index-test.true in
    let whole = c.requires in
    rw c.size.ensures (omega (arith, inside, whole))

pub overflow_cast-index : goal.overflow_cast-index
overflow_cast-index g c =
    let inside = c.loop-index-test.true in
    let whole = c.requires in
    let cells = (g.met.G.Heights.whole c.args.grid.now).size.cells in
    omega (arith, inside, whole, cells)
