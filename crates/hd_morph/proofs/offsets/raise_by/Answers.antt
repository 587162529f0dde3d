use Rattle.std.proofs.Common.{mul-le-mul_right, ℕ, ◌<◌, ◌≤◌, ◌+◌, ◌*◌, ◌/◌, ◌∙◌, take, drop, refl, sym, subst, arith, rules, w64, SFits}
use Rattle.std.proofs.lemmas.Int.{to_z-of_z}
use Rattle.hd_map.specs.declared.types.Size.{Size}
use Rattle.hd_map.specs.Encoding.{values_of}
use Rattle.hd_morph.specs.Plain.{relief}
use Rattle.hd_morph.specs.Raised.{AreRaisedAcross}
use Rattle.hd_morph.proofs.Encodings.{values_of-length, values_of-part}
use Rattle.hd_morph.proofs.Raising.{IsRaisedBy-no_number, IsRowRaisedOnce-kept, IsRowRaisedOnce-no_row, IsRowRaisedOnce-across}
use Rattle.hd_morph.proofs.offsets.raise_by.Goals as goal

-- the points of a profile lie within those of the map
row_within : (s : Size) (row : ℕ) → row < s.profiles → row * s.points + s.points ≤ s.profiles * s.points
row_within s row below = let last : row + 1 ≤ s.profiles = omega arith in omega (arith, mul-le-mul_right s.points last)

pub returns-in_default : goal.returns-in_default
returns-in_default g c =
    let code = g.L.Lane.code in
    let f = relief c.args.size (values_of code c.args.heights.now) in
    IsRowRaisedOnce-kept c.args.size c.args.element.now f c.args.y c.args.offset (values_of code c.args.tops.now)
    (λ x inside. IsRaisedBy-no_number c.args.size c.args.element.now f (record { x = x; y = c.args.y }) c.args.offset (sym c.in_default.ensures))

pub returns-in_default-row_before : goal.returns-in_default-row_before
returns-in_default-row_before g c =
    let code = g.L.Lane.code in
    IsRowRaisedOnce-no_row c.args.size c.args.element.now (relief c.args.size (values_of code c.args.heights.now)) c.args.y c.args.offset
    (values_of code c.args.tops.now) c.in_default-row_before.ensures.none

pub returns : goal.returns
returns g c =
    let code = g.L.Lane.code in
    let tops = values_of code c.args.tops.now in
    let new = values_of code c.raise_from_row.new.tops in
    let heights = values_of code c.args.heights.now in
    let start = c.in-Some-row_before.from * c.args.size.points in
    let fits : SFits w64 c.in-Some.number = search rules in
    let row = c.in-Some-row_before.ensures.some in
    let across = rw (to_z-of_z w64 c.in-Some.number fits, values_of-part code start _ c.args.heights.now) at c.raise_from_row.ensures in
    let raised : AreRaisedAcross (take c.args.size.points (drop start heights)) (c.args.element.now.width / 2) c.args.offset.x c.in-Some.number tops new =
    rw (sym c.width.ensures.width) (subst (λ k. AreRaisedAcross (take k (drop start heights)) (c.width.result / 2) c.args.offset.x c.in-Some.number tops new) (omega arith) across) in
    IsRowRaisedOnce-across c.args.size c.args.element.now heights c.args.y c.in-Some-row_before.from start c.args.offset c.in-Some.number tops new
    (values_of-length code c.args.heights.now ∙ c.requires.heights.whole) (values_of-length code c.args.tops.now
    ∙ c.requires.whole) c.requires.row row.0 row.1 c.requires.column c.requires.table_row (sym c.in-Some.ensures) refl raised

pub overflow_mul-start : goal.overflow_mul-start
overflow_mul-start g c = omega (arith, row_within c.args.size c.in-Some-row_before.from c.in-Some-row_before.ensures.some.0, c.requires.size.cells, c.requires.heights.whole)

pub overflow_add-start : goal.overflow_add-start
overflow_add-start g c = omega (arith, row_within c.args.size c.in-Some-row_before.from c.in-Some-row_before.ensures.some.0, c.requires.size.cells, c.requires.heights.whole)

pub slice_bounds-raise_from_row-end : goal.slice_bounds-raise_from_row-end
slice_bounds-raise_from_row-end g c = omega (arith, row_within c.args.size c.in-Some-row_before.from c.in-Some-row_before.ensures.some.0, c.requires.size.cells, c.requires.heights.whole)

pub raise_from_row-requires-clause-least : goal.raise_from_row-requires-clause-least
raise_from_row-requires-clause-least g c =
    let fits : SFits w64 c.in-Some.number = search rules in
    rw (to_z-of_z w64 c.in-Some.number fits) ((c.requires.numbers.each (c.args.offset.y * c.args.element.now.width + c.args.offset.x)).least c.in-Some.number (sym c.in-Some.ensures))

pub raise_from_row-requires-clause-greatest : goal.raise_from_row-requires-clause-greatest
raise_from_row-requires-clause-greatest g c =
    let fits : SFits w64 c.in-Some.number = search rules in
    rw (to_z-of_z w64 c.in-Some.number fits) ((c.requires.numbers.each (c.args.offset.y * c.args.element.now.width + c.args.offset.x)).greatest c.in-Some.number (sym c.in-Some.ensures))
