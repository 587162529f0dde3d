use Rattle.std.proofs.Common.{◌≡◌, ◌≢◌, ◌∙◌, ℤ, Option, ap, refl, sym, arith, inr}
use mir.Syntax.{w64}
use mir.Val.{of_z}
use Rattle.std.proofs.lemmas.Int.{ints}
use Rattle.hd_map.specs.declared.types.Cell.TheVariants.{Height}
use Rattle.hd_map.specs.Sets.{cell_with}
use Rattle.hd_edit.specs.declared.change.Was.TheVariants as was
use Rattle.hd_edit.specs.Change.{height_over}
use Rattle.hd_edit.proofs.HeightLimits.{IsCellOf-limits}
use Rattle.hd_edit.proofs.profile.note_number.Goals as goal

pub overflow_sub-was : goal.overflow_sub-was
overflow_sub-was g c =
    let of = c.requires.of_type c.in-Some-height.was (sym c.height-2.ensures ∙ c.in-Some-height.is) in
    let limits = IsCellOf-limits c.args.data_type (Height c.in-Some-height.was) c.in-Some-height.was of refl in
    omega (arith, ints, limits.0, limits.1, limits.2, c.least_of.ensures)

pub overflow_cast-was : goal.overflow_cast-was
overflow_cast-was g c =
    let of = c.requires.of_type c.in-Some-height.was (sym c.height-2.ensures ∙ c.in-Some-height.is) in
    let limits = IsCellOf-limits c.args.data_type (Height c.in-Some-height.was) c.in-Some-height.was of refl in
    (omega (arith, ints, limits.0, limits.1, limits.2, c.least_of.ensures), omega (arith, ints, limits.0, limits.1, limits.2, c.least_of.ensures))

pub push_height-requires-clause-over : goal.push_height-requires-clause-over
push_height-requires-clause-over g c =
    let of = c.requires.of_type c.in-Some-height.was (sym c.height-2.ensures ∙ c.in-Some-height.is) in
    let limits = IsCellOf-limits c.args.data_type (Height c.in-Some-height.was) c.in-Some-height.was of refl in
    omega (arith, ints, limits.0, limits.1, limits.2, c.least_of.ensures)

pub returns-then-was-height-clause-told : goal.returns-then-was-height-clause-told
returns-then-was-height-clause-told g c = λ cell told.
    let of = c.requires.of_type c.in-Some-height.was (sym c.height-2.ensures ∙ c.in-Some-height.is) in
    let limits = IsCellOf-limits c.args.data_type (Height c.in-Some-height.was) c.in-Some-height.was of refl in
    let noted = c.push_height.ensures.changes in
    let same : c.in-Some-height.was ≡ height_over c.args.data_type noted.0 = omega (arith, ints, limits.0, limits.1, limits.2, c.least_of.ensures, noted.1) in
    let becomes : cell_with (g.L.Lane.code.shown c.args.new) cell ≡ Height c.in-Some.height = ap (λ (v : Option ℤ). cell_with v cell) (sym c.height.ensures ∙ c.in-Some.is) in
    let old : cell ≡ Height c.in-Some-height.was = told c.in-Some-height.was (sym c.height-2.ensures ∙ c.in-Some-height.is) in
    let apart : cell ≢ cell_with (g.L.Lane.code.shown c.args.new) cell = λ stays.
    let one : Height c.in-Some-height.was ≡ Height c.in-Some.height = sym old ∙ stays ∙ becomes in
    let same_height : c.in-Some-height.was ≡ c.in-Some.height = cc in
    c.if-was-height.true (ap (of_z w64) same_height) in
    inr (was.Height noted.0, apart, told c.in-Some-height.was (sym c.height-2.ensures ∙ c.in-Some-height.is) ∙ ap Height same, noted.2)
