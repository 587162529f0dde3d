use Rattle.std.proofs.Common.{◌≡◌, ◌<◌, ◌+◌, ◌-◌, ◌*◌, ℕ, true, slice_index, refl, sym, ◌∙◌, arith}
use Rattle.std.proofs.lemmas.Bool.{OnTrue_from, eqb-true, false≢true}
use Rattle.hd_basin.specs.Inside.{IsAlone}
use Rattle.hd_basin.proofs.AreMet.{alone-from, alone-inside}
use Rattle.hd_basin.proofs.inside.is_alone.Goals as goal
use Rattle.hd_basin.proofs.inside.is_alone.Goals.{then-labels-place, else-labels-place, then-labels-below, else-labels-below}

pub bounds-labels-below-then-labels-below : goal.bounds-labels-below-then-labels-below
bounds-labels-below-then-labels-below c =
    let inside = alone-inside c.args.area c.args.labels.now c.args.at c.requires.whole (let column = c.if-column-area.false in omega (arith, column))
    (let row = c.if-row-area.false in omega (arith, row)) in
    omega (arith, inside)

pub bounds-labels-below-then-labels-below-2 : goal.bounds-labels-below-then-labels-below-2
bounds-labels-below-then-labels-below-2 c =
    alone-inside c.args.area c.args.labels.now c.args.at c.requires.whole (let column = c.if-column-area.false in omega (arith, column)) (let row = c.if-row-area.false in omega (arith, row))

pub returns-then-labels-below-2 : goal.returns-then-labels-below-2
returns-then-labels-below-2 c =
    let f = c.args.area in
    let ls = c.args.labels.now in
    let k : ℕ = (c.args.at.y - f.top) * f.columns + (c.args.at.x - f.left) in
    let inside = alone-inside f ls c.args.at c.requires.whole (let column = c.if-column-area.false in omega (arith, column)) (let row = c.if-row-area.false in omega (arith, row)) in
    let first = c.if-column-eq0.false in
    let left : f.left < c.args.at.x = omega (arith, first) in
    let third : (c.if-labels-place.value ≡ true) × (slice_index ls (k + f.columns) ≡ slice_index ls k) = elim c.if-labels-below.branch [
      | then-labels-below w ↦ (w.if-labels-below.true, eqb-true _ _ (sym w.value-is ∙ c.if-labels-below-2.true))
      | else-labels-below w ↦ absurd (false≢true (sym w.if-labels-below.false ∙ (sym w.value-is ∙ c.if-labels-below-2.true)))
    ] in
    let second : (slice_index ls (k + 1) ≡ slice_index ls k) × (slice_index ls (k + f.columns - 1) ≡ slice_index ls k) = elim c.if-labels-place.branch [
      | then-labels-place w ↦ (w.if-labels-place.true, eqb-true _ _ (sym w.value-is ∙ third.0))
      | else-labels-place w ↦ absurd (w.if-labels-place.false (eqb-true _ _ (sym w.value-is ∙ third.0)))
    ] in
    OnTrue_from _ (IsAlone f ls c.args.at) (λ e. alone-from f ls c.args.at c.requires.at k refl left inside second.0 second.1 third.1 (eqb-true _ _ e))
