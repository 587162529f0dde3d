-- Whether what a stroke does at a point changes it.
use Rattle.std.proofs.Common.{◌≡◌, ◌≢◌, ◌↔◌, IsTrue, Bool, true, false, refl, sym, ap, arith}
use Rattle.std.proofs.lemmas.Bool.{false_from_ne_true}
use Rattle.std.proofs.lemmas.Int.{ints}
use Rattle.hd_map.specs.declared.types.Cell.{Cell}
use Rattle.hd_map.specs.declared.types.Cell.TheVariants.{Height, Bad}
use Rattle.hd_edit.specs.declared.stroke.Stroke.{Stroke}
use Rattle.hd_edit.specs.Stroke.{cell_after, mask_after, same_cell, same_mask, changes}

-- a cell is itself
same_cell-itself : (c : Cell) → same_cell c c ≡ true
same_cell-itself (Height z) = grind (arith, ints)
same_cell-itself Bad = refl

same_mask-itself : (b : Bool) → same_mask b b ≡ true
same_mask-itself true = refl
same_mask-itself false = refl

-- cells that pass the test are one
pub same_cell-true : (a b : Cell) → same_cell a b ≡ true → a ≡ b
same_cell-true (Height x) (Height y) e = let same : x ≡ y = grind (arith, ints) in ap Height same
same_cell-true (Height x) Bad e = cc
same_cell-true Bad (Height y) e = cc
same_cell-true Bad Bad e = refl

-- a test whether two cells are one
pub same_cell-is : (b : Bool) (x y : Cell) → (IsTrue b ↔ (x ≡ y)) → b ≡ same_cell x y
same_cell-is true x y is = rw (is.0 refl) (sym (same_cell-itself y))
same_cell-is false x y is = sym (false_from_ne_true (same_cell x y) (λ same. let e : false ≡ true = is.1 (same_cell-true x y same) in cc))

same_mask-true : (a b : Bool) → same_mask a b ≡ true → a ≡ b
same_mask-true true true e = refl
same_mask-true true false e = cc
same_mask-true false true e = cc
same_mask-true false false e = refl

-- a point whose cell and mask stay is not changed
pub changes-none : (s : Stroke) (cell : Cell) (masked : Bool) → cell_after s cell masked ≡ cell → mask_after s masked ≡ masked → false ≡ changes s cell masked
changes-none s cell masked stays shown = rw (stays, shown, same_cell-itself cell, same_mask-itself masked)

-- a point whose mask becomes another is changed
pub changes-mask : (s : Stroke) (cell : Cell) (masked : Bool) → cell_after s cell masked ≡ cell → mask_after s masked ≢ masked → true ≡ changes s cell masked
changes-mask s cell masked stays other = rw (
  stays,
  same_cell-itself cell,
  false_from_ne_true (same_mask (mask_after s masked) masked)
      (λ same. other (same_mask-true (mask_after s masked) masked same)),
)
