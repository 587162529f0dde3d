use Rattle.std.proofs.Common.{◌≡◌, Bool, true, false, sym, subst, ◌∙◌}
use Rattle.hd_map.specs.declared.types.Cell.{Cell}
use Rattle.hd_map.specs.declared.types.DataType.{DataType}
use Rattle.hd_map.specs.Map.{IsCellOf, cell_at, mask_at}
use Rattle.hd_edit.specs.declared.stroke.Stroke.{Stroke}
use Rattle.hd_edit.specs.declared.stroke.Effect.TheVariants as effect
use Rattle.hd_edit.specs.Stroke.{HasEffect, cell_after, changes}
use Rattle.hd_edit.proofs.Changes.{IsCellOf-cell_at}
use Rattle.hd_edit.proofs.StrokeChanges.{changes-none, changes-mask}
use Rattle.hd_edit.proofs.paint.changes_point.Goals as goal

-- what was read at the point is what stands there
pub effect_of-requires : goal.effect_of-requires
effect_of-requires g c = rw (c.cell.ensures, c.data_type.ensures) (IsCellOf-cell_at (g.G.Heights.map c.args.grid.now) (g.met.G.Heights.whole c.args.grid.now) c.args.at c.requires)

-- the facts of a point, read or as it stands
module _ (t t' : DataType) (s : Stroke) (cell cell' : Cell) (masked masked' : Bool) (type_is : t ≡ t') (cell_is : cell ≡ cell') (mask_is : masked ≡ masked') where
  nothing : HasEffect t s cell masked effect.Nothing → IsCellOf t' cell' → (false ≡ changes s cell' masked') × IsCellOf t' (cell_after s cell' masked')
  nothing is of =
      let e = rw (cell_is, mask_is) at is in
      (changes-none s cell' masked' e.0 e.1, subst (λ (c : Cell). IsCellOf t' c) (sym e.0) of)

  masks : (new : Bool) → HasEffect t s cell masked (effect.Mask new) → IsCellOf t' cell' → (true ≡ changes s cell' masked') × IsCellOf t' (cell_after s cell' masked')
  masks new is of =
      let e = rw (cell_is, mask_is) at is in
      (changes-mask s cell' masked' e.2 (λ same. e.1 (e.0 ∙ same)), subst (λ (c : Cell). IsCellOf t' c) (sym e.2) of)

pub returns-in-Some-Nothing : goal.returns-in-Some-Nothing
returns-in-Some-Nothing g c =
    let m = g.G.Heights.map c.args.grid.now in
    nothing c.data_type.result m.data_type c.args.stroke c.cell.result (cell_at m c.args.at) c.masked.result (mask_at m c.args.at) c.data_type.ensures c.cell.ensures c.masked.ensures
    (rw c.in-Some-Nothing.field-0-is at c.in-Some-Nothing.ensures) (IsCellOf-cell_at m (g.met.G.Heights.whole c.args.grid.now) c.args.at c.requires)

pub returns-in-Some-Mask : goal.returns-in-Some-Mask
returns-in-Some-Mask g c =
    let m = g.G.Heights.map c.args.grid.now in
    masks c.data_type.result m.data_type c.args.stroke c.cell.result (cell_at m c.args.at) c.masked.result
    (mask_at m c.args.at) c.data_type.ensures c.cell.ensures c.masked.ensures c.in-Some-Mask.field-0-0
    (rw c.in-Some-Mask.field-0-is at c.in-Some-Mask.ensures) (IsCellOf-cell_at m (g.met.G.Heights.whole c.args.grid.now) c.args.at c.requires)
