use Rattle.std.proofs.Common.{◌<◌, ◌∙◌, refl, ap, sym, subst, arith, length}
use Rattle.hd_map.specs.declared.types.Cell.{Cell}
use Rattle.hd_map.specs.declared.types.Pos.{Pos}
use Rattle.hd_map.specs.declared.types.Size.{Size}
use Rattle.hd_map.specs.Encoding.{values_of}
use Rattle.hd_map.specs.Map.{InGrid, IsCellOf, cell_at, mask_at, place_of}
use Rattle.hd_map.proofs.Lanes.{value_in}
use Rattle.hd_morph.proofs.Encodings.{number_in-read}
use Rattle.hd_edit.proofs.Changes.{IsCellOf-cell_at}
use Rattle.hd_edit.proofs.ProfileChanges.{AreNotedChanges-none, AreNotedChanges-more, shown_height-told}
use Rattle.hd_edit.proofs.profile.note_told.Goals as goal

pub returns-then-not-fill_heights-clause-notes : goal.returns-then-not-fill_heights-clause-notes
returns-then-not-fill_heights-clause-notes g c =
    AreNotedChanges-none (g.G.Heights.map c.args.grid.now) c.args.y (values_of g.L.Lane.code c.args.new.now) (g.met.G.Heights.whole c.args.grid.now) c.args.notes.now.changes c.requires.notes

pub loop-x-init : goal.loop-x-init
loop-x-init g c = record {
  noted = AreNotedChanges-none (g.G.Heights.map c.args.grid.now) c.args.y (values_of g.L.Lane.code c.args.new.now) (g.met.G.Heights.whole c.args.grid.now) c.args.notes.now.changes c.requires.notes;
  room = refl;
}

pub note_number-requires-clause-of_type : goal.note_number-requires-clause-of_type
note_number-requires-clause-of_type g c =
    let m = g.G.Heights.map c.args.grid.now in
    let at : Pos = record { x = c.loop-x.x; y = c.args.y } in
    let inside : InGrid m.size at = record { column = omega (arith, c.loop-x-test.true, c.requires.columns); profile = c.requires.profile } in
    let heights = c.if-not-fill_heights.ensures.row in
    let below : c.loop-x.x < length c.fill_heights.new.row = omega (arith, heights.whole, inside.column) in
    let read = number_in-read g.L.Lane.code c.fill_heights.new.row c.loop-x.x c.index-row-x.result below c.index-row-x.is in
    let shown = ap g.L.Lane.code.shown read ∙ (heights.each c.loop-x.x inside.column).is in
    λ z is. rw c.data_type-data_type.ensures (subst (λ (cell : Cell). IsCellOf m.data_type cell) (shown_height-told (cell_at m at) (mask_at m at) z (sym shown ∙ is))
    (IsCellOf-cell_at m (g.met.G.Heights.whole c.args.grid.now) at inside))

pub loop-x-preserved : goal.loop-x-preserved
loop-x-preserved g c =
    let m = g.G.Heights.map c.args.grid.now in
    let at : Pos = record { x = c.loop-x.x; y = c.args.y } in
    let inside : InGrid m.size at = record { column = omega (arith, c.loop-x-test.true, c.requires.columns); profile = c.requires.profile } in
    let heights = c.if-not-fill_heights.ensures.row in
    let below : c.loop-x.x < length c.fill_heights.new.row = omega (arith, heights.whole, inside.column) in
    let read = number_in-read g.L.Lane.code c.fill_heights.new.row c.loop-x.x c.index-row-x.result below c.index-row-x.is in
    let shown = ap g.L.Lane.code.shown read ∙ (heights.each c.loop-x.x inside.column).is in
    let new = value_in g.L.Lane.code c.args.new.now c.loop-x.x c.index-new-x.result c.loop-x-test.true c.index-new-x.is in
    let noted = c.if-not-note_number.ensures.told (cell_at m at) (λ z is. shown_height-told (cell_at m at) (mask_at m at) z (sym shown ∙ is)) in
    record {
      noted = AreNotedChanges-more m c.args.y (values_of g.L.Lane.code c.args.new.now)
          (g.met.G.Heights.whole c.args.grid.now) c.loop-x.x inside m c.loop-x.x c.args.notes.now.changes c.loop-x.notes.changes c.note_number.new.notes.changes
          c.data_type-data_type.result _ _ refl refl c.data_type-data_type.ensures (ap (λ (s : Size). place_of s at) c.size.ensures) new c.loop-x.invariant.noted noted;
      room = c.note_number.ensures.room ∙ c.loop-x.invariant.room;
    }
