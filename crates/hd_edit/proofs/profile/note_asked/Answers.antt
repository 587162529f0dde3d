use Rattle.std.proofs.Common.{◌≡◌, ◌+◌, ◌-◌, ◌∙◌, ℕ, refl, ap, subst, arith, take}
use Rattle.hd_map.specs.declared.types.Pos.{Pos}
use Rattle.hd_map.specs.declared.types.Size.{Size}
use Rattle.hd_map.specs.Encoding.{values_of}
use Rattle.hd_map.specs.Map.{InGrid, place_of}
use Rattle.hd_map.specs.Sets.{with_heights}
use Rattle.hd_map.proofs.Lanes.{value_in}
use Rattle.hd_edit.specs.Profile.{AreNotedChanges}
use Rattle.hd_edit.proofs.ProfileChanges.{AreNotedChanges-more}
use Rattle.hd_edit.proofs.profile.note_asked.Goals as goal

pub loop-x-preserved : goal.loop-x-preserved
loop-x-preserved g c =
    let m = g.G.Heights.map c.args.grid.now in
    let y = c.args.y in
    let x = c.loop-x.x in
    let at : Pos = record { x = x; y = y } in
    let heights = values_of g.L.Lane.code c.args.new.now in
    let old = with_heights m y (take c.args.from heights) in
    let inside : InGrid m.size at = record { column = omega (arith, c.loop-x-test.true, c.requires.columns); profile = c.requires.profile } in
    let new = value_in g.L.Lane.code c.args.new.now x c.index-new-x.result c.loop-x-test.true c.index-new-x.is in
    let most : x - c.args.from + 1 ≡ x + 1 - c.args.from = omega (arith, c.loop-x.auto.x) in
    record {
      noted = subst (λ (n : ℕ). AreNotedChanges old (with_heights m y (take (x + 1) heights)) n c.args.notes.now.changes c.note_cell.new.notes.changes) most
          (AreNotedChanges-more m y heights (g.met.G.Heights.whole c.args.grid.now) x inside old (x - c.args.from) c.args.notes.now.changes c.loop-x.notes.changes c.note_cell.new.notes.changes
          m.data_type _ _ refl refl refl (ap (λ (s : Size). place_of s at) c.size.ensures) new c.loop-x.invariant.noted c.note_cell.ensures.notes);
      room = c.note_cell.ensures.room ∙ c.loop-x.invariant.room;
    }
