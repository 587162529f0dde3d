use Rattle.std.proofs.Common.{◌≡◌, take}
use Rattle.hd_map.specs.Encoding.{values_of}
use Rattle.hd_map.specs.Sets.{with_heights}
use Rattle.hd_edit.specs.Profile.{AreNotedChanges}
use Rattle.hd_edit.proofs.profile.note_told.Given as goal

abbrev pub invariant-loop-x : goal.invariant-loop-x
invariant-loop-x g l = let m = g.G.Heights.map l.grid in record {
  noted : AreNotedChanges m (with_heights m l.y (take l.x (values_of g.L.Lane.code l.new))) l.x l.fn.notes.changes l.notes.changes;
  room : l.notes.room ≡ l.fn.notes.room;
}
