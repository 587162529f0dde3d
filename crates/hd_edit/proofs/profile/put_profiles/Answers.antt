use Rattle.std.proofs.Common.{◌<◌, ◌≤◌, ◌+◌, ◌-◌, ◌*◌, ◌∙◌, List, Option, ℤ, length, take, drop, refl, ap, sym, subst, arith}
use Rattle.std.proofs.lemmas.List.{length-take}
use Rattle.hd_map.specs.declared.types.DataType.{DataType}
use Rattle.hd_map.specs.declared.types.Size.{Size}
use Rattle.hd_map.specs.Encoding.{values_of}
use Rattle.hd_map.specs.Sets.{AreHeightsIn, with_heights}
use Rattle.hd_edit.specs.Profile.{AreNotedChanges}
use Rattle.hd_edit.proofs.FilteredCells.{Noted-first, Noted-next, Noted-type, AreHeightsIn-profile_of, profile_of, profile_of-numbers}
use Rattle.hd_edit.proofs.profile.put_profiles.Goals as goal

pub loop-y-init : goal.loop-y-init
loop-y-init g c = record {
  noted = Noted-first (g.G.Heights.map c.args.grid.now) (values_of g.L.Lane.code c.args.numbers.now) c.args.notes.now.changes (g.met.G.Heights.whole c.args.grid.now) c.requires.none;
  row = refl;
  room = refl;
  origin = g.met.G.Grid.itself c.args.grid.now;
  rises = omega arith;
  few = omega arith;
}

pub set_heights-requires-clause-in_range : goal.set_heights-requires-clause-in_range
set_heights-requires-clause-in_range g c =
    let m = g.G.Heights.map c.args.grid.now in
    let now = g.G.Heights.map c.loop-y.grid in
    let y = c.loop-y.y in
    let heights = values_of g.L.Lane.code c.args.numbers.now in
    let part = profile_of-numbers m heights g.L.Lane.code c.size-size.result c.args.numbers.now y c.size-size.ensures refl in
    let inside : y < m.size.profiles = subst (λ (s : Size). y < s.profiles) c.size-size.ensures c.loop-y-test.true in
    let fits = AreHeightsIn-profile_of m heights y (g.met.G.Heights.whole c.args.grid.now).size.some_points inside c.requires.of_type in
    let typed = subst (λ (t : DataType). AreHeightsIn t (profile_of m heights y)) (sym (Noted-type m heights y now c.loop-y.notes.changes c.loop-y.invariant.noted)) fits in
    subst (λ (hs : List (Option ℤ)). AreHeightsIn now.data_type hs) (sym part) typed

pub loop-y-preserved : goal.loop-y-preserved
loop-y-preserved g c =
    let m = g.G.Heights.map c.args.grid.now in
    let now = g.G.Heights.map c.loop-y.grid in
    let y = c.loop-y.y in
    let heights = values_of g.L.Lane.code c.args.numbers.now in
    let notes = c.loop-y.notes.changes in
    let notes' = c.note_profile.new.notes.changes in
    let so = c.loop-y.invariant.noted in
    let n = c.size-size.result.points in
    let slice = take (y * n + n - y * n) (drop (y * n) c.args.numbers.now) in
    let columns : length slice ≤ m.size.points = let same = ap (λ (s : Size). s.points) c.size-size.ensures in omega (arith, same, length-take (y * n + n - y * n) (drop (y * n) c.args.numbers.now)) in
    let part = profile_of-numbers m heights g.L.Lane.code c.size-size.result c.args.numbers.now y c.size-size.ensures refl in
    let inside : y < m.size.profiles = subst (λ (s : Size). y < s.profiles) c.size-size.ensures c.loop-y-test.true in
    let changes = subst (λ (hs : List (Option ℤ)). AreNotedChanges now (with_heights now y hs) (length slice) notes notes') part c.note_profile.ensures.notes in
    let sets = c.set_heights.ensures.sets ∙ ap (λ (hs : List (Option ℤ)). with_heights now y hs) part in
    record {
      noted = Noted-next m heights y now notes so (g.G.Heights.map c.set_heights.new.self) (length slice) notes' (g.met.G.Heights.whole c.args.grid.now).size.some_points inside columns changes sets;
      row = c.note_profile.auto.row ∙ c.loop-y.invariant.row;
      room = c.note_profile.ensures.room ∙ c.loop-y.invariant.room;
      origin = g.met.G.Grid.onward c.args.grid.now c.loop-y.grid c.set_heights.new.self c.loop-y.invariant.origin c.set_heights.ensures.origin;
      rises = omega (arith, c.loop-y.invariant.rises, c.set_heights.ensures.count.later);
      few = omega (arith, c.loop-y.invariant.few, c.set_heights.ensures.count.once);
    }
