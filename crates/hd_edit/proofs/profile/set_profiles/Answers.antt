use Rattle.std.proofs.Common.{◌<◌, ◌*◌, ◌∙◌, List, Option, ℤ, ap, refl, sym, subst, arith}
use Rattle.hd_map.specs.declared.types.DataType.{DataType}
use Rattle.hd_map.specs.declared.types.Size.{Size}
use Rattle.hd_map.specs.Encoding.{values_of}
use Rattle.hd_map.specs.Map.{Map}
use Rattle.hd_map.specs.Sets.{AreHeightsIn, with_heights}
use Rattle.hd_edit.proofs.FilteredCells.{partly_new-none, partly_new-profile, AreHeightsIn-profile_of, profile_of, profile_of-numbers}
use Rattle.hd_edit.proofs.profile.set_profiles.Goals as goal

pub loop-y-init : goal.loop-y-init
loop-y-init g c =
    let m = g.G.Heights.map c.args.grid.now in
    record {
      map = partly_new-none m (values_of g.L.Lane.code c.args.numbers.now) (0 * m.size.points) (omega arith) (g.met.G.Heights.whole c.args.grid.now).cells;
      origin = g.met.G.Grid.itself c.args.grid.now;
      rises = omega arith;
      few = omega arith;
    }

pub set_heights-requires-clause-in_range : goal.set_heights-requires-clause-in_range
set_heights-requires-clause-in_range g c =
    let m = g.G.Heights.map c.args.grid.now in
    let now = g.G.Heights.map c.loop-y.grid in
    let y = c.loop-y.y in
    let heights = values_of g.L.Lane.code c.args.numbers.now in
    let part = profile_of-numbers m heights g.L.Lane.code c.size-size.result c.args.numbers.now y c.size-size.ensures refl in
    let inside : y < m.size.profiles = subst (λ (s : Size). y < s.profiles) c.size-size.ensures c.loop-y-test.true in
    let fits = AreHeightsIn-profile_of m heights y (g.met.G.Heights.whole c.args.grid.now).size.some_points inside c.requires.of_type in
    let typed = subst (λ (t : DataType). AreHeightsIn t (profile_of m heights y)) (sym (ap (λ (n : Map). n.data_type) c.loop-y.invariant.map)) fits in
    subst (λ (hs : List (Option ℤ)). AreHeightsIn now.data_type hs) (sym part) typed

pub loop-y-preserved : goal.loop-y-preserved
loop-y-preserved g c =
    let m = g.G.Heights.map c.args.grid.now in
    let now = g.G.Heights.map c.loop-y.grid in
    let y = c.loop-y.y in
    let heights = values_of g.L.Lane.code c.args.numbers.now in
    let part = profile_of-numbers m heights g.L.Lane.code c.size-size.result c.args.numbers.now y c.size-size.ensures refl in
    let inside : y < m.size.profiles = subst (λ (s : Size). y < s.profiles) c.size-size.ensures c.loop-y-test.true in
    record {
      map = c.set_heights.ensures.sets ∙ ap (λ (hs : List (Option ℤ)). with_heights now y hs) part ∙ ap (λ (n : Map). with_heights n y (profile_of m heights y)) c.loop-y.invariant.map
          ∙ partly_new-profile m heights y (g.met.G.Heights.whole c.args.grid.now).size.some_points inside;
      origin = g.met.G.Grid.onward c.args.grid.now c.loop-y.grid c.set_heights.new.self c.loop-y.invariant.origin c.set_heights.ensures.origin;
      rises = omega (arith, c.loop-y.invariant.rises, c.set_heights.ensures.count.later);
      few = omega (arith, c.loop-y.invariant.few, c.set_heights.ensures.count.once);
    }
