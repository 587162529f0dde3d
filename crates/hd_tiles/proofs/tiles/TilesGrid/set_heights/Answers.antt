use Rattle.std.proofs.Common.{◌+◌, refl, ap, arith}
use Rattle.hd_map.specs.declared.types.Size.{Size}
use Rattle.hd_map.specs.Encoding.{values_of}
use Rattle.hd_map.specs.Map.{Map}
use Rattle.hd_tiles.specs.Profile.{IsRoundChange}
use Rattle.hd_tiles.proofs.ComesFrom.{with_heights-stands, ComesFrom-profile, SomeChanges-differs, TouchesProfile-profile}
use Rattle.hd_tiles.proofs.Profiles.{AllStay-none_round}
use Rattle.hd_tiles.proofs.Stamping.{AreStamped-nowhere}
use Rattle.hd_tiles.proofs.tiles.TilesGrid.set_heights.Goals as goal

pub returns-then-touch_changes-clause-origin : goal.returns-then-touch_changes-clause-origin
returns-then-touch_changes-clause-origin g c =
    let s = c.args.self.now in
    let m : Map = g.G.Heights.map s.grid in
    ComesFrom-profile m (g.G.Heights.map c.set_heights.new.self) s.tiling.side s.changes s.stamps.items c.touch_changes.new.stamps.items s.numbered (g.met.G.Heights.whole s.grid)
    c.args.y (values_of g.L.Lane.code c.args.row.now) s.tiling.size.points (ap (λ (z : Size). z.points) s.same_size) c.set_heights.ensures.sets c.touch_changes.ensures.stamped

pub returns-then-touch_changes-clause-count : goal.returns-then-touch_changes-clause-count
returns-then-touch_changes-clause-count g c =
    let s = c.args.self.now in
    let m : Map = g.G.Heights.map s.grid in
    let differs = SomeChanges-differs m (g.G.Heights.map c.set_heights.new.self) s.tiling.side s.changes s.stamps.items c.touch_changes.new.stamps.items s.numbered (g.met.G.Heights.whole s.grid)
    c.args.y (values_of g.L.Lane.code c.args.row.now) s.tiling.size.points (ap (λ (z : Size). z.points) s.same_size) c.set_heights.ensures.sets c.touch_changes.ensures.stamped
    c.requires.profile c.if-touch_changes.ensures.some in
    record { later = omega arith; once = omega arith; unchanged = λ e. absurd (differs e) }

pub returns-then-touch_changes-clause-touched : goal.returns-then-touch_changes-clause-touched
returns-then-touch_changes-clause-touched g c =
    let s = c.args.self.now in
    let m : Map = g.G.Heights.map s.grid in
    TouchesProfile-profile m (g.G.Heights.map c.set_heights.new.self) s.tiling.side s.changes s.stamps.items c.touch_changes.new.stamps.items s.numbered (g.met.G.Heights.whole s.grid)
    c.args.y (values_of g.L.Lane.code c.args.row.now) s.tiling.size.points (ap (λ (z : Size). z.points) s.same_size) c.set_heights.ensures.sets c.touch_changes.ensures.stamped
    c.requires.profile c.if-touch_changes.ensures.some

pub returns-else-touch_changes-clause-sets : goal.returns-else-touch_changes-clause-sets
returns-else-touch_changes-clause-sets g c =
    let s = c.args.self.now in
    with_heights-stands (g.G.Heights.map s.grid) c.args.y (values_of g.L.Lane.code c.args.row.now) s.tiling.size.points (g.met.G.Heights.whole s.grid)
    (ap (λ (z : Size). z.points) s.same_size) c.if-touch_changes.ensures.none

pub returns-else-touch_changes-clause-touched : goal.returns-else-touch_changes-clause-touched
returns-else-touch_changes-clause-touched g c =
    let s = c.args.self.now in
    let m : Map = g.G.Heights.map s.grid in
    let heights = values_of g.L.Lane.code c.args.row.now in
    let points = s.tiling.size.points in
    let same = AreStamped-nowhere (s.changes + 1) (IsRoundChange m c.args.y heights s.tiling.side 0 points) s.stamps.items c.touch_changes.new.stamps.items c.touch_changes.ensures.stamped
    (λ tile. AllStay-none_round m c.args.y heights s.tiling.side 0 points tile c.if-touch_changes.ensures.none) in
    record { same = λ e. same; counted = λ other. absurd (other refl); changed = λ other. absurd (other refl) }
