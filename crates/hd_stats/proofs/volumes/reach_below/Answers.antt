use Rattle.std.proofs.Common.{◌≡◌, ◌∙◌, Some, None, ap, arith, get_or, pos, subst, sym, slice_get}
use Rattle.std.proofs.lemmas.Option.{slice_get-get_or}
use Rattle.hd_map.specs.declared.types.Size.{Size}
use Rattle.hd_map.specs.Map.{InGrid, place_of}
use Rattle.hd_map.proofs.Points.{point_inside}
use Rattle.hd_prune.specs.declared.step.Kept.{Kept}
use Rattle.hd_stats.proofs.AreReached.{AreBlank-noted, AreReached-more, AreReached-same, rank-pit_low}
use Rattle.hd_stats.proofs.ReachedByKept.{AreNearest, kept-few, AreNearest-kept, pit-listed, pit-read}
use Rattle.hd_stats.proofs.volumes.reach_below.Given.{Over}
use Rattle.hd_stats.proofs.volumes.reach_below.Goals as goal
use Rattle.hd_stats.proofs.volumes.reach_below.Goals.{Start}

nearest : (g : Over) (c : Start g) → AreNearest (g.G.Heights.map c.args.grid.now) g.S.Side.NAME c.args.kept.now
nearest g c = AreNearest-kept (g.G.Heights.map c.args.grid.now) g.S.Side.NAME c.requires.kept.0 c.args.kept.now c.requires.kept.1

-- the kept pit that is read
abbrev one : (g : Over) → Start g → Kept
one g c = get_or c.args.kept.now c.args.number (record { pit = record { height = pos 0; index = 0 }; nearest = None })

one-is : (g : Over) (c : Start g) → slice_get c.args.kept.now c.args.number ≡ Some (one g c)
one-is g c = slice_get-get_or c.args.kept.now c.args.number (record { pit = record { height = pos 0; index = 0 }; nearest = None }) c.requires.number

pub returns-in_default : goal.returns-in_default
returns-in_default g c =
    let at = (goal.at.returns-in_default g c).Start in
    AreReached-same (g.G.Heights.map c.args.grid.now) g.S.Side.NAME (g.met.G.Heights.whole c.args.grid.now) c.args.kept.now
    (nearest g at) c.args.number c.args.reached.now.items c.requires.reached (one g at) (one-is g at) c.in_default.is

pub position_of-from-requires : goal.position_of-from-requires
position_of-from-requires g c =
    let at = (goal.at.position_of-from-requires g c).Start in
    let m = g.G.Heights.map c.args.grid.now in
    let w = nearest g at in
    let pit = w.pits (one g at).pit (pit-listed m g.S.Side.NAME c.args.kept.now w c.args.number (one g at).pit (pit-read m g.S.Side.NAME c.args.kept.now w c.args.number (one g at) (one-is g at))) in
    rw c.size.ensures (point_inside m (one g at).pit pit.point)

pub overflow_cast-first : goal.overflow_cast-first
overflow_cast-first g c =
    let few = kept-few (g.G.Heights.map c.args.grid.now) g.S.Side.NAME c.args.kept.now (nearest g (goal.at.overflow_cast-first g c).Start) (g.met.G.Heights.whole c.args.grid.now) in
    omega (arith, few, c.requires.number)

pub flood-requires-clause-start : goal.flood-requires-clause-start
flood-requires-clause-start g c =
    let m = g.G.Heights.map c.args.grid.now in
    let at = (goal.at.flood-requires-clause-start g c).Start in
    (rank-pit_low m g.S.Side.NAME c.args.kept.now (nearest g at) c.args.number (one g at) c.in-Some.saddle c.position_of-from.result (one-is g at) c.in-Some.is
    (subst (λ (s : Size). InGrid s c.position_of-from.result) c.size.ensures c.position_of-from.ensures.in_grid)
    (ap (λ (s : Size). place_of s c.position_of-from.result) (sym c.size.ensures) ∙ c.position_of-from.ensures.place)).1

pub flood-requires-clause-blank : goal.flood-requires-clause-blank
flood-requires-clause-blank g c =
    let m = g.G.Heights.map c.args.grid.now in
    let at = (goal.at.flood-requires-clause-blank g c).Start in
    let low = rank-pit_low m g.S.Side.NAME c.args.kept.now (nearest g at) c.args.number (one g at) c.in-Some.saddle c.position_of-from.result (one-is g at) c.in-Some.is
    (subst (λ (s : Size). InGrid s c.position_of-from.result) c.size.ensures c.position_of-from.ensures.in_grid)
    (ap (λ (s : Size). place_of s c.position_of-from.result) (sym c.size.ensures) ∙ c.position_of-from.ensures.place) in
    AreBlank-noted m g.S.Side.NAME (g.met.G.Heights.whole c.args.grid.now) c.args.kept.now (nearest g at) c.args.number c.args.reached.now.items c.requires.reached (one g at)
    (one-is g at) c.in-Some.saddle c.in-Some.is c.position_of-from.result low.0 low.1

pub returns : goal.returns
returns g c =
    let m = g.G.Heights.map c.args.grid.now in
    let at = (goal.at.returns g c).Start in
    let low = rank-pit_low m g.S.Side.NAME c.args.kept.now (nearest g at) c.args.number (one g at) c.in-Some.saddle c.position_of-from.result (one-is g at) c.in-Some.is
    (subst (λ (s : Size). InGrid s c.position_of-from.result) c.size.ensures c.position_of-from.ensures.in_grid)
    (ap (λ (s : Size). place_of s c.position_of-from.result) (sym c.size.ensures) ∙ c.position_of-from.ensures.place) in
    AreReached-more m g.S.Side.NAME (g.met.G.Heights.whole c.args.grid.now) c.args.kept.now (nearest g at) c.args.number c.args.reached.now.items c.requires.reached (one g at)
    (one-is g at) c.in-Some.saddle c.in-Some.is c.position_of-from.result low.0 low.1
    c.flood.new.marks.items c.in_ok-flood.ensures
