use Rattle.std.proofs.Common.{◌≡◌, ℕ, length, refl, subst, arith}
use Rattle.std.proofs.lemmas.Bool.{OnTrue_at}
use Rattle.hd_basin.specs.Inside.{AreMet, place_of_frame}
use Rattle.hd_basin.proofs.AreMet.{met-by, met-place}
use Rattle.hd_basin.proofs.inside.meet_point.Goals as goal

pub returns-then-is_alone : goal.returns-then-is_alone
returns-then-is_alone g c =
    let m = g.G.Heights.map c.args.grid.now in
    met-by m g.S.Side.NAME c.args.plot.area c.args.labels.now (length c.args._nodes.now)
    (place_of_frame c.args.plot.area c.args.at) c.args.at c.requires.at refl c.args.meetings.now.lasts.items c.args.meetings.now.list.items
    (OnTrue_at c.if-is_alone.true c.is_alone.ensures) c.requires.before

pub returns : goal.returns
returns g c =
    let m = g.G.Heights.map c.args.grid.now in
    let side = g.S.Side.NAME in
    let count : ℕ = length c.args._nodes.now in
    let k : ℕ = place_of_frame c.args.plot.area c.args.at in
    let lasts = c.loop-step.meetings.lasts.items in
    let list = c.loop-step.meetings.list.items in
    let done : c.loop-step.step ≡ 4 = omega arith in
    met-place m side c.args.plot.area c.args.labels.now count k lasts list (subst (λ (s : ℕ). AreMet m side c.args.plot.area c.args.labels.now count k s lasts list) done c.loop-step.invariant)
