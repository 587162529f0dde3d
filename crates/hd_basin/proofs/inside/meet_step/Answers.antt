use Rattle.std.proofs.Common.{◌≡◌, ℕ, length, inl, inr, refl, sym, ◌∙◌, subst, arith}
use Rattle.hd_basin.proofs.AreMet.{met-outside, met-step}
use Rattle.hd_basin.specs.Inside.{IsPairAt, place_of_frame}
use Rattle.hd_basin.proofs.inside.meet_step.Goals as goal

pub returns-in_default : goal.returns-in_default
returns-in_default g c =
    met-outside (g.G.Heights.map c.args.grid.now) g.S.Side.NAME c.args.plot.area c.args.labels.now (length c.args._nodes.now)
    (place_of_frame c.args.plot.area c.args.at) c.args.step c.args.at c.requires.at refl c.args.meetings.now.lasts.items c.args.meetings.now.list.items c.requires.before
    c.in_default.ensures

pub pair_at-requires-clause-step : goal.pair_at-requires-clause-step
pair_at-requires-clause-step g c = (c.args.step, c.requires.step, c.in-Some.ensures.1)

pub returns-in_default-pair_at : goal.returns-in_default-pair_at
returns-in_default-pair_at g c =
    let old = c.args.meetings.now in
    let count : c.len-count.result ≡ length c.args._nodes.now = (let l = c.len-count.ensures in let n = c.requires.before.count_is in omega (arith, l, n, old.lasts.ok.0)) in
    met-step (g.G.Heights.map c.args.grid.now) g.S.Side.NAME c.args.plot.area c.args.labels.now (length c.args._nodes.now)
    (place_of_frame c.args.plot.area c.args.at) c.args.step c.args.at c.requires.at refl old.lasts.items old.list.items c.requires.before
    c.in-Some.near c.in-Some.ensures.0 c.requires.step c.in-Some.ensures.1 old.lasts.items old.list.items c.requires.before.chained c.requires.before.count_is
    (inl (
      refl,
      λ a b w is. c.in_default-pair_at.ensures a b w (subst (λ (n : ℕ). IsPairAt
          (g.G.Heights.map c.args.grid.now) g.S.Side.NAME c.args.plot.area c.args.labels.now n c.args.at c.in-Some.near a b w) (sym count) is),
    ))

pub note-requires-clause-inside : goal.note-requires-clause-inside
note-requires-clause-inside g c =
    let pair = c.in-Some-pair_at.ensures in
    let less = pair.less in
    let few = pair.few in
    let l = c.len-count.ensures in
    omega (arith, less, few, l, c.args.meetings.now.lasts.ok.0)

pub returns : goal.returns
returns g c =
    let old = c.args.meetings.now in
    let new = c.note.new.self in
    let pair = c.in-Some-pair_at in
    let done = c.in_ok-note.ensures in
    let count : c.len-count.result ≡ length c.args._nodes.now = (let l = c.len-count.ensures in let n = c.requires.before.count_is in omega (arith, l, n, old.lasts.ok.0)) in
    met-step (g.G.Heights.map c.args.grid.now) g.S.Side.NAME c.args.plot.area c.args.labels.now (length c.args._nodes.now)
    (place_of_frame c.args.plot.area c.args.at) c.args.step c.args.at c.requires.at refl old.lasts.items old.list.items c.requires.before
    c.in-Some.near c.in-Some.ensures.0 c.requires.step c.in-Some.ensures.1 new.lasts.items new.list.items done.chained (done.count ∙ c.requires.before.count_is)
    (inr (
      pair.a,
      pair.b,
      pair.higher,
      subst (λ (n : ℕ). IsPairAt (g.G.Heights.map c.args.grid.now) g.S.Side.NAME c.args.plot.area c.args.labels.now n c.args.at c.in-Some.near
          pair.a pair.b pair.higher) count pair.ensures,
      done.notes,
    ))
