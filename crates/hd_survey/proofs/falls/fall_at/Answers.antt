use Rattle.std.proofs.Common.{◌<◌, length, arith}
use Rattle.hd_survey.specs.Falls.{ranks_of}
use Rattle.hd_survey.proofs.LowerRanks.{lower_none, lower_point, lower_some, none_past, rank_at_place, rank_of_place}
use Rattle.hd_survey.proofs.falls.fall_at.Goals as goal

pub returns-then-k-len : goal.returns-then-k-len
returns-then-k-len g c =
    let items = c.args.lower.now.items in
    lower_none (g.G.Heights.map c.args.grid.now) g.S.Side.NAME c.requires.regions.0 c.requires.regions.1 c.args.«_saddle» (ranks_of items) c.requires.each c.requires.in_order c.args.k
    (none_past items c.args.k (omega (arith, c.len.ensures.value, c.if-k-len.true)))

pub root_of-root-requires-clause-point : goal.root_of-root-requires-clause-point
root_of-root-requires-clause-point g c =
    let items = c.args.lower.now.items in
    let inside : c.args.k < length items = omega (arith, c.len.ensures.value, c.if-k-len.false) in
    lower_point (g.G.Heights.map c.args.grid.now) g.S.Side.NAME c.requires.regions.0 c.requires.regions.1 c.args.«_saddle» (ranks_of items) c.requires.each c.requires.in_order _
    (rank_of_place items c.deref.result.now c.args.k _ c.deref.ensures inside)

pub returns : goal.returns
returns g c =
    let m = g.G.Heights.map c.args.grid.now in
    let side = g.S.Side.NAME in
    let items = c.args.lower.now.items in
    let inside : c.args.k < length items = omega (arith, c.len.ensures.value, c.if-k-len.false) in
    let point = lower_point m side c.requires.regions.0 c.requires.regions.1 c.args.«_saddle» (ranks_of items) c.requires.each c.requires.in_order _
    (rank_of_place items c.deref.result.now c.args.k _ c.deref.ensures inside) in
    lower_some m side c.requires.regions.0 c.requires.regions.1 c.args.«_saddle» (ranks_of items) c.requires.each c.requires.in_order c.args.k _ c.root_of-root.result
    (rank_at_place items c.deref.result.now c.args.k _ c.deref.ensures inside) c.root_of-root.ensures point
