use Rattle.hd_audit.proofs.AreBegun.{AreBegun-points, AreBegun-shown}
use Rattle.std.proofs.Common.{◌≡◌, None, ap, length, replicate, rules}
use Rattle.hd_map.specs.Map.{cell_count}
use Rattle.std.specs.BinaryHeap.{heap_items}
use Rattle.hd_audit.specs.Standings.{seen_of}
use Rattle.hd_audit.proofs.FrontsAtLevel.{IsFront-begin, IsFrontAt-level}
use Rattle.hd_audit.proofs.KeptAlone.{AreNotUndercut-kept, alone-points, alone-in_order}
use Rattle.hd_audit.proofs.listing.shown_lines.Goals as goal

pub list_kept-requires-clause-standing : goal.list_kept-requires-clause-standing
list_kept-requires-clause-standing g c = c.in_ok-standings.ensures.standing g.S.Side.NAME

pub list_kept-requires-clause-points : goal.list_kept-requires-clause-points
list_kept-requires-clause-points g c = alone-points (g.G.Heights.map c.args.grid.now)
    (g.met.G.Heights.whole c.args.grid.now) g.S.Side.NAME c.args.limit.now.percent.thousandths c.args.limit.now.sz c.requires.sz c.args.kept.now c.requires.kept

pub list_kept-requires-clause-in_order : goal.list_kept-requires-clause-in_order
list_kept-requires-clause-in_order g c = alone-in_order (g.G.Heights.map c.args.grid.now)
    (g.met.G.Heights.whole c.args.grid.now) g.S.Side.NAME c.args.limit.now.percent.thousandths c.args.limit.now.sz c.requires.sz c.args.kept.now c.requires.kept

pub list_others-requires-clause-firm : goal.list_others-requires-clause-firm
list_others-requires-clause-firm g c = AreNotUndercut-kept (g.G.Heights.map c.args.grid.now)
    (g.met.G.Heights.whole c.args.grid.now) g.S.Side.NAME c.args.limit.now.percent.thousandths c.args.limit.now.sz c.requires.sz c.args.kept.now c.requires.kept

pub list_others-requires-clause-shown : goal.list_others-requires-clause-shown
list_others-requires-clause-shown g c =
    AreBegun-shown (g.G.Heights.map c.args.grid.now) g.S.Side.NAME c.args.limit.now.percent.thousandths c.args.limit.now.sz c.args.kept.now
    (seen_of c.list_kept.new.standing.items) c.list_kept.new.lines
    (alone-points (g.G.Heights.map c.args.grid.now) (g.met.G.Heights.whole c.args.grid.now) g.S.Side.NAME c.args.limit.now.percent.thousandths c.args.limit.now.sz c.requires.sz
    c.args.kept.now c.requires.kept) c.in_ok-list_kept.ensures.begun

pub spread_kept-requires-clause-front : goal.spread_kept-requires-clause-front
spread_kept-requires-clause-front g c =
    let m = g.G.Heights.map c.args.grid.now in
    let blank : c.in_ok-new.field-0 ≡ replicate (cell_count m.size) None = search rules in
    let empty : length (heap_items c.new-2.result) ≡ 0 = ap length c.new-2.ensures.items in
    IsFront-begin m g.S.Side.NAME c.args.kept.now (length c.args.kept.now) (seen_of c.list_kept.new.standing.items) c.list_kept.new.lines c.in_ok-new.field-0
    (heap_items c.new-2.result) blank empty c.in_ok-list_kept.ensures.begun

pub spread_kept-requires-clause-points : goal.spread_kept-requires-clause-points
spread_kept-requires-clause-points g c =
    AreBegun-points (g.G.Heights.map c.args.grid.now) c.args.kept.now (seen_of c.list_kept.new.standing.items) c.list_kept.new.lines
    (alone-points (g.G.Heights.map c.args.grid.now) (g.met.G.Heights.whole c.args.grid.now) g.S.Side.NAME c.args.limit.now.percent.thousandths c.args.limit.now.sz c.requires.sz
    c.args.kept.now c.requires.kept) c.in_ok-list_kept.ensures.begun

pub list_others-requires-clause-front : goal.list_others-requires-clause-front
list_others-requires-clause-front g c =
    let m = g.G.Heights.map c.args.grid.now in
    let new = c.spread_kept.new.front in
    IsFrontAt-level m g.S.Side.NAME c.list_kept.new.lines (seen_of new.standing.items) new.ahead (heap_items new.low) c.in_ok-spread_kept.ensures.front
