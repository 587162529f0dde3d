use Rattle.std.proofs.Common.{◌≡◌, ◌<◌, ◌*◌, ℕ, List, Option, Some, length, map, slice_get, sym, ◌∙◌, ap, subst, arith}
use Rattle.hd_basin.specs.declared.meetings.Meeting.{Meeting}
use Rattle.hd_basin.specs.declared.part.Join.{Join}
use Rattle.hd_basin.specs.Built.{HasPasses}
use Rattle.hd_basin.specs.Inside.{AreMet, join_of}
use Rattle.hd_basin.specs.Parts.{JoinBelow, pass_named}
use Rattle.hd_basin.specs.Meetings.{AreChained}
use Rattle.hd_map.proofs.Items.{Contains-map}
use Rattle.hd_basin.proofs.FlatLists.{Contains-at}
use Rattle.hd_basin.proofs.AreMet.{met-none, passes-all}
use Rattle.hd_basin.proofs.inside.passes_inside.Goals as goal

pub loop-row-init : goal.loop-row-init
loop-row-init g c =
    let m = g.G.Heights.map c.args.grid.now in
    let side = g.S.Side.NAME in
    let count : ℕ = length c.args.nodes.now in
    let made = c.in_ok-meetings.ensures in
    let lasts : List (Option ℕ) = c.in_ok-meetings.meetings.lasts.items in
    let list : List Meeting = c.in_ok-meetings.meetings.list.items in
    let start = met-none m side c.args.plot.area c.args.labels.now count lasts (subst (AreChained lasts) made.none made.chained) made.count in
    let first : AreMet m side c.args.plot.area c.args.labels.now count 0 0 lasts list = subst (AreMet m side c.args.plot.area c.args.labels.now count 0 0 lasts) (sym made.none) start in
    let zero : 0 ≡ 0 * c.args.plot.area.columns = omega arith in
    subst (λ (k : ℕ). AreMet m side c.args.plot.area c.args.labels.now count k 0 lasts list) zero first

pub returns-clause-passes : goal.returns-clause-passes
returns-clause-passes g c =
    let m = g.G.Heights.map c.args.grid.now in
    let side = g.S.Side.NAME in
    let f = c.args.plot.area in
    let count : ℕ = length c.args.nodes.now in
    let lasts : List (Option ℕ) = c.loop-row.meetings.lasts.items in
    let list : List Meeting = c.loop-row.meetings.list.items in
    let least = c.args.plot.tiling.tile_side.least in
    let done : c.loop-row.row * f.columns ≡ f.columns * f.rows = (let e : c.loop-row.row ≡ f.rows = omega arith in subst (λ (r : ℕ). r * f.columns ≡ f.columns * f.rows) (sym e) (omega arith)) in
    let all : AreMet m side f c.args.labels.now count (f.columns * f.rows) 0 lasts list = subst (λ (k : ℕ). AreMet m side f c.args.labels.now count k 0 lasts list) done c.loop-row.invariant in
    let joins : c.in_ok-joins.joins ≡ map join_of list = c.in_ok-joins.ensures ∙ ap (map join_of) c.as_slice.ensures.value in
    subst (λ (js : List Join). HasPasses m side c.args.plot.tiling.side c.args.plot.tile (map (pass_named c.args.nodes.now) js)) (sym joins)
    (passes-all m side c.args.plot.tiling.side c.args.plot.tile f (omega (arith, least)) c.requires.area c.args.nodes.now c.args.labels.now c.requires.named list all.kept)

-- the numbers of the meetings are those of nodes
below : (list : List Meeting) (count : ℕ) → ((i : ℕ) (x : Meeting) → slice_get list i ≡ Some x → (x.a < count) × (x.b < count)) → JoinBelow count (map join_of list)
below list count each j has =
    let x = Contains-map join_of list j has in
    let i = Contains-at list x.0 x.1 in
    subst (λ (y : Join). (y.a < count) × (y.b < count)) x.2 (each i.0 x.0 i.1)

pub returns-clause-named : goal.returns-clause-named
returns-clause-named g c =
    let count : ℕ = length c.args.nodes.now in
    let list : List Meeting = c.loop-row.meetings.list.items in
    let kept = c.loop-row.invariant.kept in
    let joins : c.in_ok-joins.joins ≡ map join_of list = c.in_ok-joins.ensures ∙ ap (map join_of) c.as_slice.ensures.value in
    subst (JoinBelow count) (sym joins) (below list count (λ i x at. (let pair = (kept.each i x at).pair in let less = pair.less in let few = pair.few in (omega (arith, less, few), few))))
