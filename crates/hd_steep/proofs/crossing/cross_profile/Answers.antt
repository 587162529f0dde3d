use Rattle.std.proofs.Common.{◌≡◌, ◌<◌, ◌∷◌, ◌++◌, ℕ, List, [], length, get_or, take, not, nat_eq, refl, subst, arith}
use Rattle.std.specs.Prelude.{if◌then◌else◌}
use Rattle.std.proofs.lemmas.List.{take_all}
use Rattle.std.proofs.lemmas.List.Elements.{All-nil, Contains-get_or}
use Rattle.hd_map.specs.declared.types.Link.{Link}
use Rattle.hd_map.specs.Rank.{rank}
use Rattle.hd_steep.specs.declared.descent.Descent.{Descent}
use Rattle.hd_steep.specs.Crossings.{HasPits}
use Rattle.hd_steep.specs.Descended.{Descends}
use Rattle.hd_steep.specs.Descents.{IsDescent, IsDescentFrom}
use Rattle.hd_steep.specs.Numbering.{roots_of}
use Rattle.hd_steep.specs.Tracing.{TracesAcross}
use Rattle.hd_steep.proofs.Descended.{from_none}
use Rattle.hd_steep.proofs.TracedCrossings.{gathers_traced, traces_from_none, traces_if, traces_more, traces_none, untraced, with_pits}
use Rattle.hd_steep.proofs.crossing.cross_profile.Given.{Over}
use Rattle.hd_steep.proofs.crossing.cross_profile.Goals as goal
use Rattle.hd_steep.proofs.crossing.cross_profile.Goals.{After-descents-descents}

module _ (g : Over) (c : After-descents-descents g) where
  -- the descents are those from the points of the profile
  descends : Descends (g.G.Heights.map c.args.grid.now) g.S.Side.NAME (λ u. u.y ≡ c.args.y) [] c.descents-descents.result.now
  descends = rw c.descents-descents.ensures c.requires.descended.descends

  each : (n : ℕ) (none : Descent) → n < length c.descents-descents.result.now → IsDescentFrom (g.G.Heights.map c.args.grid.now) g.S.Side.NAME (λ u. u.y ≡ c.args.y)
      (get_or c.descents-descents.result.now n none)
  each n none inside = from_none (g.G.Heights.map c.args.grid.now) g.S.Side.NAME (λ u. u.y ≡ c.args.y) c.descents-descents.result.now (get_or c.descents-descents.result.now n none) descends
      (Contains-get_or c.descents-descents.result.now n none inside)

pub crossing_along-crossing-requires-clause-descent : goal.crossing_along-crossing-requires-clause-descent
crossing_along-crossing-requires-clause-descent g c = each g (goal.at.crossing_along-crossing-requires-clause-descent g c).After-descents-descents c.loop-descent.descent-index _
    c.loop-descent-test.true

pub loop-descent-init : goal.loop-descent-init
loop-descent-init g c =
    let m = g.G.Heights.map c.args.grid.now in
    let pits = c.args.regions.now.pits in
    record {
      traces = traces_none m g.S.Side.NAME (untraced pits []);
      pits = All-nil (HasPits pits);
      few = omega arith;
    }

pub loop-descent-preserved : goal.loop-descent-preserved
loop-descent-preserved g c =
    let m = g.G.Heights.map c.args.grid.now in
    let side = g.S.Side.NAME in
    let regions = c.args.regions.now in
    let pits = regions.pits in
    let list = c.descents-descents.result.now in
    let n = c.loop-descent.descent-index in
    let inside = c.loop-descent-test.true in
    let none : Descent = record { from = 0; to = 0 } in
    let d = get_or list n none in
    let of = each g (goal.at.loop-descent-preserved g c).After-descents-descents n none inside in
    let is : IsDescent m side d = record { from = rank m of.at; to = of.to; leads = of.leads } in
    let link = c.crossing_along-crossing.result in
    let along = c.crossing_along-crossing.ensures in
    let keep = not (nat_eq link.a link.b) in
    let before = c.loop-descent.invariant in
    let old = take c.loop-descent.count c.loop-descent.room in
    let new : List Link = if keep then old ++ link ∷ [] else old in
    let one = traces_if m side (untraced pits old) d link keep c.requires.regions.pits is along refl in
    record {
      traces = rw c.put-count.ensures.items (traces_more m side list n none (untraced pits []) (untraced pits old) (untraced pits new) inside before.traces one);
      pits = rw c.put-count.ensures.items (with_pits m side pits old d link keep along before.pits);
      few = (let few = c.put-count.ensures.few in let some = before.few in omega (arith, few, some));
    }

pub returns-clause-crosses : goal.returns-clause-crosses
returns-clause-crosses g c =
    let m = g.G.Heights.map c.args.grid.now in
    let side = g.S.Side.NAME in
    let regions = c.args.regions.now in
    let list = c.descents-descents.result.now in
    let first = untraced regions.pits [] in
    let last = untraced regions.pits (take c.loop-descent.count c.loop-descent.room) in
    let traces = subst (λ (ds : List Descent). TracesAcross m side ds first last) (take_all c.loop-descent.descent-index list c.loop-descent-test.false) c.loop-descent.invariant.traces in
    record {
      gathers = gathers_traced m side (g.met.G.Heights.whole c.args.grid.now) (roots_of regions) c.requires.regions.roots last (λ u. u.y ≡ c.args.y) list
          (descends g (goal.at.returns-clause-crosses g c).After-descents-descents)
          (traces_from_none m side list first last refl traces) traces.across;
      pits = c.loop-descent.invariant.pits;
    }
