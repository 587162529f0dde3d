use Rattle.std.proofs.Common.{◌≡◌, ◌+◌, ◌-◌, ◌*◌, ◌∙◌, None, ap, refl, sym, subst, SFits, w64, rules, arith}
use Rattle.std.proofs.lemmas.Int.{to_z-of_z}
use Rattle.std.proofs.lemmas.List.{get_or_default}
use Rattle.hd_map.specs.Encoding.{number_in}
use Rattle.hd_map.specs.Map.{position_at}
use Rattle.hd_map.specs.Rank.{rank}
use Rattle.hd_map.proofs.Points.{rank_position}
use Rattle.hd_steep.specs.Keys.{IsKey, on_side}
use Rattle.hd_steep.proofs.Keys.{on_side-none, on_side-twice}
use Rattle.hd_steep.proofs.ShownKeys.{none_absent, rank_read}
use Rattle.hd_steep.proofs.crossing.higher_end.Given.{Over}
use Rattle.hd_steep.proofs.crossing.higher_end.Goals as goal
use Rattle.hd_steep.proofs.crossing.higher_end.Goals.{After-index}

module _ (g : Over) (c : After-index g) where
  -- the index of the point
  from : c.args.descent.from ≡ c.args.level.now.first + c.requires.descent.at.x
  from =
      let m = g.G.Heights.map c.args._grid.now in
      let d = c.requires.descent in
      let same : c.args._y + 1 - 1 ≡ d.at.y = (let chosen = d.chosen in omega (arith, chosen)) in
      let first : c.args.level.now.first ≡ d.at.y * m.size.points = c.requires.level.first ∙ ap (λ i. i * m.size.points) same in
      let is : c.args.descent.from ≡ d.at.y * m.size.points + d.at.x = d.leads.from_is in
      omega (arith, first, is)

  -- its key
  read : c.index.result.now ≡ number_in g.L.Lane.code c.args.level.now.keys.items (c.requires.descent.at.x + 1)
  read =
      let keys = c.args.level.now.keys.items in
      let place : c.args.descent.from - c.args.level.now.first + 1 ≡ c.requires.descent.at.x + 1 = (let is = from in omega (arith, is)) in
      let inside = c.requires.descent.present.in_grid.column in
      let long = c.requires.level.framed.whole in
      c.index.ensures ∙ get_or_default keys (c.args.descent.from - c.args.level.now.first + 1) c.index.result.now g.L.Lane.code.missing (omega (arith, place, inside, long))
      ∙ ap (number_in g.L.Lane.code keys) place

pub height_of-requires : goal.height_of-requires
height_of-requires g c = subst (IsKey g.L.Lane.code) (sym (read g (goal.at.height_of-requires g c).After-index)) (c.requires.level.keys (c.requires.descent.at.x + 1))

pub unreachable-requires : goal.unreachable-requires
unreachable-requires g c =
    let m = g.G.Heights.map c.args._grid.now in
    let side = g.S.Side.NAME in
    let code = g.L.Lane.code in
    let d = c.requires.descent in
    let key = number_in code c.args.level.now.keys.items (d.at.x + 1) in
    let none : on_side side (code.shown key) ≡ None = ap (λ k. on_side side (code.shown k)) (sym (read g (goal.at.unreachable-requires g c).After-index)) ∙ sym c.height_of.ensures ∙ c.in-None.is in
    none_absent m side (g.met.G.Heights.whole c.args._grid.now) code (c.args._y + 1) c.args.level.now c.requires.level d.at d.present.in_grid (ap (λ i. i + 1) d.chosen)
    (sym (on_side-twice side (code.shown key)) ∙ ap (on_side side) none ∙ on_side-none side) d.present

pub returns : goal.returns
returns g c =
    let m = g.G.Heights.map c.args._grid.now in
    let side = g.S.Side.NAME in
    let code = g.L.Lane.code in
    let d = c.requires.descent in
    let h = c.in-Some.height in
    let before = (goal.at.returns g c).After-index in
    let fits : SFits w64 h = search rules in
    let shown = ap (λ k. on_side side (code.shown k)) (sym (read g before)) ∙ sym c.height_of.ensures ∙ c.in-Some.is in
    let is = rank_read m side (g.met.G.Heights.whole c.args._grid.now) code (c.args._y + 1) c.args.level.now c.requires.level d.at d.present.in_grid (ap (λ i. i + 1) d.chosen) h d.present shown in
    rw (to_z-of_z w64 h fits) (ap (λ i. record { height = h; index = i }) (from g before) ∙ sym is
    ∙ ap (rank m) (sym (ap (position_at m.size) d.leads.from_is ∙ rank_position m (rank m d.at) d.at d.present refl)))
