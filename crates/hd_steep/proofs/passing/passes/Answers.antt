use Rattle.std.proofs.Common.{◌≡◌, ◌<◌, ◌∙◌, ℕ, List, length, map, ap, sym, subst, arith}
use Rattle.std.specs.Prelude.{All, AllPairs}
use Rattle.std.proofs.lemmas.List.{length-map}
use Rattle.hd_map.specs.declared.types.Pass.{Pass}
use Rattle.hd_map.specs.Map.{Map}
use Rattle.hd_map.specs.Passes.{ArePassesUnder}
use Rattle.hd_steep.specs.declared.border.Border.{Border}
use Rattle.hd_steep.specs.Borders.{AreBorders}
use Rattle.hd_steep.specs.Passes.{ComesFirst, HasPoints, pass_of_border, place_of_label}
use Rattle.hd_steep.proofs.BorderPasses.{borders-points, passes-all, passes-ordered, places-within}
use Rattle.hd_steep.proofs.passing.passes.Given.{Over}
use Rattle.hd_steep.proofs.passing.passes.Goals as goal
use Rattle.hd_steep.proofs.passing.passes.Goals.{In_ok-borders, In_ok-passes}

pub borders_of-requires-clause-within : goal.borders_of-requires-clause-within
borders_of-requires-clause-within g c =
    let placed : c.in_ok-places.places.items ≡ map place_of_label c.args.labels.now = c.in_ok-places.ensures ∙ ap (map place_of_label) c.as_slice.ensures in
    let long : length c.args.labels.now ≡ c.len.result = omega (arith, c.len.ensures, c.in_ok-places.places.ok.0, ap (length {A = ℕ}) placed, length-map c.args.labels.now place_of_label) in
    subst (λ (ps : List ℕ). All (λ p. p < c.len.result) ps) (sym (c.deref.ensures.value ∙ placed))
    (subst (λ n. All (λ p. p < n) (map place_of_label c.args.labels.now)) long
    (places-within (g.G.Heights.map c.args.grid.now) g.S.Side.NAME (g.met.G.Heights.whole c.args.grid.now) c.args.labels.now c.requires))

-- the borders lie between the places of the labels
bordered : (g : Over) (c : In_ok-borders g) → AreBorders (g.G.Heights.map c.args.grid.now) g.S.Side.NAME (map place_of_label c.args.labels.now) c.in_ok-borders.borders.items
bordered g c = subst (λ (ps : List ℕ). AreBorders (g.G.Heights.map c.args.grid.now) g.S.Side.NAME ps c.in_ok-borders.borders.items)
    (c.deref.ensures.value ∙ c.in_ok-places.ensures ∙ ap (map place_of_label) c.as_slice.ensures) c.in_ok-borders.ensures

pub list_passes-requires : goal.list_passes-requires
list_passes-requires g c = subst (λ (ls : List Border). All (HasPoints (g.G.Heights.map c.args.grid.now)) ls) (sym c.deref-2.ensures.value)
    (borders-points (g.G.Heights.map c.args.grid.now) g.S.Side.NAME (g.met.G.Heights.whole c.args.grid.now) c.args.labels.now c.requires c.in_ok-borders.borders.items
    (bordered g (goal.at.list_passes-requires g c).In_ok-borders))

-- the passes are those of the borders
listed : (g : Over) (c : In_ok-passes g) → c.in_ok-passes.passes ≡ map (pass_of_border (g.G.Heights.map c.args.grid.now) g.S.Side.NAME) c.in_ok-borders.borders.items
listed g c = c.in_ok-passes.ensures ∙ ap (map (pass_of_border (g.G.Heights.map c.args.grid.now) g.S.Side.NAME)) c.deref-2.ensures.value

pub returns-clause-passes : goal.returns-clause-passes
returns-clause-passes g c =
    let m : Map = g.G.Heights.map c.args.grid.now in
    subst (λ (ps : List Pass). ArePassesUnder m g.S.Side.NAME c.args.labels.now ps) (sym (listed g (goal.at.returns-clause-passes g c).In_ok-passes))
    (passes-all m g.S.Side.NAME (g.met.G.Heights.whole c.args.grid.now) c.args.labels.now c.requires c.in_ok-borders.borders.items (bordered g (goal.at.returns-clause-passes g c).In_ok-borders))

pub returns-clause-ordered : goal.returns-clause-ordered
returns-clause-ordered g c =
    let m : Map = g.G.Heights.map c.args.grid.now in
    subst (λ (ps : List Pass). AllPairs ComesFirst ps) (sym (listed g (goal.at.returns-clause-ordered g c).In_ok-passes))
    (passes-ordered m g.S.Side.NAME (g.met.G.Heights.whole c.args.grid.now) c.args.labels.now c.requires c.in_ok-borders.borders.items (bordered g (goal.at.returns-clause-ordered g c).In_ok-borders))
