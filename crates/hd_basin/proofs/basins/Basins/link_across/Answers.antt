use Rattle.std.proofs.Common.{◌≡◌, ◌+◌, ◌++◌, [], ◌∙◌, ℕ, List, Some, ap, get_or, inl, inr, refl, slice_get, subst, sym, take}
use Rattle.std.specs.Prelude.{Contains, pos}
use Rattle.std.specs.List.{flat_map}
use Rattle.std.proofs.lemmas.List.{take_all}
use Rattle.std.proofs.lemmas.List.Elements.{Contains-get_or}
use Rattle.std.proofs.lemmas.Option.{same_Some}
use Rattle.hd_map.specs.declared.types.Pass.{Pass}
use Rattle.hd_basin.specs.declared.part.Part.{Part}
use Rattle.hd_basin.specs.declared.part.Seam.{Seam}
use Rattle.hd_basin.specs.Between.{AddsLinks, EndInNodes}
use Rattle.hd_basin.specs.Graph.{pass_of}
use Rattle.hd_basin.specs.Parts.{IsSound, JoinsNodes, Pool}
use Rattle.hd_basin.proofs.BetweenRoots.{adds-more}
use Rattle.hd_basin.proofs.FlatLists.{flat-more}
use Rattle.hd_basin.proofs.ListedOnce.{live-part}
use Rattle.hd_basin.proofs.basins.Basins.link_across.Goals as goal

-- a seam that is not void is between two nodes
between-nodes : (pool : Pool) (tile : ℕ) (part : Part) (seam : Seam) → IsSound pool → slice_get pool.parts tile ≡ Some part → Contains part.seams seam → EndInNodes pool.parts seam
between-nodes pool tile part seam sound at has seen =
    let live = live-part (slice_get pool.parts seam.with) seam.stamp seen in
    let j : JoinsNodes pool.parts tile seam = sound.joined tile part live.0 seam at has live.1 live.2 in
    elim j.between [
      | inl e ↦ ((tile, j.own, j.own_has, ap (λ (p : Pass). p.a) (sym e)), (seam.with, j.other, j.other_has, ap (λ (p : Pass). p.b) (sym e)))
      | inr e ↦ ((seam.with, j.other, j.other_has, ap (λ (p : Pass). p.a) (sym e)), (tile, j.own, j.own_has, ap (λ (p : Pass). p.b) (sym e)))
    ]

pub link_seam-requires-clause-ends : goal.link_seam-requires-clause-ends
link_seam-requires-clause-ends g c =
    let pool = c.args.self.now in
    let part = c.part-part.result in
    let none : Seam = record { pass = record { a = record { height = pos 0; index = 0 }; b = record { height = pos 0; index = 0 }; at = record { height = pos 0; index = 0 } }; with = 0; stamp = 0 } in
    let at : slice_get pool.parts c.args.tile ≡ Some part = ap (λ (p : Pool). slice_get p.parts c.args.tile) (sym c.self.view_is) ∙ c.part-part.ensures in
    let seams : List Seam = c.seams-seams.result.now in
    between-nodes pool c.args.tile part (get_or seams c.seams.seam-index none) (subst IsSound c.self.view_is c.self.invariant) at
    (subst (λ (ss : List Seam). Contains ss (get_or seams c.seams.seam-index none)) c.seams-seams.ensures (Contains-get_or seams c.seams.seam-index none c.seams-test.true))

pub seams-preserved : goal.seams-preserved
seams-preserved g c =
    let side = g.S.Side.NAME in
    let pool = c.args.self.now in
    let pits = c.args.roots.now.pits in
    let none : Seam = record { pass = record { a = record { height = pos 0; index = 0 }; b = record { height = pos 0; index = 0 }; at = record { height = pos 0; index = 0 } }; with = 0; stamp = 0 } in
    let seams : List Seam = c.seams-seams.result.now in
    let k = c.seams.seam-index in
    let before : List Pass = flat_map (pass_of side pool.parts) (take k seams) in
    let one : List Pass = pass_of side pool.parts (get_or seams k none) in
    let more : before ++ one ≡ flat_map (pass_of side pool.parts) (take (k + 1) seams) =
    flat-more (pass_of side pool.parts) [] before (before ++ one) seams k none one c.seams-test.true refl refl refl in
    subst (λ (ps : List Pass). AddsLinks side pool pits ps c.args.links.now.items c.link_seam.new.links.items) more
    (adds-more side pool pits before one c.args.links.now.items c.seams.links.items c.link_seam.new.links.items c.seams.invariant c.in_ok-link_seam.ensures)

pub returns : goal.returns
returns g c = λ part at. (
    let side = g.S.Side.NAME in
    let pool = c.args.self.now in
    let pits = c.args.roots.now.pits in
    let here : slice_get pool.parts c.args.tile ≡ Some c.part-part.result = ap (λ (p : Pool). slice_get p.parts c.args.tile) (sym c.self.view_is) ∙ c.part-part.ensures in
    let all : take c.seams.seam-index c.seams-seams.result.now ≡ part.seams = take_all c.seams.seam-index c.seams-seams.result.now c.seams-test.false ∙ c.seams-seams.ensures
    ∙ ap (λ (p : Part). p.seams) (same_Some c.part-part.result part (sym here ∙ at)) in
    subst (λ (ss : List Seam). AddsLinks side pool pits (flat_map (pass_of side pool.parts) ss) c.args.links.now.items c.seams.links.items) all c.seams.invariant)
