use Rattle.std.proofs.Common.{◌≡◌, ◌++◌, ◌∙◌, List, ap, map}
use Rattle.std.specs.List.{flat_map}
use Rattle.std.proofs.lemmas.List.{append_assoc}
use Rattle.hd_map.specs.declared.types.Pass.{Pass}
use Rattle.hd_basin.specs.declared.part.Seam.{Seam}
use Rattle.hd_basin.specs.Graph.{in_order, pass_of}
use Rattle.hd_basin.specs.Parts.{inner_passes}
use Rattle.hd_basin.proofs.graph.push_passes.Goals as goal

pub returns : goal.returns
returns g c =
    let side = g.S.Side.NAME in
    let stock = c.args.stock.now in
    let part = c.args.part.now in
    let inside : List Pass = map (in_order side) (inner_passes part) in
    let across : List Pass = flat_map (pass_of side stock) part.seams in
    let first : c.push_inside.new.passes ≡ c.args.passes.now ++ inside = c.in_ok-push_inside.ensures in
    let second : c.push_across.new.passes ≡ c.push_inside.new.passes ++ across = c.in_ok-push_across.ensures
    ∙ ap (λ (ss : List Seam). c.push_inside.new.passes ++ flat_map (pass_of side stock) ss) c.seams.ensures in
    let both : c.push_inside.new.passes ++ across ≡ c.args.passes.now ++ (inside ++ across) = ap (λ (vs : List Pass). vs ++ across) first ∙ append_assoc c.args.passes.now inside across in
    second ∙ both
