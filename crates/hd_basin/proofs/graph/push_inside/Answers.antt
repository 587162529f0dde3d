use Rattle.std.proofs.Common.{◌++◌, ◌∙◌, List, ap, map}
use Rattle.hd_map.specs.declared.types.Pass.{Pass}
use Rattle.hd_basin.specs.declared.part.Join.{Join}
use Rattle.hd_basin.specs.Graph.{in_order}
use Rattle.hd_basin.specs.Parts.{pass_named}
use Rattle.hd_basin.proofs.FlatLists.{map-more, map-twice, map-whole}
use Rattle.hd_basin.proofs.graph.push_inside.Goals as goal

pub found-preserved : goal.found-preserved
found-preserved g c = map-more (λ j. in_order g.S.Side.NAME (pass_named c.args.part.now.nodes j)) c.args.passes.now c.found.passes c.push.new.self c.joins-found.result.now
    c.found.join-index _ c.in_order.result c.found-test.true (c.in_order.ensures ∙ ap (in_order g.S.Side.NAME) c.pass_named-pass.ensures) c.found.invariant c.in_ok-push.ensures.ok

pub returns : goal.returns
returns g c =
    let of : Join → Pass = pass_named c.args.part.now.nodes in
    let joins : List Join = c.joins-found.result.now in
    c.found.invariant ∙ map-whole (λ j. in_order g.S.Side.NAME (of j)) c.args.passes.now joins c.found.join-index c.found-test.false
    ∙ ap (λ (ps : List Pass). c.args.passes.now ++ ps) (map-twice (in_order g.S.Side.NAME) of joins)
    ∙ ap (λ (js : List Join). c.args.passes.now ++ map (in_order g.S.Side.NAME) (map of js)) c.joins-found.ensures
