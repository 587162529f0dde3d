use Rattle.std.proofs.Common.{◌≡◌, ◌∷◌, [], ◌++◌, List, true, sym, ◌∙◌, ap}
use Rattle.hd_map.specs.declared.types.Rank.{Rank}
use Rattle.hd_map.specs.Rank.{below_by}
use Rattle.hd_graph.specs.Parts.{opens_join}
use Rattle.hd_graph.specs.Tells.{joins_of}
use Rattle.hd_graph.proofs.WithPart.{joins_of-push, with_part-opens}
use Rattle.hd_graph.proofs.trees.add_merge_parts.Goals as goal

pub returns : goal.returns
returns g c =
    let below = below_by g.S.Side.NAME in
    let rise = c.args.rise in
    let parts : c.push-2.new.self ≡ rise.left ∷ rise.right ∷ [] = c.in_ok-push-2.ensures.ok
    ∙ ap (λ (lows : List Rank). lows ++ rise.right ∷ []) (c.in_ok-push.ensures.ok ∙ ap (λ (lows : List Rank). lows ++ rise.left ∷ []) c.in_ok-parts.ensures) in
    let opens : opens_join below rise.saddle (joins_of c.args.joins.now.items) ≡ true = (let e = c.opens_join.ensures in let f = c.if-not-opens_join.false in let h = c.deref.ensures.value in cc) in
    ap joins_of c.in_ok-push-3.ensures.items
    ∙ joins_of-push c.args.joins.now.items (record { saddle = rise.saddle; parts = c.push-2.new.self })
    ∙ ap (λ (lows : List Rank). joins_of c.args.joins.now.items ++ record { saddle = rise.saddle; parts = lows } ∷ []) parts
    ∙ sym (with_part-opens below rise.saddle (joins_of c.args.joins.now.items) rise.left rise.right (g.met.S.Side.order.irreflexive rise.saddle) c.requires opens)
