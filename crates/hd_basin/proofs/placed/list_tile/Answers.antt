use Rattle.std.proofs.Common.{◌≡◌, ◌+◌, ◌++◌, ◌∷◌, [], ◌∙◌, ap, sym, subst, List, take}
use Rattle.std.proofs.lemmas.List.{append_assoc, take_more}
use Rattle.std.proofs.lemmas.Option.{get_or_from_slice_get, slice_get_within}
use Rattle.hd_basin.specs.declared.node.Node.{Node}
use Rattle.hd_basin.specs.Placed.{AreListed}
use Rattle.hd_basin.proofs.placed.list_tile.Goals as goal

pub numbers-preserved : goal.numbers-preserved
numbers-preserved c = λ nodes are. (
    let all : List Node = c.args.part.now.nodes in
    let k = c.numbers.number in
    let n = c.node.result in
    let one : take (k + 1) all ≡ take k all ++ n ∷ [] = take_more all k n (slice_get_within all k n c.node.ensures)
    ∙ ap (λ (u : Node). take k all ++ u ∷ []) (get_or_from_slice_get all k n n c.node.ensures) in
    subst (λ (ns : List Node). AreListed ns c.list_node.new.pits.items c.list_node.new.numbers.items)
    (append_assoc nodes (take k all) (n ∷ []) ∙ ap (λ (ns : List Node). nodes ++ ns) (sym one))
    (c.in_ok-list_node.ensures (nodes ++ take k all) (c.numbers.invariant nodes are)))
