use Rattle.std.proofs.Common.{◌≡◌, ◌+◌, ◌++◌, ◌∷◌, [], ◌∙◌, ap, sym, subst, List, ℕ, length}
use Rattle.hd_basin.proofs.AreListed.{AreListedTo, listed-more}
use Rattle.hd_basin.proofs.placed.listing_of.Goals as goal

pub tiles-preserved : goal.tiles-preserved
tiles-preserved c =
    let firsts : c.push.new.self.items ≡ c.tiles.firsts.items ++ length c.tiles.numbers.items ∷ [] =
    c.in_ok-push.ensures.items ∙ ap (λ k. c.tiles.firsts.items ++ k ∷ []) (c.len.ensures ∙ c.tiles.numbers.ok.0) in
    subst (λ (fs : List ℕ). AreListedTo c.args.stock.now (c.tiles.tile + 1) fs c.list_tile.new.pits.items c.list_tile.new.numbers.items) (sym firsts)
    (listed-more c.args.stock.now c.tiles.tile c.part-part.result c.tiles.firsts.items c.tiles.pits.items c.tiles.numbers.items c.part-part.ensures c.tiles.invariant
    c.list_tile.new.pits.items c.list_tile.new.numbers.items c.in_ok-list_tile.ensures)
