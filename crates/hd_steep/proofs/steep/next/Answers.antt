use Rattle.std.proofs.Common.{◌<◌, ap, ◌∙◌, sym, subst}
use Rattle.hd_map.specs.declared.types.Size.{Size}
use Rattle.hd_map.specs.Map.{place_of, cell_count}
use Rattle.hd_steep.proofs.Round.{found_inside, pit_found, next_at}
use Rattle.hd_steep.proofs.steep.next.Goals as goal

pub position_of-requires : goal.position_of-requires
position_of-requires g c =
    let inside = found_inside (g.G.Heights.map c.args.grid.now) g.S.Side.NAME (g.met.G.Heights.whole c.args.grid.now) c.args.at c.requires c.lowest_round-lowest.result c.lowest_round-lowest.ensures in
    subst (λ (s : Size). c.lowest_round-lowest.result.index < cell_count s) (sym c.size-size.ensures) inside

pub returns-then-lowest-index_of : goal.returns-then-lowest-index_of
returns-then-lowest-index_of g c =
    (pit_found (g.G.Heights.map c.args.grid.now) g.S.Side.NAME (g.met.G.Heights.whole c.args.grid.now) c.args.at c.requires c.lowest_round-lowest.result c.lowest_round-lowest.ensures
    (c.if-lowest-index_of.true ∙ c.index_of.ensures.value ∙ ap (λ s. place_of s c.args.at) c.size-size.ensures)).1

pub returns-else-lowest-index_of : goal.returns-else-lowest-index_of
returns-else-lowest-index_of g c =
    next_at (g.G.Heights.map c.args.grid.now) g.S.Side.NAME (g.met.G.Heights.whole c.args.grid.now) c.args.at c.requires c.lowest_round-lowest.result c.lowest_round-lowest.ensures
    c.position_of.result c.size-size.result c.size-size.ensures
    (λ e. c.if-lowest-index_of.false (e ∙ sym (c.index_of.ensures.value ∙ ap (λ s. place_of s c.args.at) c.size-size.ensures)))
    c.position_of.ensures.in_grid c.position_of.ensures.place
