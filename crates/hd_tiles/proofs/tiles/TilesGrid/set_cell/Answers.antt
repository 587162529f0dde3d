use Rattle.std.proofs.Common.{◌≡◌, sym, ◌∙◌, subst, ap, rules, arith}
use Rattle.hd_map.specs.declared.types.Size.{Size}
use Rattle.hd_map.specs.Map.{Map, InGrid, cell_at}
use Rattle.hd_tiles.specs.Tile.{IsRound}
use Rattle.hd_tiles.proofs.ComesFrom.{with_cell-stands, AreUpTo-changes, ComesFrom-cell, TouchesRound-cell}
use Rattle.hd_tiles.proofs.tiles.TilesGrid.set_cell.Goals as goal

pub returns-then-eq-clause-sets : goal.returns-then-eq-clause-sets
returns-then-eq-clause-sets g c =
    let s = c.args.self.now in
    let m : Map = g.G.Heights.map s.grid in
    let inside : InGrid s.tiling.size c.args.at = search rules in
    let stands : c.args.cell ≡ cell_at m c.args.at = search rules in
    with_cell-stands m c.args.at c.args.cell (g.met.G.Heights.whole s.grid) (subst (λ (z : Size). InGrid z c.args.at) s.same_size inside) stands

pub set_cell-requires : goal.set_cell-requires
set_cell-requires g c = let s = c.args.self.now in let few = s.counted in omega (arith, few)

pub invariant_of-self-2 : goal.invariant_of-self-2
invariant_of-self-2 g c =
    let s = c.args.self.now in
    let sets = c.in_ok-set_cell.ensures.sets in
    record {
      same_size = s.same_size ∙ ap (λ (m : Map). m.size) (sym sets.2);
      stamped = c.touch_round.ensures.whole ∙ s.stamped;
      numbered = AreUpTo-changes (λ tile. IsRound s.tiling.size s.tiling.side tile c.args.at) s.changes s.stamps.items c.touch_round.new.stamps.items s.numbered c.touch_round.ensures;
      counted = (let once = c.in_ok-set_cell.ensures.count.once in let low = s.counted in omega (arith, once, low));
    }

pub returns-clause-origin : goal.returns-clause-origin
returns-clause-origin g c =
    let s = c.args.self.now in
    let m : Map = g.G.Heights.map s.grid in
    let sets = c.in_ok-set_cell.ensures.sets in
    let other : c.args.cell ≡ cell_at m c.args.at → ⊥ = search rules in
    ComesFrom-cell m (g.G.Heights.map c.set_cell.new.self) s.tiling.side s.changes s.stamps.items c.touch_round.new.stamps.items s.numbered s.tiling.size c.args.at s.same_size
    (g.met.G.Heights.whole s.grid) sets.0 c.touch_round.ensures c.args.cell sets.2 other

pub returns-clause-touched : goal.returns-clause-touched
returns-clause-touched g c =
    let s = c.args.self.now in
    let m : Map = g.G.Heights.map s.grid in
    let sets = c.in_ok-set_cell.ensures.sets in
    let other : c.args.cell ≡ cell_at m c.args.at → ⊥ = search rules in
    TouchesRound-cell m (g.G.Heights.map c.set_cell.new.self) s.tiling.side s.changes s.stamps.items c.touch_round.new.stamps.items s.numbered s.tiling.size c.args.at s.same_size
    (g.met.G.Heights.whole s.grid) sets.0 c.touch_round.ensures c.args.cell sets.2 other
