use Rattle.std.proofs.Common.{◌≡◌, sym, ◌∙◌, subst, ap, rules, arith}
use Rattle.hd_map.specs.declared.types.Size.{Size}
use Rattle.hd_map.specs.Map.{Map, InGrid, mask_at}
use Rattle.hd_tiles.specs.Tile.{IsRound}
use Rattle.hd_tiles.proofs.ComesFrom.{with_mask-stands, AreUpTo-changes, ComesFrom-mask, TouchesRound-mask}
use Rattle.hd_tiles.proofs.tiles.TilesGrid.set_mask.Goals as goal

pub returns-then-masked-clause-sets : goal.returns-then-masked-clause-sets
returns-then-masked-clause-sets g c =
    let s = c.args.self.now in
    let m : Map = g.G.Heights.map s.grid in
    let inside : InGrid s.tiling.size c.args.at = search rules in
    let stands : c.args.masked ≡ mask_at m c.args.at = search rules in
    with_mask-stands m c.args.at c.args.masked (subst (λ (z : Size). InGrid z c.args.at) s.same_size inside) stands

pub set_mask-requires : goal.set_mask-requires
set_mask-requires g c = let s = c.args.self.now in let few = s.counted in omega (arith, few)

pub invariant_of-self-2 : goal.invariant_of-self-2
invariant_of-self-2 g c =
    let s = c.args.self.now in
    let sets = c.in_ok-set_mask.ensures.sets in
    record {
      same_size = s.same_size ∙ ap (λ (m : Map). m.size) (sym sets.1);
      stamped = c.touch_round.ensures.whole ∙ s.stamped;
      numbered = AreUpTo-changes (λ tile. IsRound s.tiling.size s.tiling.side tile c.args.at) s.changes s.stamps.items c.touch_round.new.stamps.items s.numbered c.touch_round.ensures;
      counted = (let once = c.in_ok-set_mask.ensures.count.once in let low = s.counted in omega (arith, once, low));
    }

pub returns-clause-origin : goal.returns-clause-origin
returns-clause-origin g c =
    let s = c.args.self.now in
    let m : Map = g.G.Heights.map s.grid in
    let sets = c.in_ok-set_mask.ensures.sets in
    let other : c.args.masked ≡ mask_at m c.args.at → ⊥ = search rules in
    ComesFrom-mask m (g.G.Heights.map c.set_mask.new.self) s.tiling.side s.changes s.stamps.items c.touch_round.new.stamps.items s.numbered s.tiling.size c.args.at s.same_size
    (g.met.G.Heights.whole s.grid) sets.0 c.touch_round.ensures c.args.masked sets.1 other

pub returns-clause-touched : goal.returns-clause-touched
returns-clause-touched g c =
    let s = c.args.self.now in
    let m : Map = g.G.Heights.map s.grid in
    let sets = c.in_ok-set_mask.ensures.sets in
    let other : c.args.masked ≡ mask_at m c.args.at → ⊥ = search rules in
    TouchesRound-mask m (g.G.Heights.map c.set_mask.new.self) s.tiling.side s.changes s.stamps.items c.touch_round.new.stamps.items s.numbered s.tiling.size c.args.at s.same_size
    (g.met.G.Heights.whole s.grid) sets.0 c.touch_round.ensures c.args.masked sets.1 other
