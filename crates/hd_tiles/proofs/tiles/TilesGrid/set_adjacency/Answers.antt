use Rattle.std.proofs.Common.{◌≡◌, sym, ◌∙◌, ap, rules, arith}
use Rattle.hd_map.specs.Map.{Map}
use Rattle.hd_tiles.proofs.ComesFrom.{AreUpTo-changes, ComesFrom-setting, TouchesAll-setting}
use Rattle.hd_tiles.proofs.tiles.TilesGrid.set_adjacency.Goals as goal

pub set_adjacency-requires : goal.set_adjacency-requires
set_adjacency-requires g c = let s = c.args.self.now in let few = s.counted in omega (arith, few)

pub invariant_of-self : goal.invariant_of-self
invariant_of-self g c =
    let s = c.args.self.now in
    let sets = c.set_adjacency.ensures.sets in
    record {
      same_size = s.same_size ∙ ap (λ (m : Map). m.size) (sym sets);
      stamped = c.touch_all.ensures.whole ∙ s.stamped;
      numbered = AreUpTo-changes (λ tile. Unit {0}) s.changes s.stamps.items c.touch_all.new.stamps.items s.numbered c.touch_all.ensures;
      counted = (let once = c.set_adjacency.ensures.count.once in let low = s.counted in omega (arith, once, low));
    }

pub returns-clause-origin : goal.returns-clause-origin
returns-clause-origin g c =
    let s = c.args.self.now in
    let m : Map = g.G.Heights.map s.grid in
    let other : c.args.adjacency ≡ m.adjacency → ⊥ = search rules in
    ComesFrom-setting m (g.G.Heights.map c.set_adjacency.new.self) s.tiling.side s.changes s.stamps.items c.touch_all.new.stamps.items s.numbered c.touch_all.ensures
    c.args.adjacency c.set_adjacency.ensures.sets other

pub returns-clause-touched : goal.returns-clause-touched
returns-clause-touched g c =
    let s = c.args.self.now in
    let m : Map = g.G.Heights.map s.grid in
    let other : c.args.adjacency ≡ m.adjacency → ⊥ = search rules in
    TouchesAll-setting m (g.G.Heights.map c.set_adjacency.new.self) s.tiling.side s.changes s.stamps.items c.touch_all.new.stamps.items s.numbered c.touch_all.ensures
    c.args.adjacency c.set_adjacency.ensures.sets other
