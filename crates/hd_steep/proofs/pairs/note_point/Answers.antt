use Rattle.std.proofs.Common.{◌≡◌, ◌<◌, ◌∙◌, ℕ, List, slice_get, Some, sym, ap, subst}
use Rattle.std.proofs.lemmas.Option.{slice_get_within}
use Rattle.hd_map.specs.declared.types.Pos.{Pos}
use Rattle.hd_map.specs.declared.types.Size.{Size}
use Rattle.hd_map.specs.Map.{InGrid, Map, Present, cell_count, place_of}
use Rattle.hd_map.specs.Neighbour.{IsNear}
use Rattle.hd_steep.proofs.AreFoundOf.{found-past}
use Rattle.hd_steep.proofs.Seen.{absent-apart, surrounded-apart}
use Rattle.hd_steep.proofs.pairs.note_point.Goals as goal

pub returns-then-is_surrounded-clause-found : goal.returns-then-is_surrounded-clause-found
returns-then-is_surrounded-clause-found g c =
    let m : Map = g.G.Heights.map c.args.grid.now in
    let places : List ℕ = c.args.places.now in
    let round : (p q : Pos) → InGrid m.size p → InGrid m.size q → place_of m.size p ≡ c.args.index → IsNear p.x q.x → IsNear p.y q.y → slice_get places (place_of m.size q) ≡ Some c.args.place =
    subst (λ (s : Size). (p q : Pos) → InGrid s p → InGrid s q → place_of s p ≡ c.args.index → IsNear p.x q.x → IsNear p.y q.y
    → slice_get places (place_of s q) ≡ Some c.args.place) c.size-size.ensures
    (c.is_surrounded.ensures c.if-is_surrounded.true) in
    record {
      borders = found-past m g.S.Side.NAME places c.args.index c.args.place (surrounded-apart m places c.args.place c.args.index round) c.args.found.now.borders.items c.requires.before.borders;
      indexed = c.requires.before.indexed;
    }

pub position_of-at-requires : goal.position_of-at-requires
position_of-at-requires g c = subst (λ (s : Size). c.args.index < cell_count s) (sym c.size-size.ensures)
    (subst (λ n. c.args.index < n) c.requires.whole (slice_get_within c.args.places.now c.args.index c.args.place c.requires.place))

pub returns-clause-found : goal.returns-clause-found
returns-clause-found g c =
    let m : Map = g.G.Heights.map c.args.grid.now in
    let is : place_of m.size c.position_of-at.result ≡ c.args.index = ap (λ (s : Size). place_of s c.position_of-at.result) (sym c.size-size.ensures) ∙ c.position_of-at.ensures.place in
    let inside : InGrid m.size c.position_of-at.result = subst (λ (s : Size). InGrid s c.position_of-at.result) c.size-size.ensures c.position_of-at.ensures.in_grid in
    let gone : Present m c.position_of-at.result → ⊥ = λ here. (let yes = c.is_present.ensures.1 here in let no = c.if-is_present.false in cc) in
    record {
      borders = found-past m g.S.Side.NAME c.args.places.now c.args.index c.args.place
          (λ j p less across e. absent-apart m c.args.places.now c.args.place c.position_of-at.result inside gone j p less across (e ∙ sym is))
          c.args.found.now.borders.items c.requires.before.borders;
      indexed = c.requires.before.indexed;
    }
