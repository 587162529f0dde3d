use Rattle.std.proofs.Common.{◌≡◌, ◌+◌, ◌%◌, ◌/◌, get_or, sym, subst, arith}
use Rattle.std.proofs.lemmas.List.Elements.{Contains-get_or}
use Rattle.hd_map.specs.declared.types.Pos.{Pos}
use Rattle.hd_map.specs.declared.types.Size.{Size}
use Rattle.hd_map.specs.Map.{InGrid, Map}
use Rattle.hd_steep.specs.Found.{IsSeenTo}
use Rattle.hd_steep.proofs.AreFoundOf.{found-as, found-few, found-pair}
use Rattle.hd_steep.proofs.SeenTo.{step-fresh, step-more, step-none}
use Rattle.hd_steep.proofs.Indexed.{indexed-once}
use Rattle.hd_steep.proofs.pairs.note_step.Goals as goal

pub note_pair-requires-clause-small : goal.note_pair-requires-clause-small
note_pair-requires-clause-small g c = λ k d inside.
    let few = found-few (g.G.Heights.map c.args.grid.now) g.S.Side.NAME c.args.places.now
    (g.met.G.Heights.whole c.args.grid.now) _ c.args.place c.args.found.now.borders.items c.requires.before.borders
    (get_or c.args.found.now.borders.items k d) (Contains-get_or c.args.found.now.borders.items k d inside) in
    omega arith

pub returns-in-Some-clause-found : goal.returns-in-Some-clause-found
returns-in-Some-clause-found g c =
    let m : Map = g.G.Heights.map c.args.grid.now in
    let inside : InGrid m.size c.args.at = c.requires.present.in_grid in
    let there : InGrid m.size c.in-Some.to = subst (λ (s : Size). InGrid s c.in-Some.to) c.size.ensures c.in-Some.ensures.0 in
    record {
      borders = found-pair m g.S.Side.NAME c.args.places.now (IsSeenTo m c.args.at c.args.step)
          (IsSeenTo m c.args.at (c.args.step + 1)) c.args.at c.in-Some.to inside there c.args.place c.requires.place
          (step-fresh m c.args.at inside c.args.step c.requires.step c.in-Some.to there c.in-Some.ensures.1 c.in-Some.ensures.2)
          (step-more m c.args.at inside c.args.step c.requires.step c.in-Some.to there c.in-Some.ensures.1 c.in-Some.ensures.2)
          c.args.found.now.borders.items c.note_pair.new.found.borders.items (indexed-once c.args.found.now.slots.items c.args.found.now.borders.items c.requires.before.indexed)
          c.in_ok-note_pair.ensures.notes c.requires.before.borders;
      indexed = c.in_ok-note_pair.ensures.indexed;
    }

pub returns-clause-found : goal.returns-clause-found
returns-clause-found g c =
    let m : Map = g.G.Heights.map c.args.grid.now in
    let none : (q : Pos) → InGrid m.size q → q.x + 1 ≡ c.args.at.x + c.args.step % 3 → q.y + 1 ≡ c.args.at.y + c.args.step / 3 → ⊥ =
    λ q inside. c.in_default.ensures q (subst (λ (s : Size). InGrid s q) (sym c.size.ensures) inside) in
    record {
      borders = found-as m g.S.Side.NAME c.args.places.now (IsSeenTo m c.args.at c.args.step) (IsSeenTo m c.args.at (c.args.step + 1)) c.args.place
          (λ j p less across. step-none m c.args.at c.requires.present.in_grid c.args.step c.requires.step none p across.near) c.args.found.now.borders.items c.requires.before.borders;
      indexed = c.requires.before.indexed;
    }
