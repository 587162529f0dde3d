use Rattle.std.proofs.Common.{◌+◌, ◌<◌, arith}
use Rattle.hd_map.specs.Map.{Map, place_of}
use Rattle.hd_steep.specs.Found.{IsSeenTo}
use Rattle.hd_steep.proofs.AreFoundOf.{found-as}
use Rattle.hd_steep.proofs.SeenTo.{round-all, round-start}
use Rattle.hd_steep.proofs.pairs.note_round.Goals as goal

pub note_step-requires-clause-before : goal.note_step-requires-clause-before
note_step-requires-clause-before g c =
    let m : Map = g.G.Heights.map c.args.grid.now in
    record {
      borders = found-as m g.S.Side.NAME c.args.places.now (λ p. p.from.index < place_of m.size c.args.at) (IsSeenTo m c.args.at 0) c.args.place
          (λ j p less across. round-start m c.args.at c.requires.present.in_grid p across.near) c.args.found.now.borders.items c.requires.before.borders;
      indexed = c.requires.before.indexed;
    }

pub returns-clause-found : goal.returns-clause-found
returns-clause-found g c =
    let m : Map = g.G.Heights.map c.args.grid.now in
    record {
      borders = found-as m g.S.Side.NAME c.args.places.now (IsSeenTo m c.args.at 9) (λ p. p.from.index < place_of m.size c.args.at + 1) c.args.place
          (λ j p less across. round-all m c.args.at c.requires.present.in_grid 9 (omega arith) p across.near) c.note_step-9.new.found.borders.items c.in_ok-note_step-9.ensures.found.borders;
      indexed = c.in_ok-note_step-9.ensures.found.indexed;
    }
