use Rattle.std.proofs.Common.{◌/◌, w64}
use Rattle.std.proofs.lemmas.Int.{to_z-of_z}
use Rattle.hd_morph.specs.Raised.{AreFlatlyDilated}
use Rattle.hd_morph.proofs.Flats.{IsFlat-within}
use Rattle.hd_morph.proofs.flat.dilate_tops.Goals as goal

pub raise_tops-requires-clause-least : goal.raise_tops-requires-clause-least
raise_tops-requires-clause-least g c =
    let e = c.args.element.now in
    rw (to_z-of_z w64 c.args.number c.ranges.number) ((IsFlat-within e (e.width / 2) (e.height / 2) g.L.Lane.code.most_number c.args.number c.requires.element c.requires.numbers c.requires.flat).0)

pub raise_tops-requires-clause-greatest : goal.raise_tops-requires-clause-greatest
raise_tops-requires-clause-greatest g c =
    let e = c.args.element.now in
    rw (to_z-of_z w64 c.args.number c.ranges.number) ((IsFlat-within e (e.width / 2) (e.height / 2) g.L.Lane.code.most_number c.args.number c.requires.element c.requires.numbers c.requires.flat).1)

pub returns : goal.returns
returns g c =
    let e = c.args.element.now in
    let dilated : AreFlatlyDilated g.L.Lane.code c.args.size (e.width / 2) (e.height / 2) c.args.number c.args.tops.now c.raise_tops.new.tops =
    rw (to_z-of_z w64 c.args.number c.ranges.number, c.width.ensures.width, c.height.ensures.height) at c.raise_tops.ensures in
    dilated.each e c.requires.flat
