use Rattle.std.proofs.Common.{arith}
use Rattle.std.proofs.lemmas.List.Elements.{Contains-get_or}
use Rattle.hd_basin.proofs.AreKnown.{noted-more}
use Rattle.hd_basin.proofs.spot.note.Goals as goal

pub index_mut-requires : goal.index_mut-requires
index_mut-requires c =
    let inside = c.requires _ (Contains-get_or c.args.places.now c.places.place-index 0 c.places-test.true) in
    let whole = c.places.invariant.whole in
    let long = c.places.numbers.ok.0 in
    omega (arith, inside, whole, long)

pub places-preserved : goal.places-preserved
places-preserved c =
    noted-more c.args.places.now c.places.place-index _ c.args.number c.args.numbers.now.items c.places.numbers.items c.places-test.true
    (c.requires _ (Contains-get_or c.args.places.now c.places.place-index _ c.places-test.true)) c.places.invariant
