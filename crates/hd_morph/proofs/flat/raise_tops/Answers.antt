use Rattle.std.proofs.Common.{w64}
use Rattle.std.proofs.lemmas.Int.{to_z-of_z}
use Rattle.hd_map.specs.Encoding.{most_filtered, values_of}
use Rattle.hd_morph.specs.Raised.{AreSettled}
use Rattle.hd_morph.proofs.StandAlike.{AreSettled-alike, AreTopped-alike}
use Rattle.hd_morph.proofs.Flats.{AreFlatlyDilated-settled, AreTopped-round}
use Rattle.hd_morph.proofs.flat.raise_tops.Goals as goal

pub settle-requires-clause-topped : goal.settle-requires-clause-topped
settle-requires-clause-topped g c =
    let code = g.L.Lane.code in
    let tops = values_of code c.spread_round.new.tops in
    AreTopped-alike (most_filtered code) (values_of code c.args.heights.now) (values_of code c.args.tops.now) tops c.requires.alike
    (AreTopped-round code c.args.size c.args.across c.args.down c.args.tops.now tops c.requires.size.some_points c.requires.tops c.spread_round.ensures)

pub returns : goal.returns
returns g c =
    let code = g.L.Lane.code in
    let tops = values_of code c.spread_round.new.tops in
    let settled : AreSettled code (values_of code c.args.heights.now) tops c.args.number c.settle.new.tops = rw (to_z-of_z w64 c.args.number c.ranges.number) at c.settle.ensures in
    AreFlatlyDilated-settled code c.args.size c.args.across c.args.down c.args.number c.args.tops.now tops c.settle.new.tops c.requires.size.some_points c.requires.tops c.spread_round.ensures
    (AreSettled-alike code (values_of code c.args.heights.now) (values_of code c.args.tops.now) tops c.args.number c.settle.new.tops c.requires.alike settled)
