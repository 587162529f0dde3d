use Rattle.std.proofs.Common.{◌∙◌}
use Rattle.hd_map.specs.Encoding.{values_of}
use Rattle.hd_morph.proofs.Encodings.{values_of-length}
use Rattle.hd_morph.proofs.RoundGreatests.{AreRoundGreatests-join}
use Rattle.hd_morph.proofs.round.spread_round.Goals as goal

pub returns : goal.returns
returns g c =
    let code = g.L.Lane.code in
    AreRoundGreatests-join c.args.size c.args.across c.args.down (values_of code c.args.tops.now) (values_of code c.spread.new.tops) (values_of code c.spread_rows.new.tops)
    (values_of-length code c.args.tops.now ∙ c.requires.whole)
    c.spread.ensures c.spread_rows.ensures
