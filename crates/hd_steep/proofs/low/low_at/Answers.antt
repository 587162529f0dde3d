use Rattle.hd_steep.proofs.Linked.{low_at_place}
use Rattle.hd_steep.proofs.low.low_at.Goals as goal

pub returns : goal.returns
returns g c = low_at_place g.L.Lane.code g.S.Side.NAME c.args.first c.args.keys.now c.args.place c.index-keys-place.result c.requires.keys c.requires.inside c.index-keys-place.is
