use Rattle.hd_map.specs.Encoding.{values_of}
use Rattle.hd_morph.proofs.Windows.{AreWindowGreatests-near}
use Rattle.hd_morph.proofs.window.spread_near.Goals as goal

pub returns : goal.returns
returns g c = AreWindowGreatests-near (values_of g.L.Lane.code c.args.tops.now) (values_of g.L.Lane.code c.spread.new.tops) c.args.reach c.spread.ensures
