use Rattle.hd_map.specs.Encoding.{values_of}
use Rattle.hd_morph.proofs.Windows.{AreStrideGreatests-join}
use Rattle.hd_morph.proofs.window.spread.Goals as goal

pub returns : goal.returns
returns g c =
    let code = g.L.Lane.code in
    AreStrideGreatests-join (values_of code c.args.tops.now) (values_of code c.look_ahead.new.tops)
    (values_of code c.look_back.new.tops) c.args.stride c.args.reach c.look_ahead.ensures c.look_back.ensures
