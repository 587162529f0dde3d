use Rattle.hd_map.proofs.Regions.{regions_one}
use Rattle.hd_steep.proofs.laws.regions_are_determined.Goals as goal

pub returns : goal.returns
returns c = regions_one
