use Rattle.hd_map.specs.Rank.{below_by}
use Rattle.hd_map.specs.Region.{IsPit}
use Rattle.hd_map.specs.Saddle.{IsSaddle}
use Rattle.hd_map.specs.SideLaws.{below_by-order}
use Rattle.hd_map.proofs.Trees.{tree-unique}
use Rattle.hd_map.proofs.laws.change_tree_is_determined.Goals as goal

pub returns : goal.returns
returns c = λ m side a b one other. tree-unique (below_by side) (below_by-order side) (IsSaddle m side) (IsPit m side) a b one other
