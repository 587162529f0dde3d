-- The answer that lists the change tree of a side.
use Rattle.std.specs.Prelude.{List}
use Rattle.hd_map.specs.declared.types.SideName.{SideName}
use Rattle.hd_map.specs.ChangeTree.{Joining, IsChangeTree}
use Rattle.hd_report.specs.Trees.{tree_text}
use Rattle.hd_session.specs.Reply.{Reply, Reports, accepted_with}
use Rattle.hd_session.specs.State.{State}

-- the change tree of the present map
pub record IsTreeAnswer (s : State) (side : SideName) (reply : Reply) (after : State) : Type 0 where
  pub joins : List Joining
  pub tree : IsChangeTree s.map side joins
  pub answer : Reports s after (accepted_with (tree_text side s.map.size joins)) reply
