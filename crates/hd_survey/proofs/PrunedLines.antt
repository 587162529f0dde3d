-- The pits and passes of border lines are points of the map.
use Rattle.std.proofs.Common.{Bool, true, false, List, get_or, sym, subst}
use Rattle.std.specs.Prelude.{All, if◌then◌else◌}
use Rattle.std.proofs.lemmas.List.Elements.{Contains-get_or}
use Rattle.hd_lines.specs.declared.line.BorderLine.{BorderLine}
use Rattle.hd_lines.specs.Lines.{AreBorderLines, IsBorderLine}
use Rattle.hd_map.specs.declared.types.Rank.{Rank}
use Rattle.hd_map.specs.declared.types.SideName.{SideName}
use Rattle.hd_map.specs.Map.{Map}
use Rattle.hd_map.specs.Rank.{IsPoint, below_by}
use Rattle.hd_map.proofs.Points.{Near-from, Near-to, point_inside}
use Rattle.hd_survey.specs.Inside.{IsLineOn}
use Rattle.hd_survey.proofs.PrunedPits.{ArePitsStill}

module _ (m : Map) (side : SideName) where
  one_of_two : (test : Bool) (a b : Rank) → IsPoint m a → IsPoint m b → IsPoint m (if test then b else a)
  one_of_two true a b left right = right
  one_of_two false a b left right = left

  module _ (kept : List Rank) (owner : Rank → Rank) (still : ArePitsStill m side kept owner) where
    line_inside : (line : BorderLine) → IsBorderLine m side kept owner line → IsLineOn m.size line
    line_inside line is =
        let reached = is.pairs.reached in
        let near = reached.1.near in
        let pass : IsPoint m line.pass = subst (IsPoint m) (sym reached.2) (one_of_two (below_by side reached.0.from reached.0.to) reached.0.from reached.0.to
        (Near-from m reached.0.from reached.0.to near) (Near-to m reached.0.from reached.0.to near)) in
        (point_inside m line.a (still.are_kept line.a is.first).point, point_inside m line.b (still.are_kept line.b is.second).point, point_inside m line.pass pass)

    pub lines_inside : (lines : List BorderLine) → AreBorderLines m side kept owner lines → All (IsLineOn m.size) lines
    lines_inside lines are k d below =
        let line : BorderLine = get_or lines k d in
        line_inside line (are.each line (Contains-get_or lines k d below))
