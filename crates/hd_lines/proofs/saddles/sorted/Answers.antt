use Rattle.std.proofs.Common.{rules}
use Rattle.std.proofs.lemmas.List.Sorted.{answers_always}
use Rattle.hd_map.specs.Rank.{below_by}
use Rattle.hd_lines.specs.NumberedBorders.{is_lower}
use Rattle.hd_lines.proofs.NumberedBorders.{is_lower-weak}
use Rattle.hd_lines.proofs.saddles.sorted.Goals as goal

pub returns-clause-sorted : goal.returns-clause-sorted
returns-clause-sorted g c = c.sort_unstable_by.ensures.sorted (is_lower (below_by g.S.Side.NAME)) (is_lower-weak (below_by g.S.Side.NAME) g.met.S.Side.order)
    (answers_always _ _ _ (λ f a r h k. search rules))
