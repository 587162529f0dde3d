use Rattle.std.proofs.Common.{List, sym, ap, subst}
use Rattle.hd_lines.specs.Lines.{AreBorderLines}
use Rattle.hd_map.specs.declared.types.Rank.{Rank}
use Rattle.hd_regions.proofs.laws.pruned_lines_are_determined.Goals as goal

pub returns : goal.returns
returns c = λ m side thousandths xs ys whole x y.
    let same = c.pruning_is_determined.ensures m side thousandths x.steps y.steps x.last y.last x.owner y.owner x.pruning y.pruning in
    c.border_lines_are_determined.ensures m side x.last x.owner y.owner xs ys (λ r pit. ap (λ (of : Rank → Rank). of r) same.2) x.are
    (subst (λ (last : List Rank). AreBorderLines m side last y.owner ys) (sym same.1) y.are)
