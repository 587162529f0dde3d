use Rattle.hd_morph.proofs.Determined.{AreFilteredCells-unique, IsOutOfRange-unique, IsOutOfRange-not_filtered}
use Rattle.hd_morph.proofs.laws.filter_is_determined.Goals as goal

pub returns-clause-cells : goal.returns-clause-cells
returns-clause-cells c = AreFilteredCells-unique

pub returns-clause-position : goal.returns-clause-position
returns-clause-position c = λ filter m e p q is one other. IsOutOfRange-unique filter m e p q one other

pub returns-clause-either : goal.returns-clause-either
returns-clause-either c = IsOutOfRange-not_filtered
