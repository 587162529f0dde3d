use Rattle.hd_morph.proofs.IsStable.{IsStable-opening, IsStable-closing}
use Rattle.hd_morph.proofs.laws.filtered_again_is_the_same.Goals as goal

pub returns-clause-opening : goal.returns-clause-opening
returns-clause-opening c = IsStable-opening

pub returns-clause-closing : goal.returns-clause-closing
returns-clause-closing c = IsStable-closing
