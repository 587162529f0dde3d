use Rattle.hd_morph.proofs.Adjunction.{IsNowhereAbove-dilation, IsNowhereAbove-erosion}
use Rattle.hd_morph.proofs.laws.dilation_and_erosion_are_adjoint.Goals as goal

pub returns : goal.returns
returns c = λ s e f g d w same up down. (λ below. IsNowhereAbove-dilation s e f g d w same up down below, λ below. IsNowhereAbove-erosion s e f g d w same up down below)
