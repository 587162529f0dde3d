use Rattle.std.proofs.Common.{◌∙◌, refl, subst, sym}
use Rattle.hd_map.specs.declared.types.SideName.{SideName}
use Rattle.hd_map.specs.Encoding.{number_in}
use Rattle.hd_steep.specs.Keys.{AreTurned}
use Rattle.hd_steep.proofs.Keys.{plain_turned}
use Rattle.hd_steep.proofs.row.turn_to_side.Goals as goal

pub returns-in-Dales : goal.returns-in-Dales
returns-in-Dales g c = subst (λ (s : SideName). AreTurned g.L.Lane.code s c.args.keys.now c.negate.new.keys) (sym c.in-Dales.is ∙ c.NAME.ensures) c.negate.ensures

pub returns-in-Hills : goal.returns-in-Hills
returns-in-Hills g c =
    let code = g.L.Lane.code in
    let keys = c.args.keys.now in
    subst (λ (s : SideName). AreTurned code s keys keys) (sym c.in-Hills.is ∙ c.NAME.ensures) (record { whole = refl; each = λ k. plain_turned code (number_in code keys k) (c.requires k) })
