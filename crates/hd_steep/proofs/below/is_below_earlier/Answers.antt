use Rattle.std.proofs.Common.{ap, sym, ◌∙◌}
use Rattle.std.specs.Prelude.{not}
use Rattle.hd_map.specs.declared.types.SideName.{SideName}
use Rattle.hd_steep.proofs.Keys.{later_value, later-value}
use Rattle.hd_steep.proofs.below.is_below_earlier.Goals as goal

pub returns-in-Dales : goal.returns-in-Dales
returns-in-Dales g c = λ i j.
    let code = g.L.Lane.code in
    let here = code.shown c.args.key in
    let before = code.shown c.args.earlier in
    c.exceeds.ensures ∙ ap (λ (s : SideName). later_value s before here) (sym c.in-Dales.is ∙ c.NAME.ensures)
    ∙ later-value g.S.Side.NAME j i before here c.requires.earlier.limits c.requires.key.limits

pub returns-in-Hills : goal.returns-in-Hills
returns-in-Hills g c = λ i j.
    let code = g.L.Lane.code in
    let here = code.shown c.args.key in
    let before = code.shown c.args.earlier in
    ap not c.exceeds-in-Hills.ensures ∙ ap (λ (s : SideName). later_value s before here) (sym c.in-Hills.is ∙ c.NAME.ensures)
    ∙ later-value g.S.Side.NAME j i before here c.requires.earlier.limits c.requires.key.limits
