use Rattle.std.proofs.Common.{ap, sym, ◌∙◌}
use Rattle.std.specs.Prelude.{not}
use Rattle.hd_map.specs.declared.types.SideName.{SideName}
use Rattle.hd_steep.proofs.Keys.{earlier_value, earlier-value}
use Rattle.hd_steep.proofs.below.is_below_later.Goals as goal

pub returns-in-Dales : goal.returns-in-Dales
returns-in-Dales g c = λ i j.
    let code = g.L.Lane.code in
    let here = code.shown c.args.key in
    let after = code.shown c.args.later in
    ap not c.exceeds.ensures ∙ ap (λ (s : SideName). earlier_value s here after) (sym c.in-Dales.is ∙ c.NAME.ensures)
    ∙ earlier-value g.S.Side.NAME i j here after c.requires.key.limits c.requires.later.limits

pub returns-in-Hills : goal.returns-in-Hills
returns-in-Hills g c = λ i j.
    let code = g.L.Lane.code in
    let here = code.shown c.args.key in
    let after = code.shown c.args.later in
    c.exceeds-in-Hills.ensures ∙ ap (λ (s : SideName). earlier_value s here after) (sym c.in-Hills.is ∙ c.NAME.ensures)
    ∙ earlier-value g.S.Side.NAME i j here after c.requires.key.limits c.requires.later.limits
