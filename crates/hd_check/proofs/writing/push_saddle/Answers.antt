use Rattle.std.proofs.Common.{List, ℕ, Option, sym, ap, subst, ◌∙◌}
use Rattle.std.specs.Prelude.{ℤ}
use Rattle.std.specs.List.{flat_map}
use Rattle.hd_map.specs.declared.types.Pos.{Pos}
use Rattle.hd_check.specs.Text.{Adds, line_text, saddle_lines}
use Rattle.hd_check.proofs.TextParts.{saddle_lines-parts}
use Rattle.hd_check.proofs.writing.push_saddle.Goals as goal

pub returns-in-Some : goal.returns-in-Some
returns-in-Some c = subst (λ (t : List ℕ). Adds c.args.out.now c.push_path.new.out c.push_path.result t)
    (sym (ap (λ (o : Option (Pos × ℤ)). flat_map line_text (saddle_lines o c.args.path.now)) c.in-Some.is ∙ saddle_lines-parts c.in-Some.saddle c.args.path.now)) c.push_path.ensures
