use Rattle.std.proofs.Common.{◌≡◌, ◌++◌, ℕ, List, [], length, inl, inr, arith, sym, ap, ◌∙◌}
use Rattle.std.specs.List.{list_any}
use Rattle.hd_map.specs.declared.wide_cells.WideCells.{WideCells}
use Rattle.hd_map.specs.Cells.{wide_cells_in}
use Rattle.hd_map.specs.Layouts.{wide_map}
use Rattle.hd_map.specs.Map.{Map, cell_count}
use Rattle.hd_map.specs.declared.surface.Surface.TheVariants.{Wide}
use Rattle.hd_sdf_read.specs.declared.body.Body.TheVariants.{End}
use Rattle.hd_sdf_read.specs.Bodies.{decimal_in, trailed}
use Rattle.hd_sdf_read.specs.Scaling.{data_of}
use Rattle.hd_sdf_read.specs.Tokens.{is_gap, after_token, token_of}
use Rattle.hd_sdf_read.specs.Grammar.{map_with}
use Rattle.hd_sdf_read.proofs.Gapless.{token_of-gapless}
use Rattle.hd_sdf_read.proofs.TokenCuts.{without_start-open}
use Rattle.hd_sdf_read.proofs.DecimalCuts.{decimal_in-same, decimal_in-whole, DecimalsGoOn-from_mid}
use Rattle.hd_sdf_read.proofs.part_body.go_on_decimals.Goals as goal

pub joined-requires : goal.joined-requires
joined-requires c = ap (list_any is_gap) c.next_token.ensures.token ∙ token_of-gapless c.in-Ok.parts.1.now

pub returns-then-len-size : goal.returns-then-len-size
returns-then-len-size c = λ more.
    let on = c.in-Ok.ensures in
    let size = c.len.ensures in
    let left : after_token c.in-Ok.parts.1.now ≡ [] = elim on.ends [
      | inl all ↦ absurd (omega (arith, all, size, c.if-len-size.true))
      | inr unended ↦ unended
    ] in
    let token : c.in_ok-token.token.text ≡ token_of c.in-Ok.parts.1.now =
    c.in_ok-token.ensures ∙ ap (λ (t : List ℕ). t ++ c.next_token.result.0.now) c.new.ensures ∙ c.next_token.ensures.token in
    on.same more
    ∙ decimal_in-same c.args.size c.args.data_type (data_of c.in-Ok.parts.0) (c.in-Ok.parts.1.now ++ more) (token_of c.in-Ok.parts.1.now ++ more) (without_start-open c.in-Ok.parts.1.now more left)
    ∙ ap (λ (t : List ℕ). decimal_in c.args.size c.args.data_type (data_of c.in-Ok.parts.0) (t ++ more)) (sym token)

pub returns : goal.returns
returns c =
    let on = c.in-Ok.ensures in
    let size = c.len.ensures in
    let few = on.few in
    let all : length (wide_cells_in c.in-Ok.parts.0.cells) ≡ cell_count c.args.size = omega (arith, few, size, c.if-len-size.false) in
    let made : wide_map c.new-2.result ≡ map_with c.args.size c.in-Ok.parts.0.cells.data_type (wide_cells_in c.in-Ok.parts.0.cells) =
    c.new-2.ensures ∙ ap (λ (cells : WideCells). map_with c.args.size cells.data_type (wide_cells_in cells)) c.into_cells.ensures in
    DecimalsGoOn-from_mid c.args.size c.args.data_type c.args.scaled (End (Wide c.new-2.result) c.new-3.result) c.args.text.now c.in-Ok.parts.1.now c.feed_end.result
    (λ more.
    on.same more ∙ decimal_in-whole c.args.size c.args.data_type c.in-Ok.parts.0 (c.in-Ok.parts.1.now ++ more) on.kept all
    ∙ ap (λ (m : Map). trailed m.size (record { map = m; rest = c.in-Ok.parts.1.now ++ more })) (sym made)
    ∙ ap (λ (t : List ℕ). trailed (wide_map c.new-2.result).size (record { map = wide_map c.new-2.result; rest = t ++ (c.in-Ok.parts.1.now ++ more) })) (sym c.new-3.ensures))
    c.feed_end.ensures
