use Rattle.std.proofs.Common.{◌≡◌, ◌++◌, ℕ, List, [], length, inl, inr, arith, sym, ap, ◌∙◌}
use Rattle.std.specs.List.{list_any}
use Rattle.hd_map.specs.Cells.{cells_in}
use Rattle.hd_map.specs.Map.{Map, cell_count}
use Rattle.hd_map.specs.Surface.{map_of}
use Rattle.hd_sdf_read.specs.declared.body.Body.TheVariants.{End}
use Rattle.hd_sdf_read.specs.Bodies.{trailed, whole_in}
use Rattle.hd_sdf_read.specs.Tokens.{is_gap, after_token, token_of}
use Rattle.hd_sdf_read.specs.Grammar.{map_with}
use Rattle.hd_sdf_read.proofs.Bodies.{GoesOn-from, whole_in-done, whole_in-same}
use Rattle.hd_sdf_read.proofs.Gapless.{token_of-gapless}
use Rattle.hd_sdf_read.proofs.TokenCuts.{without_start-open}
use Rattle.hd_sdf_read.proofs.part_body.go_on.Goals as goal

pub joined-requires : goal.joined-requires
joined-requires c = ap (list_any is_gap) c.next_token.ensures.token ∙ token_of-gapless c.in-Ok.parts.1.now

pub returns-then-len-size : goal.returns-then-len-size
returns-then-len-size c = λ more.
    let on = c.in-Ok.ensures in
    let size = c.len.ensures in
    let left : after_token c.in-Ok.parts.1.now ≡ [] = elim on.ends [
      | inl all ↦ absurd (omega (arith, all, size, c.if-len-size.true))
      | inr unended ↦ unended
    ] in
    let token : c.in_ok-token.token.text ≡ token_of c.in-Ok.parts.1.now =
    c.in_ok-token.ensures ∙ ap (λ (t : List ℕ). t ++ c.next_token.result.0.now) c.new.ensures ∙ c.next_token.ensures.token in
    on.same more
    ∙ whole_in-same c.args.size c.in-Ok.parts.0.data_type (cells_in c.in-Ok.parts.0) (c.in-Ok.parts.1.now ++ more) (token_of c.in-Ok.parts.1.now ++ more)
    (without_start-open c.in-Ok.parts.1.now more left)
    ∙ ap (λ (t : List ℕ). whole_in c.args.size c.in-Ok.parts.0.data_type (cells_in c.in-Ok.parts.0) (t ++ more)) (sym token)

pub returns : goal.returns
returns c =
    let on = c.in-Ok.ensures in
    let size = c.len.ensures in
    let few = on.few in
    let all : length (cells_in c.in-Ok.parts.0) ≡ cell_count c.args.size = omega (arith, few, size, c.if-len-size.false) in
    let made : map_of c.new-2.result ≡ map_with c.args.size c.in-Ok.parts.0.data_type (cells_in c.in-Ok.parts.0) = c.new-2.ensures in
    GoesOn-from c.args.size c.args.cells (End c.new-2.result c.new-3.result) c.args.text.now c.in-Ok.parts.1.now c.feed_end.result
    (λ more.
    on.same more ∙ whole_in-done c.args.size c.in-Ok.parts.0.data_type (cells_in c.in-Ok.parts.0) (c.in-Ok.parts.1.now ++ more) all
    ∙ ap (λ (m : Map). trailed m.size (record { map = m; rest = c.in-Ok.parts.1.now ++ more })) (sym made)
    ∙ ap (λ (t : List ℕ). trailed (map_of c.new-2.result).size (record { map = map_of c.new-2.result; rest = t ++ (c.in-Ok.parts.1.now ++ more) })) (sym c.new-3.ensures))
    c.feed_end.ensures
