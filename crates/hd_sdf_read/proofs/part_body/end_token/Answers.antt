use Rattle.std.proofs.Common.{◌≡◌, ◌++◌, ◌+◌, ℕ, List, [], true, false, Ok, Err, sym, ap, ◌∙◌}
use Rattle.std.specs.Prelude.{bytes_eq}
use Rattle.hd_map.specs.Map.{Map, cell_count}
use Rattle.hd_map.specs.Surface.{map_of}
use Rattle.hd_sdf_read.specs.declared.error.SdfError.TheVariants.{TooManyData}
use Rattle.hd_sdf_read.specs.Bodies.{trailed}
use Rattle.hd_sdf_read.specs.Reads.{◌>>=◌}
use Rattle.hd_sdf_read.specs.Tokens.{is_star}
use Rattle.hd_sdf_read.proofs.Bodies.{trailed-many, trailed-star, Ends-none, trailed-nothing, trailer_in-none}
use Rattle.hd_sdf_read.proofs.WholeCuts.{length-filled, length-nothing}
use Rattle.hd_sdf_read.proofs.part_body.end_token.Goals as goal

pub returns-then-is_empty-clause-text : goal.returns-then-is_empty-clause-text
returns-then-is_empty-clause-text c =
    let map : Map = map_of c.args.surface in
    let none : c.args.token.text ≡ [] = sym c.as_slice-word.ensures ∙ length-nothing c.as_slice-word.result.now (sym c.is_empty.ensures ∙ c.if-is_empty.true) in
    ap (λ (t : List ℕ). trailed map.size (record { map = map; rest = t ++ [] })) none ∙ trailed-nothing map.size map ∙ ap (λ (t : List ℕ). Ok (record { map = map; trailer = t })) (sym c.new.ensures)

pub returns-then-eq-clause-text : goal.returns-then-eq-clause-text
returns-then-eq-clause-text c =
    let map : Map = map_of c.args.surface in
    let word : List ℕ = c.args.token.text in
    let star : is_star word ≡ true = ap is_star (sym c.as_slice-word.ensures) ∙ sym (c.eq.ensures ∙ ap (bytes_eq c.as_slice-word.result.now) c.as_slice.ensures) ∙ c.if-eq.true in
    let some = length-filled word (ap (λ (t : List ℕ). Rattle.std.proofs.Common.eqb (Rattle.std.proofs.Common.length t) 0) (sym c.as_slice-word.ensures) ∙ sym c.is_empty.ensures
    ∙ c.if-is_empty.false) in
    trailed-star map.size map word [] some c.args.token.open Ends-none star ∙ ap (λ r. r >>= (λ text. Ok (record { map = map; trailer = text }))) trailer_in-none
    ∙ ap (λ (t : List ℕ). Ok (record { map = map; trailer = t })) (sym c.new-then-eq.ensures)

pub returns-clause-text : goal.returns-clause-text
returns-clause-text c = λ _.
    let map : Map = map_of c.args.surface in
    let word : List ℕ = c.args.token.text in
    let star : is_star word ≡ false = ap is_star (sym c.as_slice-word.ensures) ∙ sym (c.eq.ensures ∙ ap (bytes_eq c.as_slice-word.result.now) c.as_slice.ensures) ∙ c.if-eq.false in
    let some = length-filled word (ap (λ (t : List ℕ). Rattle.std.proofs.Common.eqb (Rattle.std.proofs.Common.length t) 0) (sym c.as_slice-word.ensures) ∙ sym c.is_empty.ensures
    ∙ c.if-is_empty.false) in
    trailed-many map.size map word [] some c.args.token.open Ends-none star ∙ ap (λ n. Err (TooManyData (n + 1))) (sym (c.count_of.ensures ∙ ap cell_count c.size.ensures))
