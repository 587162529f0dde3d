use Rattle.std.proofs.Common.{◌≡◌, ◌++◌, ◌+◌, List, ℕ, true, false, Ok, Err, sym, ap, ◌∙◌}
use Rattle.std.specs.Prelude.{bytes_eq}
use Rattle.hd_map.specs.Map.{Map, cell_count}
use Rattle.hd_map.specs.Surface.{map_of}
use Rattle.hd_sdf_read.specs.declared.error.SdfError.TheVariants.{TooManyData}
use Rattle.hd_sdf_read.specs.PartTrailers.{trailer_in}
use Rattle.hd_sdf_read.specs.Reads.{◌>>=◌}
use Rattle.hd_sdf_read.specs.Tokens.{is_star}
use Rattle.hd_sdf_read.specs.TokenPieces.{IsWord}
use Rattle.hd_sdf_read.specs.declared.body.Body.TheVariants.{End, Trailer}
use Rattle.hd_sdf_read.proofs.Bodies.{trailed-many, trailed-star, Ends-more, FeedsBody-from, trailed-same}
use Rattle.hd_sdf_read.proofs.part_body.feed_end.Goals as goal

pub returns-in-Part : goal.returns-in-Part
returns-in-Part c = λ more.
    let given = rw c.in-Part.is at c.in_ok-token.ensures in
    trailed-same (map_of c.args.surface).size (map_of c.args.surface) (c.args.token.text ++ (c.args.text.now ++ more)) (c.in-Part.token.text ++ more) (given more)

pub returns-then-eq : goal.returns-then-eq
returns-then-eq c =
    let word : IsWord c.args.token.text c.args.text.now c.in-Whole.word.text c.in-Whole.rest.now = rw c.in-Whole.is at c.in_ok-token.ensures in
    let star : is_star c.in-Whole.word.text ≡ true = ap is_star (sym c.as_slice.ensures) ∙ sym (c.eq.ensures ∙ ap (bytes_eq c.as_slice.result.now) c.as_slice-in-Whole.ensures) ∙ c.if-eq.true in
    let map : Map = map_of c.args.surface in
    FeedsBody-from (End c.args.surface c.args.token) (Trailer c.args.surface c.new.result) c.args.text.now c.in-Whole.rest.now c.feed_trailer.result
    (λ more.
    trailed-same map.size map (c.args.token.text ++ (c.args.text.now ++ more)) (c.in-Whole.word.text ++ (c.in-Whole.rest.now ++ more)) (word.same more)
    ∙ trailed-star map.size map c.in-Whole.word.text (c.in-Whole.rest.now ++ more) word.some word.gapless (Ends-more c.in-Whole.rest.now more word.left word.gap) star
    ∙ ap (λ (t : List ℕ). trailer_in (t ++ (c.in-Whole.rest.now ++ more)) >>= (λ text. Ok (record { map = map; trailer = text }))) (sym c.new.ensures))
    c.feed_trailer.ensures

pub returns-else-eq : goal.returns-else-eq
returns-else-eq c = λ _ more.
    let word : IsWord c.args.token.text c.args.text.now c.in-Whole.word.text c.in-Whole.rest.now = rw c.in-Whole.is at c.in_ok-token.ensures in
    let star : is_star c.in-Whole.word.text ≡ false = ap is_star (sym c.as_slice.ensures) ∙ sym (c.eq.ensures ∙ ap (bytes_eq c.as_slice.result.now) c.as_slice-in-Whole.ensures) ∙ c.if-eq.false in
    let map : Map = map_of c.args.surface in
    trailed-same map.size map (c.args.token.text ++ (c.args.text.now ++ more)) (c.in-Whole.word.text ++ (c.in-Whole.rest.now ++ more)) (word.same more)
    ∙ trailed-many map.size map c.in-Whole.word.text (c.in-Whole.rest.now ++ more) word.some word.gapless (Ends-more c.in-Whole.rest.now more word.left word.gap) star
    ∙ ap (λ n. Err (TooManyData (n + 1))) (sym (c.count_of.ensures ∙ ap cell_count c.size.ensures))
