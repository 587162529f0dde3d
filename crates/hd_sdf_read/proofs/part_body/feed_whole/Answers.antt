use Rattle.std.proofs.Common.{◌++◌, ℕ, List, sym, ap, subst, ◌∙◌}
use Rattle.hd_map.specs.Cells.{cells_in}
use Rattle.hd_sdf_read.specs.declared.body.Body.TheVariants.{Whole}
use Rattle.hd_sdf_read.specs.Bodies.{whole_in}
use Rattle.hd_sdf_read.specs.WholeCut.{TakesWord}
use Rattle.hd_sdf_read.specs.TokenPieces.{IsWord}
use Rattle.hd_sdf_read.proofs.Bodies.{Ends-more, FeedsBody-on, whole_in-same}
use Rattle.hd_sdf_read.proofs.part_body.feed_whole.Goals as goal

pub returns-in-Part : goal.returns-in-Part
returns-in-Part c = λ more.
    let given = rw c.in-Part.is at c.in_ok-token.ensures in
    whole_in-same c.args.part.size c.args.part.cells.data_type (cells_in c.args.part.cells) (c.args.part.token.text ++ (c.args.text.now ++ more)) (c.in-Part.token.text ++ more) (given more)

pub returns-in-Ok : goal.returns-in-Ok
returns-in-Ok c =
    let word : IsWord c.args.part.token.text c.args.text.now c.in-Whole.word.text c.in-Whole.rest.now = rw c.in-Whole.is at c.in_ok-token.ensures in
    let taken : TakesWord c.args.part.size c.args.part.cells c.in-Whole.word.text c.in-Ok.cells = subst
    (λ (w : List ℕ). TakesWord c.args.part.size c.args.part.cells w c.in-Ok.cells) c.as_slice.ensures c.in-Ok.ensures in
    FeedsBody-on c.args.part.size c.in-Ok.cells (Whole c.args.part) c.args.text.now c.in-Whole.rest.now c.go_on.result
    (λ more.
    whole_in-same c.args.part.size c.args.part.cells.data_type (cells_in c.args.part.cells) (c.args.part.token.text ++ (c.args.text.now ++ more))
    (c.in-Whole.word.text ++ (c.in-Whole.rest.now ++ more)) (word.same more)
    ∙ taken.same (c.in-Whole.rest.now ++ more) (Ends-more c.in-Whole.rest.now more word.left word.gap))
    c.go_on.ensures

pub returns : goal.returns
returns c = λ refused more.
    let word : IsWord c.args.part.token.text c.args.text.now c.in-Whole.word.text c.in-Whole.rest.now = rw c.in-Whole.is at c.in_ok-token.ensures in
    whole_in-same c.args.part.size c.args.part.cells.data_type (cells_in c.args.part.cells) (c.args.part.token.text ++ (c.args.text.now ++ more))
    (c.in-Whole.word.text ++ (c.in-Whole.rest.now ++ more)) (word.same more)
    ∙ ap (λ (w : List ℕ). whole_in c.args.part.size c.args.part.cells.data_type (cells_in c.args.part.cells) (w ++ (c.in-Whole.rest.now ++ more))) (sym c.as_slice.ensures)
    ∙ c.in-Err.ensures refused (c.in-Whole.rest.now ++ more) (Ends-more c.in-Whole.rest.now more word.left word.gap)
