use Rattle.std.proofs.Common.{◌++◌, ℕ, List, sym, ap, subst, ◌∙◌}
use Rattle.hd_sdf_read.specs.declared.body.Body.TheVariants.{Decimals}
use Rattle.hd_sdf_read.specs.Bodies.{decimal_in}
use Rattle.hd_sdf_read.specs.DecimalCut.{TakesDatum}
use Rattle.hd_sdf_read.specs.Scaling.{data_of}
use Rattle.hd_sdf_read.specs.TokenPieces.{IsWord}
use Rattle.hd_sdf_read.proofs.Bodies.{Ends-more}
use Rattle.hd_sdf_read.proofs.DecimalCuts.{decimal_in-same, FeedsBody-decimals}
use Rattle.hd_sdf_read.proofs.part_body.feed_decimals.Goals as goal

pub returns-in-Part : goal.returns-in-Part
returns-in-Part c = λ more.
    let given = rw c.in-Part.is at c.in_ok-token.ensures in
    decimal_in-same c.args.part.size c.args.part.data_type (data_of c.args.part.scaled) (c.args.part.token.text ++ (c.args.text.now ++ more)) (c.in-Part.token.text ++ more) (given more)

pub returns-in-Ok : goal.returns-in-Ok
returns-in-Ok c =
    let word : IsWord c.args.part.token.text c.args.text.now c.in-Whole.word.text c.in-Whole.rest.now = rw c.in-Whole.is at c.in_ok-token.ensures in
    let taken : TakesDatum c.args.part.size c.args.part.data_type c.args.part.scaled c.in-Whole.word.text c.in-Ok.scaled = subst
    (λ (w : List ℕ). TakesDatum c.args.part.size c.args.part.data_type c.args.part.scaled w c.in-Ok.scaled) c.as_slice.ensures c.in-Ok.ensures in
    FeedsBody-decimals c.args.part.size c.args.part.data_type c.in-Ok.scaled (Decimals c.args.part) c.args.text.now c.in-Whole.rest.now c.go_on_decimals.result
    (λ more.
    decimal_in-same c.args.part.size c.args.part.data_type (data_of c.args.part.scaled) (c.args.part.token.text ++ (c.args.text.now ++ more))
    (c.in-Whole.word.text ++ (c.in-Whole.rest.now ++ more)) (word.same more)
    ∙ taken.same (c.in-Whole.rest.now ++ more) (Ends-more c.in-Whole.rest.now more word.left word.gap))
    c.go_on_decimals.ensures

pub returns : goal.returns
returns c = λ refused more.
    let word : IsWord c.args.part.token.text c.args.text.now c.in-Whole.word.text c.in-Whole.rest.now = rw c.in-Whole.is at c.in_ok-token.ensures in
    decimal_in-same c.args.part.size c.args.part.data_type (data_of c.args.part.scaled) (c.args.part.token.text ++ (c.args.text.now ++ more))
    (c.in-Whole.word.text ++ (c.in-Whole.rest.now ++ more)) (word.same more)
    ∙ ap (λ (w : List ℕ). decimal_in c.args.part.size c.args.part.data_type (data_of c.args.part.scaled) (w ++ (c.in-Whole.rest.now ++ more))) (sym c.as_slice.ensures)
    ∙ c.in-Err.ensures refused (c.in-Whole.rest.now ++ more) (Ends-more c.in-Whole.rest.now more word.left word.gap)
