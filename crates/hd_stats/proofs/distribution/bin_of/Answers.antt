use Rattle.std.proofs.Common.{◌∙◌, ◌-ℤ◌, unsigned_abs, ap, ap₂, w64, of_z, ◌*◌, ◌/◌, rules}
use Rattle.std.proofs.lemmas.Int.{to_z-of_z}
use Rattle.hd_stats.proofs.Bins.{bin_of-apart}
use Rattle.hd_stats.proofs.distribution.bin_of.Goals as goal

pub returns-clause-value : goal.returns-clause-value
returns-clause-value c =
    let least = to_z-of_z w64 c.args.least (search rules) in
    let greatest = to_z-of_z w64 c.args.greatest (search rules) in
    let value = to_z-of_z w64 c.args.value (search rules) in
    let place = ap₂ (λ n b. n * b / c.from-3.result) c.from.ensures c.from-2.ensures ∙ ap (λ d. c.abs_diff.result * c.args.bins / d) c.from-3.ensures in
    c.min.ensures
    ∙ bin_of-apart c.args.least c.args.greatest c.args.bins c.args.value c.abs_diff.result c.abs_diff-2.result c.from-4.result _ (λ e. c.if-least-greatest.false (ap (of_z w64) e))
    (c.abs_diff.ensures ∙ ap₂ (λ a b. unsigned_abs (a -ℤ b)) value least) (c.abs_diff-2.ensures ∙ ap₂ (λ a b. unsigned_abs (a -ℤ b)) greatest least) c.from-4.ensures place
