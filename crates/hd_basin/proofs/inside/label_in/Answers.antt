use Rattle.std.proofs.Common.{◌≡◌, ◌<◌, ℕ, List, length, get_or, sym, ◌∙◌, ap, arith}
use Rattle.std.proofs.lemmas.Option.{slice_get-get_or, get_or_from_slice_get}
use Rattle.hd_basin.specs.Inside.{place_of_frame}
use Rattle.hd_basin.specs.Sinks.{no_node}
use Rattle.hd_basin.proofs.Areas.{place-of-at}
use Rattle.hd_basin.proofs.inside.label_in.Goals as goal

pub returns : goal.returns
returns c =
    let ls : List ℕ = c.args.labels.now in
    let k : ℕ = c.place_in.result in
    let inside : k < length ls = (let below = c.place_in.ensures.place in let whole = c.requires.whole in omega (arith, below, whole)) in
    let is : k ≡ place_of_frame c.args.area c.args.at = place-of-at c.args.area k c.args.at c.place_in.ensures.at in
    sym (get_or_from_slice_get ls k (get_or ls k 0) no_node (slice_get-get_or ls k 0 inside)) ∙ ap (λ (n : ℕ). get_or ls n no_node) is
