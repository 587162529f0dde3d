use Rattle.std.proofs.Common.{◌≡◌, ◌∙◌, ◌++◌, ◌∷◌, List, [], map, ap, rules}
use Rattle.std.specs.Map.Iter.{deref_pair}
use Rattle.std.proofs.lemmas.List.{map-append}
use Rattle.std.proofs.lemmas.Map.Iter.{iter_end}
use Rattle.hd_basin.specs.declared.part.Seam.{Seam}
use Rattle.hd_basin.proofs.lowest.list_values.Goals as goal

pub entries-preserved : goal.entries-preserved
entries-preserved c = c.in_ok-push.ensures.items ∙ ap (λ (ls : List Seam). ls ++ c.in-Some.seam.now ∷ []) c.entries.invariant ∙ simp map-append

pub returns : goal.returns
returns c =
    let all : map deref_pair c.entries.yielded ≡ c.args.lowest.now.entries = search (rules, iter_end) in
    record { values = c.entries.invariant ∙ ap (map (λ e. e.1)) all; ordered = c.len.ensures.ordered }
