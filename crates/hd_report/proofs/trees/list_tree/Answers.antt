use Rattle.std.proofs.Common.{◌≡◌, ◌++◌, ◌∙◌, length, rules}
use Rattle.std.specs.List.{flat_map}
use Rattle.hd_report.specs.Trees.{join_line, joining_of, tree_heading}
use Rattle.hd_report.proofs.ListedTexts.{tree_text-listed}
use Rattle.hd_report.proofs.trees.list_tree.Goals as goal

pub returns : goal.returns
returns c =
    let joins = c.args.joins.now in
    let told : c.push_joins.new.text ≡ tree_heading c.args.side (length joins) ++ flat_map (λ join. join_line c.args.size (joining_of join)) joins = search rules in
    told ∙ tree_text-listed c.args.side c.args.size joins
