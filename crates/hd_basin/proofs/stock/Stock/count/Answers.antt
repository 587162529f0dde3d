use Rattle.std.proofs.Common.{List, length, sym, ◌∙◌, ap}
use Rattle.std.proofs.lemmas.List.{length-map}
use Rattle.hd_basin.specs.declared.part.Part.{Part}
use Rattle.hd_basin.specs.Stock.{part_of}
use Rattle.hd_basin.proofs.stock.Stock.count.Goals as goal

pub returns : goal.returns
returns c = (let s = c.self.inside in c.len.ensures ∙ s.tiles.ok.0 ∙ sym (length-map s.tiles.items (part_of s.nodes)) ∙ ap (λ (ps : List Part). length ps) c.self.view_is)
