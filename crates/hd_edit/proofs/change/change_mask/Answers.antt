use Rattle.std.proofs.Common.{◌≡◌, ◌∙◌, ap}
use Rattle.hd_map.specs.declared.types.Size.{Size}
use Rattle.hd_map.specs.Map.{place_of}
use Rattle.hd_edit.proofs.Changes.{before_changes-mask}
use Rattle.hd_edit.proofs.change.change_mask.Goals as goal

pub returns-clause-before : goal.returns-clause-before
returns-clause-before g c =
    let m = g.G.Heights.map c.args.grid.now in
    let place : c.index_of-index.result ≡ place_of m.size c.args.at = c.index_of-index.ensures.value ∙ ap (λ (s : Size). place_of s c.args.at) c.size.ensures in
    before_changes-mask m (g.G.Heights.map c.put_mask.new.grid) c.args.notes.now.changes c.push.new.self.changes c.args.at c.index_of-index.result c.masked-masked.result c.args.new
    c.push.ensures.changes place c.masked-masked.ensures c.put_mask.ensures.map
