use Rattle.std.proofs.Common.{◌≡◌, List, Option, ℤ, ap, sym, subst, ◌∙◌}
use Rattle.hd_map.specs.Encoding.{narrow, wide, values_of}
use Rattle.hd_map.specs.Map.{AreCellsOf}
use Rattle.hd_morph.specs.NewHeights.{cells_after}
use Rattle.hd_morph.specs.Numbers.{heights_in}
use Rattle.hd_edit.proofs.Entries.{AreCellsOf-cells_after}
use Rattle.hd_edit.proofs.entry.put_heights_back.Goals as goal

pub set_profiles-requires-clause-of_type : goal.set_profiles-requires-clause-of_type
set_profiles-requires-clause-of_type g c =
    let m = g.G.Heights.map c.args.grid.now in
    let same : values_of narrow c.deref.result.now ≡ heights_in c.args.numbers.now = ap (values_of narrow) c.deref.ensures.value ∙ sym (ap heights_in c.in-Narrow.is) in
    subst (λ (hs : List (Option ℤ)). AreCellsOf m.data_type (cells_after m hs)) (sym same)
    (AreCellsOf-cells_after m (heights_in c.args.numbers.now) (g.met.G.Heights.whole c.args.grid.now) c.requires.heights.of_type)

pub set_profiles-requires-in-Wide-clause-of_type : goal.set_profiles-requires-in-Wide-clause-of_type
set_profiles-requires-in-Wide-clause-of_type g c =
    let m = g.G.Heights.map c.args.grid.now in
    let same : values_of wide c.deref-in-Wide.result.now ≡ heights_in c.args.numbers.now = ap (values_of wide) c.deref-in-Wide.ensures.value ∙ sym (ap heights_in c.in-Wide.is) in
    subst (λ (hs : List (Option ℤ)). AreCellsOf m.data_type (cells_after m hs)) (sym same)
    (AreCellsOf-cells_after m (heights_in c.args.numbers.now) (g.met.G.Heights.whole c.args.grid.now) c.requires.heights.of_type)
