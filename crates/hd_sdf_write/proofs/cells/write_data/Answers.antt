use Rattle.std.proofs.Common.{◌≡◌, ◌+◌, ◌-◌, ◌<◌, ℕ, length, drop, arith, ap, subst, sym, ◌∙◌}
use Rattle.std.proofs.lemmas.List.{drop_all}
use Rattle.hd_map.specs.declared.types.Pos.{Pos}
use Rattle.hd_map.specs.declared.types.Size.{Size}
use Rattle.hd_map.specs.Map.{place_of, places_of}
use Rattle.hd_map.proofs.PositionOrder.{IsAt}
use Rattle.hd_sdf_write.specs.Data.{gap_after}
use Rattle.hd_sdf_write.proofs.Data.{data_text-before, data_text-empty}
use Rattle.hd_sdf_write.proofs.cells.write_data.Goals as goal

-- the position of an index, in a size that is the same
at_is : (size s : Size) (index : ℕ) (at : Pos) → s ≡ size → at.x < s.points → place_of s at ≡ index → IsAt size index at
at_is size s index at same column place = record {
  column = subst (λ (z : Size). at.x < z.points) same column;
  place = subst (λ (z : Size). place_of z at ≡ index) same place;
}

-- the position before it
at_before : (size s : Size) (index next : ℕ) (before at : Pos) → s ≡ size → next ≡ index + 1 → IsAt size next at → (at.x < s.points → before.x < s.points)
    → place_of s before + 1 ≡ place_of s at → IsAt size index before
at_before size s index next before at same one so column place =
    let here : place_of s at ≡ next = subst (λ (z : Size). place_of z at ≡ next) (sym same) so.place in
    at_is size s index before same (column (subst (λ (z : Size). at.x < z.points) (sym same) so.column)) (omega (arith, place, here, one))

pub points-init : goal.points-init
points-init g c =
    let m = g.G.Heights.map c.args.grid.now in
    let after = c.position_after-at.ensures in
    record {
      at = at_is m.size c.size-size.result c.args.to c.position_after-at.result c.size-size.ensures after.column (after.place ∙ ap (λ k. k + 1) c.position_of.ensures.place
          ∙ omega (arith, c.requires.some));
      text = drop_all (length c.args.text.now) c.args.text.now (omega arith) ∙ sym (data_text-empty m c.args.to);
      least = omega (arith, c.requires.some);
      most = omega arith;
      room = c.requires.room;
      within = omega arith;
    }

pub points-preserved : goal.points-preserved
points-preserved g c =
    let m = g.G.Heights.map c.args.grid.now in
    let so = c.points.invariant in
    let index : ℕ = c.points.index - 1 in
    let some = c.points-test.true in
    let size : c.size-size.result ≡ m.size = c.size-size.ensures in
    let before = c.position_before-at.ensures in
    let one : c.points.index ≡ index + 1 = omega (arith, some) in
    let at = at_before m.size c.size-size.result index c.points.index c.position_before-at.result c.points.at size one so.at before.column before.place in
    let gap = c.gap_after.ensures ∙ ap (λ (s : Size). gap_after s (place_of s c.position_before-at.result)) size ∙ ap (gap_after m.size) at.place in
    let places = sym (c.places_of-places.ensures ∙ ap places_of c.data_type.ensures) in
    record {
      at = at;
      text = data_text-before m index c.points.index c.args.to c.cell.result c.gap_after.result c.position_before-at.result (drop c.points.start c.points.text)
          (drop c.write_byte-start.result c.write_byte-start.new.text) (drop c.write_cell-start.result c.write_cell-start.new.text)
          one so.most at.place so.text c.write_byte-start.ensures.text (c.write_cell-start.ensures.text m.data_type places) c.cell.ensures gap;
      least = omega (arith, some);
      most = omega (arith, so.most);
      room = omega (arith, some, so.room, c.write_byte-start.ensures.start, c.write_cell-start.ensures.short);
      within = omega (arith, some, so.most, so.within, c.write_byte-start.ensures.start, c.write_cell-start.ensures.start, c.write_byte-start.auto.text, c.write_cell-start.auto.text);
    }
