use Rattle.std.proofs.Common.{◌≡◌, ◌<◌, ◌+◌, ℤ, [], ◌∷◌, ◌++◌, Option, None, map, ap, refl, subst, ◌∙◌, arith}
use Rattle.std.specs.Prelude.{slice_index_or}
use Rattle.std.specs.List.{range_with_len}
use Rattle.hd_map.specs.declared.types.Size.{Size}
use Rattle.hd_map.specs.Map.{place_of, cell_at, cell_count}
use Rattle.hd_map.specs.Sets.{cell_with}
use Rattle.hd_morph.specs.NewHeights.{cell_after}
use Rattle.hd_morph.proofs.Listed.{CellsBefore-none, CellsBefore-more}
use Rattle.hd_morph.proofs.cells.cells_with.Goals as goal

pub loop-index-init : goal.loop-index-init
loop-index-init g c =
    CellsBefore-none (g.G.Heights.map c.args.grid.now) c.args.heights.now _ c.in_ok-cells.cells refl refl (g.met.G.Heights.whole c.args.grid.now).size.some_points c.in_ok-cells.ensures

pub loop-index-preserved : goal.loop-index-preserved
loop-index-preserved g c =
    let m = g.G.Heights.map c.args.grid.now in
    let at = c.loop-index.at in
    let next = c.position_after-at.result in
    let after = c.position_after-at.ensures in
    let column : next.x < m.size.points = subst (λ (s : Size). next.x < s.points) c.size-size.ensures after.column in
    let place : place_of m.size next ≡ place_of m.size at + 1 = subst (λ (s : Size). place_of s next ≡ place_of s at + 1) c.size-size.ensures after.place in
    let height : Option ℤ = slice_index_or c.args.heights.now c.loop-index.index None in
    let cell : c.cell-in-loop-index.result ≡ cell_with height (cell_at m at) = rw (← c.cell.ensures) c.cell-in-loop-index.ensures in
    let pushed : c.push.new.self ≡ c.loop-index.cells ++ cell_with height (cell_at m at) ∷ [] = rw (← cell) c.in_ok-push.ensures.ok in
    CellsBefore-more m c.args.heights.now c.loop-index.index at next c.loop-index.cells c.push.new.self column place pushed c.loop-index.invariant

pub returns : goal.returns
returns g c =
    let m = g.G.Heights.map c.args.grid.now in
    let all : c.loop-index.index ≡ cell_count m.size = (let all : c.loop-index.index ≡ cell_count c.size-size.result = omega arith in all ∙ ap cell_count c.size-size.ensures) in
    c.loop-index.invariant.are ∙ ap (λ n. map (cell_after m c.args.heights.now) (range_with_len 0 n)) all
