use Rattle.std.proofs.Common.{◌≡◌, ◌∙◌, length, ap, sym, arith}
use Rattle.std.proofs.lemmas.List.FromFn.{length-map-range_with_len}
use Rattle.hd_map.specs.Cells.{cells_in}
use Rattle.hd_map.specs.Map.{cell_count}
use Rattle.hd_demo.specs.Generator.{cell_in, next_draw}
use Rattle.hd_demo.proofs.Drawings.{drawn_cells-more, drawn-more}
use Rattle.hd_demo.proofs.generator.drawn_surface.Goals as goal

pub cells-preserved : goal.cells-preserved
cells-preserved c =
    let number = c.args.draws.now.last in
    let n = c.cells.counter in
    let inv = c.cells.invariant in
    record {
      data_type = c.push.ensures.data_type ∙ inv.data_type;
      cells = drawn_cells-more number n c.cells.draws.last (cells_in c.cells.cells) (cells_in c.push.new.self) c.cell_in.result inv.cells inv.last
          (c.cell_in.ensures.cell ∙ ap cell_in c.draw.ensures.drawn) c.in_ok-push.ensures.ok;
      last = c.draw.ensures.last ∙ c.draw.ensures.drawn ∙ ap next_draw inv.last ∙ sym (drawn-more number n);
      few = omega (arith, c.cells-test.true);
    }

pub new-requires-clause-whole : goal.new-requires-clause-whole
new-requires-clause-whole c =
    let count = cell_count c.args.size in
    let all : c.cells.counter ≡ count = omega (arith, c.cells.invariant.few, c.cells-test.false) in
    ap length c.cells.invariant.cells ∙ length-map-range_with_len _ 0 c.cells.counter ∙ all
