use Rattle.std.proofs.Common.{◌≡◌, ◌≤◌, ◌+◌, ◌∷◌, [], ◌++◌, ◌∙◌, ap, length, List, ℕ, arith}
use Rattle.hd_map.specs.Map.{Map}
use Rattle.std.proofs.lemmas.List.{length_push}
use Rattle.hd_edit.specs.Board.{map_before, earlier_before}
use Rattle.hd_edit.proofs.Logs.{take_back-more, take_back-item, take_back-rest}
use Rattle.hd_edit.proofs.board.Board.undo.Goals as goal

pub loop-step-preserved : goal.loop-step-preserved
loop-step-preserved g c =
    let all = c.args.self.now.earlier ++ g.G.Heights.map c.args.self.now.grid ∷ [] in
    let is = c.loop-step.invariant in
    let one : length c.loop-step.self.earlier ≡ length c.undo_last.new.self.earlier + 1 = ap (λ (xs : List Map). length xs) c.undo_last.ensures.earlier
    ∙ length_push c.undo_last.new.self.earlier (g.G.Heights.map c.undo_last.new.self.grid) in
    record {
      history = take_back-more all c.loop-step.self.earlier c.undo_last.new.self.earlier (g.G.Heights.map c.loop-step.self.grid) (g.G.Heights.map c.undo_last.new.self.grid)
          (length c.args.self.now.earlier) c.loop-step._step
          is.history is.len c.undo_last.ensures.earlier;
      len = omega (arith, is.len, one);
      elements = c.undo_last.ensures.elements ∙ is.elements;
      origin = g.met.G.Grid.onward c.args.self.now.grid c.loop-step.self.grid c.undo_last.new.self.grid is.origin c.undo_last.ensures.origin;
      rises = omega (arith, is.rises, c.undo_last.ensures.count.0);
      few = omega (arith, is.few, c.undo_last.ensures.count.1);
    }

pub returns-clause-undo : goal.returns-clause-undo
returns-clause-undo g c =
    let earlier = c.args.self.now.earlier in
    let m = g.G.Heights.map c.args.self.now.grid in
    let is = c.loop-step.invariant in
    let kept : c.args.n ≤ length earlier = omega (arith, c.if-n-from.false, c.from.ensures, c.kept-kept.ensures.kept) in
    let end : c.loop-step._step ≡ c.args.n = omega (arith, c.loop-step-test.false, c.loop-step.auto._step-end) in (
      kept,
      take_back-item earlier c.loop-step.self.earlier m (g.G.Heights.map c.loop-step.self.grid) c.loop-step._step is.history is.len ∙ ap (λ (i : ℕ). map_before i earlier m) end,
      take_back-rest earlier c.loop-step.self.earlier m (g.G.Heights.map c.loop-step.self.grid) c.loop-step._step is.history is.len ∙ ap (λ (i : ℕ). earlier_before i earlier) end,
    )
