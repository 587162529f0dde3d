use Rattle.std.proofs.Common.{ℕ, ◌<◌, ◌+◌, ◌*◌, ◌-◌, length, None, refl, sym, ◌∙◌}
use Rattle.std.proofs.lemmas.List.{get_or_default}
use Rattle.std.proofs.lemmas.Bool.{false≢true}
use Rattle.hd_basin.proofs.Frames.{frame_step, framed-height, seen-inside, seen-outside}
use Rattle.hd_basin.proofs.window.WindowHeights.height.Goals as goal

pub returns-then-is_in_frame : goal.returns-then-is_in_frame
returns-then-is_in_frame c =
    let w = c.args.self.now in
    let f = w.frame in
    let k : ℕ = (c.args.at.y - f.top) * f.columns + (c.args.at.x - f.left) in
    let within = c.if-is_in_frame.ensures.0 refl in
    let below : k < length w.heights.items = rw w.whole.whole (frame_step f c.args.at within).0 in
    let e = c.index.ensures ∙ get_or_default w.heights.items k c.index.result.now None below ∙ sym (seen-inside f w.heights.items c.args.at within) in
    e ∙ sym (framed-height w.size w.adjacency w.frame w.heights.items c.args.at c.requires)

pub returns-else-is_in_frame : goal.returns-else-is_in_frame
returns-else-is_in_frame c =
    let w = c.args.self.now in
    sym (framed-height w.size w.adjacency w.frame w.heights.items c.args.at c.requires ∙ seen-outside w.frame w.heights.items c.args.at (λ inside. false≢true (c.if-is_in_frame.ensures.1 inside)))
