use Rattle.std.proofs.Common.{◌≡◌, ◌∙◌, ℕ, List, Some, ap, arith, get_or, length, refl, slice_get, sym}
use Rattle.std.proofs.lemmas.Option.{get_or_from_slice_get, slice_get_past, slice_get_read}
use Rattle.hd_basin.specs.declared.node.Node.{Node}
use Rattle.hd_basin.specs.declared.part.Part.{Part}
use Rattle.hd_basin.proofs.Stocked.{shown-length}
use Rattle.hd_basin.proofs.shown.Shown.number_at.Goals as goal

pub returns-then-label-len : goal.returns-then-label-len
returns-then-label-len c =
    let s = c.self.inside in
    let nodes : List Node = c.args.self.now.nodes in
    let labels : List ℕ = c.deref.result.now in
    let label : ℕ = c.in_ok-label.field-0.now in
    let look = c.in_ok-label.ensures.lookup in
    let same : labels ≡ c.args.self.now.labels.items = c.deref.ensures.value ∙ ap (λ (p : Part). p.labels.items) c.self.view_is in
    let at : slice_get labels c.args.place ≡ Some label = slice_get_read labels (length labels) c.args.place label refl look.3.0 look.1 in
    let read : get_or c.args.self.now.labels.items c.args.place (length nodes) ≡ label =
    ap (λ (ls : List ℕ). get_or ls c.args.place (length nodes)) (sym same) ∙ get_or_from_slice_get labels c.args.place label (length nodes) at in
    let long = shown-length s.nodes.now s.kept.now c.self.invariant c.args.self.now c.self.view_is in
    let less = c.if-label-len.true in
    let count = c.len.ensures in
    let keys = s.kept.now.keys.ok.0 in
    (omega (arith, long, less, count, keys), ap (slice_get nodes) (sym read))

pub returns-else-label-len : goal.returns-else-label-len
returns-else-label-len c =
    let s = c.self.inside in
    let nodes : List Node = c.args.self.now.nodes in
    let labels : List ℕ = c.deref.result.now in
    let label : ℕ = c.in_ok-label.field-0.now in
    let look = c.in_ok-label.ensures.lookup in
    let same : labels ≡ c.args.self.now.labels.items = c.deref.ensures.value ∙ ap (λ (p : Part). p.labels.items) c.self.view_is in
    let at : slice_get labels c.args.place ≡ Some label = slice_get_read labels (length labels) c.args.place label refl look.3.0 look.1 in
    let read : get_or c.args.self.now.labels.items c.args.place (length nodes) ≡ label =
    ap (λ (ls : List ℕ). get_or ls c.args.place (length nodes)) (sym same) ∙ get_or_from_slice_get labels c.args.place label (length nodes) at in
    let long = shown-length s.nodes.now s.kept.now c.self.invariant c.args.self.now c.self.view_is in
    let less = c.if-label-len.false in
    let count = c.len.ensures in
    let keys = s.kept.now.keys.ok.0 in
    ap (slice_get nodes) read ∙ slice_get_past nodes label (omega (arith, long, less, count, keys))
