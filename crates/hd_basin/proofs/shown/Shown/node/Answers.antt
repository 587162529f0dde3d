use Rattle.std.proofs.Common.{◌≡◌, ℕ, Option, List, Some, length, option_and_then, slice_get, refl, ◌∙◌, ap, arith}
use Rattle.std.proofs.lemmas.Option.{slice_get_read}
use Rattle.slab.specs.Slab.{get}
use Rattle.hd_basin.proofs.PointRoots.{read-contains}
use Rattle.hd_basin.proofs.Stocked.{shown-get, shown-length}
use Rattle.hd_basin.proofs.shown.Shown.node.Goals as goal

pub index-requires : goal.index-requires
index-requires c =
    let s = c.self.inside in
    let long = shown-length s.nodes.now s.kept.now c.self.invariant c.args.self.now c.self.view_is in
    let inside = c.requires in
    let count = s.kept.now.keys.ok.0 in
    omega (arith, long, inside, count)

pub index-requires-2 : goal.index-requires-2
index-requires-2 c =
    let s = c.self.inside in
    let keys : List ℕ = s.kept.now.keys.items in
    let key : ℕ = c.index.result.now in
    let long = shown-length s.nodes.now s.kept.now c.self.invariant c.args.self.now c.self.view_is in
    let inside = c.requires in
    c.self.invariant key (read-contains keys c.args.number key (slice_get_read keys (length keys) c.args.number key refl (omega (arith, long, inside)) c.index.ensures))

pub returns : goal.returns
returns c =
    let s = c.self.inside in
    let keys : List ℕ = s.kept.now.keys.items in
    let key : ℕ = c.index.result.now in
    let long = shown-length s.nodes.now s.kept.now c.self.invariant c.args.self.now c.self.view_is in
    let inside = c.requires in
    let at : slice_get keys c.args.number ≡ Some key = slice_get_read keys (length keys) c.args.number key refl (omega (arith, long, inside)) c.index.ensures in
    shown-get s.nodes.now s.kept.now c.self.invariant c.args.self.now c.self.view_is c.args.number ∙ ap (λ (o : Option ℕ). option_and_then (get s.nodes.now) o) at ∙ c.index-2.ensures
