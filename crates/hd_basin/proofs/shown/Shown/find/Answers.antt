use Rattle.std.proofs.Common.{◌≡◌, ℕ, Option, List, Some, None, length, option_and_then, slice_get, refl, sym, ◌∙◌, ap}
use Rattle.std.proofs.lemmas.Option.{slice_get_past, slice_get_read}
use Rattle.slab.specs.Slab.{get}
use Rattle.hd_basin.proofs.Stocked.{shown-get}
use Rattle.hd_basin.proofs.shown.Shown.find.Goals as goal

pub returns-in-Some : goal.returns-in-Some
returns-in-Some c =
    let s = c.self.inside in
    let keys : List ℕ = c.deref.result.now in
    let key : ℕ = c.in-Some.key.now in
    let look = c.in-Some.ensures.lookup in
    let at : slice_get s.kept.now.keys.items c.args.number ≡ Some key = ap (λ (ks : List ℕ). slice_get ks c.args.number) (sym c.deref.ensures.value)
    ∙ slice_get_read keys (length keys) c.args.number key refl look.3.0 look.1 in
    c.copied.ensures ∙ c.get-in-Some.ensures ∙ sym (shown-get s.nodes.now s.kept.now c.self.invariant c.args.self.now c.self.view_is c.args.number
    ∙ ap (λ (o : Option ℕ). option_and_then (get s.nodes.now) o) at)

pub returns-in-None : goal.returns-in-None
returns-in-None c =
    let s = c.self.inside in
    let keys : List ℕ = c.deref.result.now in
    let at : slice_get s.kept.now.keys.items c.args.number ≡ None = ap (λ (ks : List ℕ). slice_get ks c.args.number) (sym c.deref.ensures.value)
    ∙ slice_get_past keys c.args.number c.in-None.ensures.lookup.3 in
    sym (shown-get s.nodes.now s.kept.now c.self.invariant c.args.self.now c.self.view_is c.args.number ∙ ap (λ (o : Option ℕ). option_and_then (get s.nodes.now) o) at)
