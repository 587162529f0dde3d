use Rattle.std.proofs.Common.{◌≡◌, List, Option, Some, None, length, option_and_then, slice_get, refl, sym, ◌∙◌, ap}
use Rattle.std.proofs.lemmas.Option.{slice_get_past, slice_get_read}
use Rattle.hd_basin.specs.declared.kept.Kept.{Kept}
use Rattle.hd_basin.proofs.Stocked.{seen-stored}
use Rattle.hd_basin.proofs.stock.Stock.seen.Goals as goal

pub returns-in-Some : goal.returns-in-Some
returns-in-Some c =
    let s = c.self.inside in
    let kept : Kept = c.in-Some.kept.now in
    let tiles : List Kept = c.deref.result.now in
    let look = c.in-Some.ensures.lookup in
    let at : slice_get s.tiles.items c.args.tile ≡ Some kept = ap (λ (ks : List Kept). slice_get ks c.args.tile) (sym c.deref.ensures.value)
    ∙ slice_get_read tiles (length tiles) c.args.tile kept refl look.3.0 look.1 in
    sym (seen-stored s.nodes s.tiles.items c.args.self.now c.self.view_is c.args.tile ∙ ap (λ (o : Option Kept). option_and_then (λ (k : Kept). k.seen) o) at)

pub returns-in-None : goal.returns-in-None
returns-in-None c =
    let s = c.self.inside in
    let tiles : List Kept = c.deref.result.now in
    let at : slice_get s.tiles.items c.args.tile ≡ None = ap (λ (ks : List Kept). slice_get ks c.args.tile) (sym c.deref.ensures.value) ∙ slice_get_past tiles c.args.tile c.in-None.ensures.lookup.3 in
    sym (seen-stored s.nodes s.tiles.items c.args.self.now c.self.view_is c.args.tile ∙ ap (λ (o : Option Kept). option_and_then (λ (k : Kept). k.seen) o) at)
