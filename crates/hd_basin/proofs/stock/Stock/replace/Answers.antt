use Rattle.std.proofs.Common.{◌≡◌, ℕ, List, Some, Result, Ok, Err, length, map, set, slice_get, refl, ◌∙◌, ap, subst}
use Rattle.std.specs.Prelude.{OnErr}
use Rattle.std.proofs.lemmas.Option.{slice_get_read}
use Rattle.hd_basin.specs.declared.kept.Kept.{Kept}
use Rattle.hd_basin.specs.declared.node.Node.{Node}
use Rattle.hd_basin.specs.declared.part.Part.{Part}
use Rattle.hd_basin.specs.Stock.{ArePut, AreTakenOut, part_of}
use Rattle.hd_basin.proofs.Stocked.{replaced-stocked, replaced-view, same-stocked, same-view, tile-inside}
use Rattle.hd_basin.proofs.stock.Stock.replace.Goals as goal

-- what holds holds after an error
on_err : {A E : Type 0} (r : Result A E) {P : Type 0} → P → OnErr r P
on_err (Ok a) h = tt
on_err (Err e) h = h

-- where memory was refused, the same stands under all keys
pub invariant_of-self : goal.invariant_of-self
invariant_of-self c = (let s = c.self.inside in same-stocked s.nodes c.put_in.new.slab s.tiles.items c.in_err-keys.ensures.err c.self.invariant)

pub returns-in_err-keys-clause-err : goal.returns-in_err-keys-clause-err
returns-in_err-keys-clause-err c =
    let s = c.self.inside in
    let same : map (part_of c.put_in.new.slab) s.tiles.items ≡ c.args.self.now = same-view s.nodes c.put_in.new.slab s.tiles.items c.in_err-keys.ensures.err ∙ c.self.view_is in
    on_err c.from_residual.result same

pub invariant_of-self-2 : goal.invariant_of-self-2
invariant_of-self-2 c =
    let s = c.self.inside in
    let part = c.args.part in
    let was : Kept = c.index.result.now in
    let kept : Kept = record { seen = part.seen; keys = c.in_ok-keys.keys; labels = part.labels; joins = part.joins; seams = part.seams } in
    let inside = tile-inside s.nodes s.tiles.items c.args.self.now c.self.view_is c.args.tile c.requires in
    let at : slice_get s.tiles.items c.args.tile ≡ Some was = slice_get_read s.tiles.items (length s.tiles.items) c.args.tile was refl inside c.index.ensures in
    let put : ArePut s.nodes c.put_in.new.slab kept.keys.items part.nodes = subst
    (λ (ns : List Node). ArePut s.nodes c.put_in.new.slab kept.keys.items ns) c.as_slice.ensures c.in_ok-keys.ensures.ok in
    let out : AreTakenOut c.put_in.new.slab c.take_out.new.slab was.keys.items = subst
    (λ (ks : List ℕ). AreTakenOut c.put_in.new.slab c.take_out.new.slab ks) c.as_slice-2.ensures.value c.take_out.ensures in
    replaced-stocked s.nodes c.put_in.new.slab c.take_out.new.slab s.tiles.items c.args.tile was kept part c.self.invariant inside at put out

pub returns-clause-ok : goal.returns-clause-ok
returns-clause-ok c =
    let s = c.self.inside in
    let part = c.args.part in
    let was : Kept = c.index.result.now in
    let kept : Kept = record { seen = part.seen; keys = c.in_ok-keys.keys; labels = part.labels; joins = part.joins; seams = part.seams } in
    let inside = tile-inside s.nodes s.tiles.items c.args.self.now c.self.view_is c.args.tile c.requires in
    let at : slice_get s.tiles.items c.args.tile ≡ Some was = slice_get_read s.tiles.items (length s.tiles.items) c.args.tile was refl inside c.index.ensures in
    let put : ArePut s.nodes c.put_in.new.slab kept.keys.items part.nodes = subst
    (λ (ns : List Node). ArePut s.nodes c.put_in.new.slab kept.keys.items ns) c.as_slice.ensures c.in_ok-keys.ensures.ok in
    let out : AreTakenOut c.put_in.new.slab c.take_out.new.slab was.keys.items = subst
    (λ (ks : List ℕ). AreTakenOut c.put_in.new.slab c.take_out.new.slab ks) c.as_slice-2.ensures.value c.take_out.ensures in
    replaced-view s.nodes c.put_in.new.slab c.take_out.new.slab s.tiles.items c.args.tile was kept part c.self.invariant inside at put out
    ∙ ap (λ (ps : List Part). set ps c.args.tile part) c.self.view_is
