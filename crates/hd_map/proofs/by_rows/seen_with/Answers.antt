use mir.Syntax.{w32}
use mir.Val.{bool_byte, of_z, to_z}
use Rattle.std.proofs.Common.{refl, ◌≡◌, ◌∙◌, ap, ap₂, arith, ℤ}
use Rattle.std.specs.Prelude.{is_some}
use Rattle.std.proofs.lemmas.Int.{ints, to_z-of_z}
use Rattle.std.specs.Int.{int_min, int_max}
use Rattle.hd_map.specs.Encoding.{narrow}
use Rattle.hd_map.specs.Seen.{or_greatest}
use Rattle.hd_map.proofs.SeenRows.{AreSeen-more, or_greatest-fits}
use Rattle.hd_map.proofs.by_rows.seen_with.Goals as goal

pub returns : goal.returns
returns c = λ heights height so stands.
    let read : to_z w32 (of_z w32 c.args.number) ≡ c.args.number = to_z-of_z w32 c.args.number c.ranges.number in
    let shows : c.is_shown.result ≡ is_some (narrow.shown c.args.number) = c.is_shown.ensures ∙ ap (λ (z : ℤ). is_some (narrow.shown z)) read in
    let low = so.least.low in
    let below = so.least.high in
    let above = so.greatest.low in
    let high = so.greatest.high in
    let least : to_z w32 (of_z w32 c.args.seen.least) ≡ c.args.seen.least = to_z-of_z w32 c.args.seen.least (omega (arith, ints, low, below)) in
    let greatest : to_z w32 (of_z w32 c.args.seen.greatest) ≡ c.args.seen.greatest = to_z-of_z w32 c.args.seen.greatest (omega (arith, ints, above, high)) in
    let own : c.or_greatest.result ≡ or_greatest c.args.number = c.or_greatest.ensures ∙ ap or_greatest read in
    let picked : to_z w32 (of_z w32 c.or_greatest.result) ≡ or_greatest c.args.number =
    to_z-of_z w32 c.or_greatest.result (rw own (or_greatest-fits c.args.number c.ranges.number)) ∙ own in
    AreSeen-more heights height c.args.seen _ c.args.number (bool_byte c.is_shown.result) so stands
    (λ on. ap bool_byte (shows ∙ on)) (λ off. ap bool_byte (shows ∙ off))
    refl (to_z-of_z w32 c.min.result (record { sfits = c.min.type_inv }) ∙ c.min.ensures.value ∙ ap₂ int_min least picked)
    (to_z-of_z w32 c.max.result (record { sfits = c.max.type_inv }) ∙ c.max.ensures.value ∙ ap₂ int_max greatest read)
