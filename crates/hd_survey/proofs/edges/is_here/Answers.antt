use Rattle.std.proofs.Common.{◌≡◌, ◌<◌, ◌∙◌, Bool, ap, get_or, length, subst, sym}
use Rattle.std.specs.Prelude.{◌&&◌}
use Rattle.std.specs.Option.{is_some}
use Rattle.hd_map.specs.declared.types.Pos.{Pos}
use Rattle.hd_map.specs.declared.types.Size.{Size}
use Rattle.hd_map.specs.Map.{InGrid, place_of, height_at}
use Rattle.hd_map.proofs.Points.{place_inside}
use Rattle.hd_steep.specs.Numbering.{number_of}
use Rattle.hd_survey.specs.Edges.{at}
use Rattle.hd_survey.proofs.Numbers.{number-there}
use Rattle.hd_survey.proofs.RootedPoints.{inside_test}
use Rattle.hd_survey.proofs.edges.is_here.Goals as goal

pub number-requires : goal.number-requires
number-requires g c =
    let m = g.G.Heights.map c.args.grid.now in
    let p : Pos = at c.args.x c.args.y in
    let inside : InGrid m.size p = record { column = c.requires.column; profile = c.requires.profile } in
    let index : c.index_of.result ≡ place_of m.size p = c.index_of.ensures.value ∙ ap (λ (s : Size). place_of s p) c.size.ensures in
    subst (λ n. n < length c.args.regions.now.numbers) (sym index) (subst (λ n. place_of m.size p < n) (sym c.requires.whole) (place_inside m.size p inside))

pub returns : goal.returns
returns g c =
    let m = g.G.Heights.map c.args.grid.now in
    let p : Pos = at c.args.x c.args.y in
    let regions = c.args.regions.now in
    let inside : InGrid m.size p = record { column = c.requires.column; profile = c.requires.profile } in
    let index : c.index_of.result ≡ place_of m.size p = c.index_of.ensures.value ∙ ap (λ (s : Size). place_of s p) c.size.ensures in
    let below : place_of m.size p < length regions.numbers = subst (λ n. place_of m.size p < n) (sym c.requires.whole) (place_inside m.size p inside) in
    c.is_some.ensures ∙ ap is_some c.number.ensures ∙ ap (λ k. is_some (number_of regions.pits (get_or regions.numbers k 0))) index
    ∙ number-there regions (place_of m.size p) below ∙ c.requires.present p inside
    ∙ sym (ap (λ (b : Bool). b && is_some (height_at m p)) (inside_test m.size p inside))
