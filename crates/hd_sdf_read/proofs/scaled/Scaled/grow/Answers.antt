use Rattle.std.proofs.Common.{◌≤◌, ◌-◌, arith, map, ap, refl, ◌∙◌}
use Rattle.std.proofs.lemmas.Int.{ints}
use Rattle.hd_map.specs.Cells.{wide_cells_in}
use Rattle.hd_map.specs.Packing.{multiplied}
use Rattle.hd_sdf_read.specs.Decimals.{most_places}
use Rattle.hd_sdf_read.specs.Keys.{with_places}
use Rattle.hd_sdf_read.proofs.Scaling.{has_decimals-with_places, Grows-fit, Grows-power, Grows-size, ten_power-small, with_places-same}
use Rattle.hd_sdf_read.proofs.scaled.Scaled.grow.Goals as goal

pub overflow_cast-ten_to : goal.overflow_cast-ten_to
overflow_cast-ten_to c =
    let few : c.args.places - c.args.self.now.places ≤ most_places = omega (arith, c.requires.few) in
    let small = ten_power-small (c.args.places - c.args.self.now.places) c.ten_to.result few c.ten_to.ensures in
    omega (arith, ints, small)

pub multiply-requires-clause-of_type : goal.multiply-requires-clause-of_type
multiply-requires-clause-of_type c =
    Grows-fit c.args.self.now c.args.places c.ten_to.result c.in-Some.greatest c.data_type.result c.with_places-data_type.result c.data_type.ensures c.with_places-data_type.ensures
    c.requires.few c.ten_to.ensures
    c.in-Some.ensures.0 c.in-Some.ensures.1

pub invariant_of-self : goal.invariant_of-self
invariant_of-self c =
    let s = c.args.self.now in
    let type = c.multiply.ensures.data_type ∙ c.with_places-data_type.ensures ∙ ap (λ t. with_places t c.args.places) c.data_type.ensures in
    record {
      decimals = has_decimals-with_places s.cells.data_type c.multiply.new.self.data_type c.args.places s.decimals type;
      places_are = with_places-same s.cells.data_type c.multiply.new.self.data_type c.args.places type;
      few = c.requires.few;
      greatest_is = Grows-size s c.args.places c.ten_to.result c.in-Some.greatest c.data_type.result c.with_places-data_type.result c.data_type.ensures
          c.with_places-data_type.ensures c.requires.few c.ten_to.ensures
          c.in-Some.ensures.0 c.in-Some.ensures.1 (wide_cells_in c.multiply.new.self) c.multiply.ensures.cells;
      small = c.in-Some.ensures.1;
    }

pub returns-in-Some : goal.returns-in-Some
returns-in-Some c =
    let s = c.args.self.now in
    let power = Grows-power s c.args.places c.ten_to.result c.in-Some.greatest c.data_type.result c.with_places-data_type.result c.data_type.ensures c.with_places-data_type.ensures
    c.requires.few c.ten_to.ensures
    c.in-Some.ensures.0 c.in-Some.ensures.1 in (
      c.multiply.ensures.cells ∙ ap (λ k. map (multiplied k) (wide_cells_in s.cells)) power,
      refl,
      c.multiply.ensures.data_type ∙ c.with_places-data_type.ensures ∙ ap (λ t. with_places t c.args.places) c.data_type.ensures,
    )
