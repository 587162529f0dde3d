use Rattle.std.proofs.Common.{arith, ap, sym, ◌∙◌}
use Rattle.hd_map.specs.Cells.{wide_cells_in}
use Rattle.hd_sdf_read.specs.Decimals.{greatest_in}
use Rattle.hd_sdf_read.specs.Keys.{has_decimals, with_places}
use Rattle.hd_sdf_read.proofs.Scaling.{IsCellOf-fits, greatest_in-push}
use Rattle.hd_sdf_read.proofs.scaled.Scaled.push_cell.Goals as goal

pub push-requires : goal.push-requires
push-requires c =
    let size = c.requires.size in
    let small = c.requires.small in
    IsCellOf-fits c.args.self.now.cells.data_type c.args.cell c.args.self.now.decimals (omega (arith, size, small))

pub invariant_of-self : goal.invariant_of-self
invariant_of-self c =
    let s = c.args.self.now in
    let type = c.push.ensures.data_type in
    record {
      decimals = ap has_decimals type ∙ s.decimals;
      places_are = type ∙ s.places_are ∙ ap (λ t. with_places t s.places) (sym type);
      few = s.few;
      greatest_is = s.greatest_is ∙ ap greatest_in (sym c.in_err-push.ensures.err);
      small = s.small;
    }

pub invariant_of-self-2 : goal.invariant_of-self-2
invariant_of-self-2 c =
    let s = c.args.self.now in
    let type = c.push.ensures.data_type in
    let max = c.max-self.ensures in
    let size = c.requires.size in
    let few = c.requires.small in
    let before = s.greatest_is in
    let small = s.small in
    let more = ap greatest_in c.in_ok-push.ensures.ok ∙ greatest_in-push (wide_cells_in s.cells) c.args.cell in
    record {
      decimals = ap has_decimals type ∙ s.decimals;
      places_are = type ∙ s.places_are ∙ ap (λ t. with_places t s.places) (sym type);
      few = s.few;
      greatest_is = omega (arith, max, size, before, more);
      small = omega (arith, max, few, small);
    }
