use Rattle.std.proofs.Common.{rules, refl, SFits, w64}
use Rattle.std.proofs.lemmas.Int.{to_z-of_z}
use Rattle.hd_basin.proofs.extents.extent_with.Goals as goal

pub returns-in-Some : goal.returns-in-Some
returns-in-Some c =
    let high : SFits w64 c.greater.result = search rules in
    let least : SFits w64 c.lesser.result = search rules in
    let high_a : SFits w64 c.in-Some.extent.high = search rules in
    let high_b : SFits w64 c.args.node.high = search rules in
    let least_a : SFits w64 c.in-Some.extent.least = search rules in
    let least_b : SFits w64 c.args.node.least = search rules in
    rw c.in-Some.is (record {
      pit = refl;
      points = refl;
      high = rw (to_z-of_z w64 c.greater.result high) (rw (to_z-of_z w64 _ high_a, to_z-of_z w64 _ high_b) at c.greater.ensures);
      least = rw (to_z-of_z w64 c.lesser.result least) (rw (to_z-of_z w64 _ least_a, to_z-of_z w64 _ least_b) at c.lesser.ensures);
      edge_low = c.least_of.ensures;
      edge_high = c.greatest_of.ensures;
    })
