use Rattle.std.proofs.Common.{refl}
use Rattle.std.specs.Prelude.{pos, None}
use Rattle.hd_prune.specs.declared.step.Kept.{Kept}
use Rattle.hd_survey.proofs.KeptPlaces.{kept_places-more, kept_places-all}
use Rattle.hd_survey.proofs.owned.kept_places.Goals as goal

pub pits-preserved : goal.pits-preserved
pits-preserved c =
    let d : Kept = record { pit = record { height = pos 0; index = 0 }; nearest = None } in
    kept_places-more c.args.kept.now c.args.count c.pits.place c.pits.places.items _ d c.requires.ordered c.pits-test.true (c.requires.kept c.pits.place d c.pits-test.true) refl c.pits.invariant

pub returns : goal.returns
returns c = kept_places-all c.args.kept.now c.args.count c.pits.place c.pits.places.items c.pits-test.false c.pits.invariant
