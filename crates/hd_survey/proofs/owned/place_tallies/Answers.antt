use Rattle.std.proofs.Common.{◌<◌, sym, subst}
use Rattle.std.specs.Prelude.{pos}
use Rattle.hd_map.specs.declared.types.Rank.{Rank}
use Rattle.hd_prune.specs.declared.step.Owned.{Owned}
use Rattle.hd_survey.specs.Tallies.{no_tally}
use Rattle.hd_survey.proofs.PlacedTallies.{placed_more}
use Rattle.hd_survey.proofs.owned.place_tallies.Goals as goal

pub pits-preserved : goal.pits-preserved
pits-preserved c =
    let none : Rank = record { height = pos 0; index = 0 } in
    let o : Owned = record { pit = none; owner = none } in
    placed_more c.args.count c.args.places.now c.args.owners.now c.args.tallies.now c.pits.number c.pits.all.items c.join_at.new.all.items o no_tally
    c.pits-test.true (subst (λ n. c.pits.number < n) (sym c.requires.long) c.pits-test.true) c.join_at.ensures c.pits.invariant
