use Rattle.std.proofs.Common.{◌<◌, ◌^◌, ◌∙◌, ℕ, List, length, sym, ap, subst, arith}
use Rattle.std.specs.Prelude.{All}
use Rattle.std.proofs.lemmas.Result.{IfOk-weaker}
use Rattle.hd_prune.specs.declared.step.Kept.{Kept}
use Rattle.hd_prune.specs.declared.step.Owned.{Owned}
use Rattle.hd_prune.specs.Answer.{IsPruned}
use Rattle.hd_survey.specs.Owned.{AreOwnedTallies, ArePlacedTallies, is_placed, joined_of}
use Rattle.hd_survey.proofs.Owning.{AreInside, owned_are, placed_small, pruned_inside, tallies_long}
use Rattle.hd_survey.proofs.owned.owned_tallies.Goals as goal
use Rattle.hd_survey.proofs.owned.owned_tallies.Goals.{After-as_slice-owners}

-- the pruning with its kept pits and its owners as they are read
known : (c : After-as_slice-owners) → IsPruned c.requires.0 c.requires.1 c.requires.2 c.args.pruned.now.steps c.as_slice-kept.result.now c.as_slice-owners.result.now
known c =
    subst (λ (ks : List Kept). IsPruned c.requires.0 c.requires.1 c.requires.2 c.args.pruned.now.steps ks c.as_slice-owners.result.now) (sym c.as_slice-kept.ensures)
    (subst (λ (os : List Owned). IsPruned c.requires.0 c.requires.1 c.requires.2 c.args.pruned.now.steps c.args.pruned.now.kept os) (sym c.as_slice-owners.ensures) c.requires.4)

inside : (c : After-as_slice-owners) → AreInside c.args.count c.as_slice-kept.result.now c.as_slice-owners.result.now
inside c = pruned_inside c.requires.0 c.requires.1 c.requires.2 c.requires.3 c.args.pruned.now.steps c.as_slice-kept.result.now c.as_slice-owners.result.now (known c) c.args.count c.requires.6

pub kept_places-requires-clause-few : goal.kept_places-requires-clause-few
kept_places-requires-clause-few c = let few = (inside c).few in omega (arith, few)

pub kept_places-requires-clause-kept : goal.kept_places-requires-clause-kept
kept_places-requires-clause-kept c = (inside c).kept_in

pub kept_places-requires-clause-ordered : goal.kept_places-requires-clause-ordered
kept_places-requires-clause-ordered c = (inside c).ordered

pub place_tallies-requires-clause-long : goal.place_tallies-requires-clause-long
place_tallies-requires-clause-long c =
    tallies_long c.requires.0 c.requires.1 c.requires.2 c.requires.3 c.args.pruned.now.steps c.as_slice-kept.result.now c.as_slice-owners.result.now
    (known (goal.at.place_tallies-requires-clause-long c).After-as_slice-owners) c.args.tallies.now c.requires.5

pub place_tallies-requires-clause-inside : goal.place_tallies-requires-clause-inside
place_tallies-requires-clause-inside c =
    subst (λ n. All (λ (o : Owned). o.owner.index < n) c.as_slice-owners.result.now) (sym (ap length c.as_slice.ensures.value ∙ c.in_ok-places.ensures.whole))
    (inside (goal.at.place_tallies-requires-clause-inside c).After-as_slice-owners).owned

pub place_tallies-requires-clause-few : goal.place_tallies-requires-clause-few
place_tallies-requires-clause-few c = λ i below.
    subst (λ (ps : List ℕ). (joined_of (is_placed ps i) c.as_slice-owners.result.now c.args.tallies.now).points < 2 ^ 32) (sym c.as_slice.ensures.value)
    (placed_small c.requires.0 c.requires.1 c.requires.2 c.requires.3 c.args.pruned.now.steps c.as_slice-kept.result.now c.as_slice-owners.result.now
    (known (goal.at.place_tallies-requires-clause-few c).After-as_slice-owners) c.args.tallies.now c.requires.5 c.in_ok-places.places.items c.args.count c.requires.6 c.in_ok-places.ensures i below)

pub returns : goal.returns
returns c =
    let kept = c.as_slice-kept.result.now in
    let owners = c.as_slice-owners.result.now in
    let tallies = c.args.tallies.now in
    let places = c.in_ok-places.places.items in
    IfOk-weaker c.place_tallies.result _ _
    (λ all is.
    subst (λ (ks : List Kept). AreOwnedTallies ks c.args.pruned.now.owners tallies all.items) c.as_slice-kept.ensures
    (subst (λ (os : List Owned). AreOwnedTallies kept os tallies all.items) c.as_slice-owners.ensures
    (owned_are c.requires.0 c.requires.1 c.requires.2 c.requires.3 c.args.pruned.now.steps kept owners
    (known (goal.at.returns c).After-as_slice-owners) tallies c.requires.5 places c.args.count c.requires.6 c.in_ok-places.ensures
    all.items (subst (λ (ps : List ℕ). ArePlacedTallies (length kept) ps owners tallies all.items) c.as_slice.ensures.value is))))
    c.place_tallies.ensures
