use Rattle.std.proofs.Common.{◌∙◌, ℕ, List, length, map, sym, ap, subst}
use Rattle.std.proofs.lemmas.Result.{IfOk-weaker}
use Rattle.std.proofs.lemmas.Simd.{map-map}
use Rattle.hd_prune.specs.declared.step.Kept.{Kept}
use Rattle.hd_regions.specs.declared.tally.Tally.{Tally}
use Rattle.hd_survey.specs.Owned.{AreOwnedTallies, AreSized, HavePoints, plain_tally}
use Rattle.hd_survey.proofs.owned.owned_sizes.Goals as goal

pub owned_tallies-requires : goal.owned_tallies-requires
owned_tallies-requires c =
    let points : Tally → ℕ = λ t. t.points in
    let same = ap (map points) (c.as_slice.ensures.value ∙ c.in_ok-tallies.ensures) ∙ map-map points plain_tally c.args.sizes.now in
    (c.requires.0, c.requires.1, c.requires.2, c.requires.3, c.requires.4, subst (HavePoints c.requires.0 c.requires.1) (sym same) c.requires.5, c.requires.6)

pub returns : goal.returns
returns c =
    let kept = c.args.pruned.now.kept in
    let owners = c.args.pruned.now.owners in
    let all = c.in_ok-all.all.items in
    IfOk-weaker c.size_kept.result _ _
    (λ list is. (
      all,
      subst (λ (ts : List Tally). AreOwnedTallies kept owners ts all) (c.as_slice.ensures.value ∙ c.in_ok-tallies.ensures) c.in_ok-all.ensures,
      subst (λ (ks : List Kept). AreSized ks all (length ks) list) c.as_slice-2.ensures
          (subst (λ (ts : List Tally). AreSized c.as_slice-2.result.now ts (length c.as_slice-2.result.now) list) c.as_slice-3.ensures.value is),
    ))
    c.size_kept.ensures
