use Rattle.std.proofs.Common.{◌≡◌, ℕ, List, take, sym, subst, take_all}
use Rattle.std.specs.BTreeMap.{get}
use Rattle.std.proofs.lemmas.List.{take_more}
use Rattle.hd_basin.specs.declared.part.Seam.{Seam}
use Rattle.hd_basin.specs.Lowest.{HasLowest, IsNotedOf, pair_cmp}
use Rattle.hd_basin.proofs.HasLowest.{lowest-after, lowest-kept}
use Rattle.hd_basin.proofs.lowest.lowest_of.Goals as goal

pub loop-seam-preserved : goal.loop-seam-preserved
loop-seam-preserved g c =
    let all : List Seam = c.args.all.now in
    let i : ℕ = c.loop-seam.seam-index in
    subst (λ (xs : List Seam). HasLowest g.S.Side.NAME xs (get pair_cmp c.note_after.new.lowest) × IsNotedOf xs c.in_ok-last.last) (sym (take_more all i _ c.loop-seam-test.true))
    (lowest-after g.S.Side.NAME (take i all) c.loop-seam.lowest c.note_after.new.lowest c.loop-seam.last c.in_ok-last.last _ c.loop-seam.invariant.0 c.loop-seam.invariant.1 c.in_ok-last.ensures)

pub returns : goal.returns
returns g c =
    let all : List Seam = c.args.all.now in
    let whole : take c.loop-seam.seam-index all ≡ all = take_all c.loop-seam.seam-index all c.loop-seam-test.false in
    lowest-kept g.S.Side.NAME all c.loop-seam.lowest c.list_values.ensures.ordered
    (subst (λ (xs : List Seam). HasLowest g.S.Side.NAME xs (get pair_cmp c.loop-seam.lowest)) whole c.loop-seam.invariant.0) c.in_ok-kept.kept.items c.in_ok-kept.ensures.values
