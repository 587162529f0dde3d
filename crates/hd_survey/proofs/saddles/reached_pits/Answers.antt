use Rattle.std.proofs.Common.{◌≡◌, ◌≢◌, ◌<◌, ◌^◌, ◌∙◌, ap, length, sym, subst, List}
use Rattle.std.specs.Prelude.{AllPairs}
use Rattle.std.proofs.lemmas.Result.{IfOk-weaker}
use Rattle.hd_graph.specs.declared.graph.Low.{Low}
use Rattle.hd_graph.specs.Graph.{IsLow}
use Rattle.hd_graph.specs.Links.{rank_at}
use Rattle.hd_graph.specs.Tells.{AreMergesOf}
use Rattle.hd_map.specs.Pruning.{ArePits}
use Rattle.hd_prune.specs.Staying.{ranks_of}
use Rattle.hd_survey.proofs.MapMerges.{few_lows, lows_different, merges_of_map}
use Rattle.hd_survey.proofs.ReachedBelow.{reached-lows}
use Rattle.hd_survey.proofs.saddles.reached_pits.Goals as goal

pub place_of-place-requires-clause-few : goal.place_of-place-requires-clause-few
place_of-place-requires-clause-few g c =
    let are = c.requires.findings.merges c.merges.result.now c.merges.ensures in
    subst (λ (xs : List Low). length xs < 2 ^ 32) (sym c.as_slice.ensures) (few_lows (g.G.Heights.map c.args._grid.now) g.S.Side.NAME c.merges.result.now are (g.met.G.Heights.whole c.args._grid.now))

pub place_of-place-requires-clause-there : goal.place_of-place-requires-clause-there
place_of-place-requires-clause-there g c =
    let are = c.requires.findings.merges c.merges.result.now c.merges.ensures in
    subst (λ (xs : List Low). IsLow xs c.args.from) (sym c.as_slice.ensures) (((merges_of_map (g.G.Heights.map c.args._grid.now) g.S.Side.NAME c.merges.result.now are).pits
    c.args.from).1 c.requires.from)

pub joined_lows-requires-clause-from : goal.joined_lows-requires-clause-from
joined_lows-requires-clause-from g c =
    subst (λ (xs : List Low). c.place_of-place.result < length xs) (c.as_slice.ensures ∙ sym c.as_slice-2.ensures) c.place_of-place.ensures.inside

pub joined_lows-requires-clause-different : goal.joined_lows-requires-clause-different
joined_lows-requires-clause-different g c =
    let are = c.requires.findings.merges c.merges.result.now c.merges.ensures in
    subst (λ (xs : List Low). AllPairs (λ x y. x.rank.index ≢ y.rank.index) xs) (sym c.as_slice-2.ensures) (lows_different (g.G.Heights.map c.args._grid.now) g.S.Side.NAME c.merges.result.now are)

pub joined_lows-requires-clause-merges : goal.joined_lows-requires-clause-merges
joined_lows-requires-clause-merges g c =
    let m = g.G.Heights.map c.args._grid.now in
    let are = c.requires.findings.merges c.merges.result.now c.merges.ensures in
    (m, g.met.G.Heights.whole c.args._grid.now, rw (c.as_slice-2.ensures, c.as_slice-3.ensures) (merges_of_map m g.S.Side.NAME c.merges.result.now are))

pub returns : goal.returns
returns g c =
    let m = g.G.Heights.map c.args._grid.now in
    let side = g.S.Side.NAME in
    let x = c.merges.result.now in
    let found = c.requires.findings.merges x c.merges.ensures in
    let lows = c.as_slice-2.result.now in
    let are : AreMergesOf m side lows c.as_slice-3.result.now = rw (c.as_slice-2.ensures, c.as_slice-3.ensures) (merges_of_map m side x found) in
    let pits : ArePits m side (ranks_of lows) = rw c.as_slice-2.ensures found.pits in
    let at : rank_at lows c.place_of-place.result ≡ c.args.from = ap (λ (xs : List Low). rank_at xs c.place_of-place.result) (c.as_slice-2.ensures ∙ sym c.as_slice.ensures)
    ∙ c.place_of-place.ensures.low in
    IfOk-weaker c.joined_lows.result _ _
    (λ joined told. reached-lows m side c.args.saddle c.args.from c.requires.from.point c.requires.low lows c.place_of-place.result at joined.items
    (told m (g.met.G.Heights.whole c.args._grid.now) are) pits)
    c.joined_lows.ensures
