use Rattle.std.proofs.Common.{◌≢◌, ◌<◌, ◌^◌, ◌∙◌, ap, length, sym, subst, List}
use Rattle.std.specs.Prelude.{AllPairs}
use Rattle.std.proofs.lemmas.Result.{IfOk-weaker}
use Rattle.hd_graph.specs.declared.graph.Low.{Low}
use Rattle.hd_graph.specs.Graph.{IsLow}
use Rattle.hd_graph.specs.Links.{rank_at}
use Rattle.hd_graph.specs.Tells.{AreMergesOf}
use Rattle.hd_survey.proofs.MapMerges.{few_lows, lows_different, merges_of_map}
use Rattle.hd_survey.proofs.saddles.saddle_between.Goals as goal

pub place_of-first-requires-clause-few : goal.place_of-first-requires-clause-few
place_of-first-requires-clause-few g c =
    let are = c.find_merges.ensures.findings.merges c.merges.result.now c.merges.ensures in
    subst (λ (xs : List Low). length xs < 2 ^ 32) (sym c.as_slice.ensures) (few_lows (g.G.Heights.map c.args.grid.now) g.S.Side.NAME c.merges.result.now are (g.met.G.Heights.whole c.args.grid.now))

pub place_of-first-requires-clause-there : goal.place_of-first-requires-clause-there
place_of-first-requires-clause-there g c =
    let are = c.find_merges.ensures.findings.merges c.merges.result.now c.merges.ensures in
    subst (λ (xs : List Low). IsLow xs c.args.from) (sym c.as_slice.ensures) (((merges_of_map (g.G.Heights.map c.args.grid.now) g.S.Side.NAME c.merges.result.now are).pits
    c.args.from).1 c.requires.from)

pub place_of-second-requires-clause-few : goal.place_of-second-requires-clause-few
place_of-second-requires-clause-few g c =
    let are = c.find_merges.ensures.findings.merges c.merges.result.now c.merges.ensures in
    subst (λ (xs : List Low). length xs < 2 ^ 32) (sym c.as_slice-2.ensures) (few_lows (g.G.Heights.map c.args.grid.now) g.S.Side.NAME c.merges.result.now are (g.met.G.Heights.whole c.args.grid.now))

pub place_of-second-requires-clause-there : goal.place_of-second-requires-clause-there
place_of-second-requires-clause-there g c =
    let are = c.find_merges.ensures.findings.merges c.merges.result.now c.merges.ensures in
    subst (λ (xs : List Low). IsLow xs c.args.to) (sym c.as_slice-2.ensures) (((merges_of_map (g.G.Heights.map c.args.grid.now) g.S.Side.NAME c.merges.result.now are).pits c.args.to).1 c.requires.to)

pub saddle_of_merges-requires-clause-from : goal.saddle_of_merges-requires-clause-from
saddle_of_merges-requires-clause-from g c =
    subst (λ (xs : List Low). c.place_of-first.result < length xs) (c.as_slice.ensures ∙ sym c.as_slice-3.ensures) c.place_of-first.ensures.inside

pub saddle_of_merges-requires-clause-to : goal.saddle_of_merges-requires-clause-to
saddle_of_merges-requires-clause-to g c =
    subst (λ (xs : List Low). c.place_of-second.result < length xs) (c.as_slice-2.ensures ∙ sym c.as_slice-3.ensures) c.place_of-second.ensures.inside

pub saddle_of_merges-requires-clause-different : goal.saddle_of_merges-requires-clause-different
saddle_of_merges-requires-clause-different g c =
    let are = c.find_merges.ensures.findings.merges c.merges.result.now c.merges.ensures in
    subst (λ (xs : List Low). AllPairs (λ x y. x.rank.index ≢ y.rank.index) xs) (sym c.as_slice-3.ensures) (lows_different (g.G.Heights.map c.args.grid.now) g.S.Side.NAME c.merges.result.now are)

pub saddle_of_merges-requires-clause-merges : goal.saddle_of_merges-requires-clause-merges
saddle_of_merges-requires-clause-merges g c =
    let m = g.G.Heights.map c.args.grid.now in
    let are = c.find_merges.ensures.findings.merges c.merges.result.now c.merges.ensures in
    (m, g.met.G.Heights.whole c.args.grid.now, rw (c.as_slice-3.ensures, c.as_slice-4.ensures) (merges_of_map m g.S.Side.NAME c.merges.result.now are))

pub returns-clause-saddle : goal.returns-clause-saddle
returns-clause-saddle g c =
    let m = g.G.Heights.map c.args.grid.now in
    let side = g.S.Side.NAME in
    let x = c.merges.result.now in
    let are : AreMergesOf m side c.as_slice-3.result.now c.as_slice-4.result.now = rw (c.as_slice-3.ensures, c.as_slice-4.ensures)
    (merges_of_map m side x (c.find_merges.ensures.findings.merges x c.merges.ensures)) in
    let first = ap (λ (xs : List Low). rank_at xs c.place_of-first.result) (c.as_slice-3.ensures ∙ sym c.as_slice.ensures) ∙ c.place_of-first.ensures.low in
    let second = ap (λ (xs : List Low). rank_at xs c.place_of-second.result) (c.as_slice-3.ensures ∙ sym c.as_slice-2.ensures) ∙ c.place_of-second.ensures.low in
    IfOk-weaker c.saddle_of_merges.result _ _ (λ saddle is. rw (sym first, sym second) (is m (g.met.G.Heights.whole c.args.grid.now) are)) c.saddle_of_merges.ensures
