use Rattle.std.proofs.Common.{◌≡◌, ◌<◌, ℕ, List, length, arith}
use Rattle.std.specs.Prelude.{Contains}
use Rattle.hd_map.specs.declared.types.Rank.{Rank}
use Rattle.hd_graph.specs.declared.merges.Merge.{Merge}
use Rattle.hd_graph.specs.Links.{rank_at}
use Rattle.hd_graph.proofs.MergeNumbers.{merge-read, no_merge-read}
use Rattle.hd_graph.proofs.MergeWays.{AreByHeight, by-height, ranks-apart, rests-first, way-ends, way-meets, way-on, ways-fall}
use Rattle.hd_graph.proofs.PitMerges.{few-merges, merge_is, pit_at}
use Rattle.hd_graph.proofs.saddles.saddle_of_merges.Given.{Over}
use Rattle.hd_graph.proofs.saddles.saddle_of_merges.Goals as goal
use Rattle.hd_graph.proofs.saddles.saddle_of_merges.Goals.{After-higher_first-high, In-Some}

-- the two ends, the higher one first
ordered : (g : Over) (c : After-higher_first-high g) → AreByHeight g.S.Side.NAME c.args.lows.now c.loop-end.end c.loop-end.other c.higher_first-high.result.0 c.higher_first-high.result.1
ordered g c = by-height g.S.Side.NAME c.args.lows.now c.requires.different c.loop-end.end c.loop-end.other c.loop-end.invariant.inside c.loop-end.invariant.other_inside
    c.loop-end-test.true c.higher_first-high.result c.higher_first-high.ensures

-- the merge of the higher end
found : (g : Over) (c : In-Some g) → c.higher_first-high.result.0 < length c.args.lows.now → Contains c.args.merges.now c.in-Some.merge.now × (c.in-Some.merge.now.low ≡ c.higher_first-high.result.0)
found g c inside =
    let look = c.in-Some.ensures.lookup in
    merge-read c.args.merges.now c.in_ok-numbers.numbers.items c.in_ok-numbers.ensures.numbers c.higher_first-high.result.0 c.index.result.now
    (omega (arith, inside, c.in_ok-numbers.ensures.long)) c.index.ensures c.in-Some.merge.now look.3.0 look.1

pub numbers_of_merges-requires-clause-within : goal.numbers_of_merges-requires-clause-within
numbers_of_merges-requires-clause-within g c = (let h = c.requires.merges in λ k d inside. (h.2.at_saddles.each k d inside).low)

pub numbers_of_merges-requires-clause-few : goal.numbers_of_merges-requires-clause-few
numbers_of_merges-requires-clause-few g c = (let h = c.requires.merges in few-merges h.0 g.S.Side.NAME c.args.lows.now c.args.merges.now h.2 h.1 c.requires.different)

pub loop-end-init : goal.loop-end-init
loop-end-init g c =
    let lows = c.args.lows.now in
    record {
      inside = c.requires.from;
      other_inside = c.requires.to;
      so = λ m is. rests-first m g.S.Side.NAME (rank_at lows c.args.from) (rank_at lows c.args.to)
          (pit_at m g.S.Side.NAME lows c.args.merges.now is c.args.from c.requires.from)
          (ranks-apart g.S.Side.NAME lows c.requires.different c.args.from c.args.to c.requires.from c.requires.to c.requires.apart);
      met = λ e. absurd (c.requires.apart e);
    }

pub higher_first-high-requires-clause-first : goal.higher_first-high-requires-clause-first
higher_first-high-requires-clause-first g c = c.loop-end.invariant.inside

pub higher_first-high-requires-clause-second : goal.higher_first-high-requires-clause-second
higher_first-high-requires-clause-second g c = c.loop-end.invariant.other_inside

pub index-requires : goal.index-requires
index-requires g c =
    let h = ordered g (goal.at.index-requires g c).After-higher_first-high in
    omega (arith, h.high_inside, c.in_ok-numbers.ensures.long, c.in_ok-numbers.numbers.ok.0)

pub returns-in_default : goal.returns-in_default
returns-in_default g c m whole is =
    let h = ordered g (goal.at.returns-in_default g c).After-higher_first-high in
    let high : ℕ = c.higher_first-high.result.0 in
    let numbers : List ℕ = c.in_ok-numbers.numbers.items in
    let inside : high < length numbers = omega (arith, h.high_inside, c.in_ok-numbers.ensures.long) in
    way-ends m g.S.Side.NAME c.args.lows.now c.args.merges.now is c.loop-end.end c.loop-end.other high c.higher_first-high.result.1 h
    (rank_at c.args.lows.now c.args.from) (rank_at c.args.lows.now c.args.to) c.loop-end.highest (c.loop-end.invariant.so m is)
    (no_merge-read c.args.merges.now numbers c.in_ok-numbers.ensures.numbers high c.index.result.now inside c.index.ensures c.in_default.ensures.lookup.3)

pub loop-end-smaller : goal.loop-end-smaller
loop-end-smaller g c =
    let h = ordered g (goal.at.loop-end-smaller g c).After-higher_first-high in
    let x = found g (goal.at.loop-end-smaller g c).In-Some h.high_inside in
    let of = c.requires.merges in
    ways-fall of.0 g.S.Side.NAME c.args.lows.now c.args.merges.now of.2 c.loop-end.end c.loop-end.other c.higher_first-high.result.0 c.higher_first-high.result.1 h of.1 c.in-Some.merge.now x.0 x.1

pub loop-end-preserved : goal.loop-end-preserved
loop-end-preserved g c =
    let h = ordered g (goal.at.loop-end-preserved g c).After-higher_first-high in
    let found_merge = found g (goal.at.loop-end-preserved g c).In-Some h.high_inside in
    let x : Merge = c.in-Some.merge.now in
    let of = c.requires.merges in
    let lows = c.args.lows.now in
    let p : Rank = rank_at lows c.args.from in
    let q : Rank = rank_at lows c.args.to in
    record {
      inside = (merge_is of.0 g.S.Side.NAME lows c.args.merges.now of.2 x found_merge.0).into;
      other_inside = h.deep_inside;
      so = λ m is. rw c.higher_of-highest.ensures (way-on m g.S.Side.NAME lows c.args.merges.now is c.loop-end.end c.loop-end.other c.higher_first-high.result.0
          c.higher_first-high.result.1 h p q c.loop-end.highest (c.loop-end.invariant.so m is) x found_merge.0 found_merge.1);
      met = λ e m is. rw c.higher_of-highest.ensures (way-meets m g.S.Side.NAME lows c.args.merges.now is c.loop-end.end c.loop-end.other c.higher_first-high.result.0
          c.higher_first-high.result.1 h p q c.loop-end.highest (c.loop-end.invariant.so m is) x found_merge.0 found_merge.1 e);
    }

pub returns : goal.returns
returns g c = λ m whole is. c.loop-end.invariant.met c.loop-end-test.false m is
