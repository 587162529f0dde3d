use Rattle.std.proofs.Common.{◌≡◌, ◌<◌, ◌+◌, ◌-◌, ℕ, List, get_or, length, slice_get, Some, sym, subst, arith}
use Rattle.std.proofs.lemmas.Option.{slice_get-get_or}
use Rattle.hd_map.proofs.Places.{get-from_read}
use Rattle.hd_steep.specs.Chains.{AreFirstsFrom, AreNextsFrom}
use Rattle.hd_steep.proofs.Chained.{firsts-more, nexts-more}
use Rattle.hd_steep.proofs.chains.Chains.new.Goals as goal

pub loop-index-preserved : goal.loop-index-preserved
loop-index-preserved c =
    let places : List ℕ = c.args.places.now in
    let n : ℕ = c.loop-index.index - 1 in
    let own : ℕ = get_or places n 0 in
    let before : c.loop-index.index ≡ n + 1 = (let more = c.loop-index-test.true in omega arith) in
    let inside : n < length places = (let most = c.loop-index.invariant.inside in omega arith) in
    let at : slice_get places n ≡ Some own = slice_get-get_or places n 0 inside in
    let firsts : AreFirstsFrom places c.args.room (n + 1) c.loop-index.firsts.items = subst (λ k. AreFirstsFrom places c.args.room k c.loop-index.firsts.items) before c.loop-index.invariant.firsts in
    let nexts : AreNextsFrom places (n + 1) c.loop-index.nexts.items = subst (λ k. AreNextsFrom places k c.loop-index.nexts.items) before c.loop-index.invariant.nexts in
    let room : own < c.args.room = c.requires.within n 0 inside in
    let first : slice_get c.loop-index.firsts.items own ≡ Some c.index.result.now = get-from_read c.loop-index.firsts.items own _ _ (let long = firsts.long in omega arith) (sym c.index.ensures) in
    record {
      inside = omega arith;
      firsts = firsts-more places n own at c.args.room c.loop-index.firsts.items room firsts;
      nexts = nexts-more places n own at c.args.room c.loop-index.firsts.items c.loop-index.nexts.items c.index.result.now first firsts nexts;
    }

pub returns : goal.returns
returns c =
    let end : c.loop-index.index ≡ 0 = (let past = c.loop-index-test.false in omega arith) in
    record {
      firsts = subst (λ k. AreFirstsFrom c.args.places.now c.args.room k c.loop-index.firsts.items) end c.loop-index.invariant.firsts;
      nexts = subst (λ k. AreNextsFrom c.args.places.now k c.loop-index.nexts.items) end c.loop-index.invariant.nexts;
    }
