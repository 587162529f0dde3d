use Rattle.std.proofs.Common.{◌≡◌, ◌∙◌, ℕ, ◌<◌, length, List, Bool, Some, true, false, slice_get, sym, ap, subst, arith}
use Rattle.std.proofs.lemmas.Option.{same_Some}
use Rattle.hd_map.specs.declared.types.Rank.{Rank}
use Rattle.hd_map.specs.Rank.{below_by}
use Rattle.hd_graph.specs.Parts.{with_low}
use Rattle.hd_graph.proofs.Grouped.{below-more, with_low-last, with_low-inside, with_low-there}
use Rattle.hd_map.proofs.Places.{get-from_read}
use Rattle.hd_graph.proofs.trees.add_low.Goals as goal
use Rattle.hd_graph.proofs.trees.add_low.Goals.{then-loop-at-test+else-below, else-loop-at-test, else-at-len-via-then-at-len+else-not-below, else-at-len-via-else-at-len}

pub returns-then-not-below : goal.returns-then-not-below
returns-then-not-below g c =
    let below : Rank → Rank → Bool = below_by g.S.Side.NAME in
    let xs : List Rank = c.into_vec-lows.result.items in
    let n : ℕ = c.loop-at.at in
    let x : Rank = c.index-then-at-len.result.now in
    let inside : n < length xs = omega (arith, c.if-at-len.true, c.len-2.ensures, c.into_vec-lows.result.ok.0) in
    let at : slice_get xs n ≡ Some x = get-from_read xs n _ _ inside (sym c.index-then-at-len.ensures) in
    let high : below x c.args.low ≡ false = elim c.loop-at-test.branch [
      | then-loop-at-test+else-below w ↦ (let same : x ≡ w.index.result.now = same_Some x w.index.result.now (sym at ∙ get-from_read xs n _ _ inside (sym w.index.ensures)) in
          subst (λ (z : Rank). below z c.args.low ≡ false) (sym same) (sym w.below.ensures ∙ w.if-below.false))
      | else-loop-at-test w ↦ absurd (omega (arith, inside, w.loop-at-test.false, c.len.ensures, c.into_vec-lows.result.ok.0))
    ] in
    let there : below c.args.low x ≡ false = (let e = c.below-then-at-len.ensures in let f = c.if-not-below.true in cc) in
    c.from_vec.ensures ∙ sym (with_low-there below c.args.low xs n x at high there c.loop-at.invariant.so) ∙ ap (λ (ys : List Rank). with_low below c.args.low ys) c.into_vec-lows.ensures

pub returns : goal.returns
returns g c =
    let below : Rank → Rank → Bool = below_by g.S.Side.NAME in
    let xs : List Rank = c.into_vec-lows.result.items in
    let n : ℕ = c.loop-at.at in
    let within = c.loop-at.invariant.within in
    c.from_vec-2.ensures ∙ c.in_ok-insert.ensures.items ∙ sym (elim c.else-at-len.branch [
      | else-at-len-via-then-at-len+else-not-below v ↦ (
          let x : Rank = v.index-then-at-len.result.now in
          let inside : n < length xs = omega (arith, v.if-at-len.true, c.len-2.ensures, c.into_vec-lows.result.ok.0) in
          let at : slice_get xs n ≡ Some x = get-from_read xs n _ _ inside (sym v.index-then-at-len.ensures) in
          let high : below x c.args.low ≡ false = elim c.loop-at-test.branch [
            | then-loop-at-test+else-below w ↦ (let same : x ≡ w.index.result.now = same_Some x w.index.result.now (sym at ∙ get-from_read xs n _ _ inside (sym w.index.ensures)) in
                subst (λ (z : Rank). below z c.args.low ≡ false) (sym same) (sym w.below.ensures ∙ w.if-below.false))
            | else-loop-at-test w ↦ absurd (omega (arith, inside, w.loop-at-test.false, c.len.ensures, c.into_vec-lows.result.ok.0))
          ] in
          let less : below c.args.low x ≡ true = (let e = v.below-then-at-len.ensures in let f = v.if-not-below.false in cc) in
          with_low-inside below c.args.low xs n x at high less c.loop-at.invariant.so)
      | else-at-len-via-else-at-len v ↦ with_low-last below c.args.low xs n (omega (arith, within, v.if-at-len.false, c.len-2.ensures, c.into_vec-lows.result.ok.0)) c.loop-at.invariant.so
    ]) ∙ ap (λ (ys : List Rank). with_low below c.args.low ys) c.into_vec-lows.ensures

pub loop-at-preserved : goal.loop-at-preserved
loop-at-preserved g c =
    let xs : List Rank = c.into_vec-lows.result.items in
    let n : ℕ = c.loop-at.at in
    let inside : n < length xs = omega (arith, c.loop-at-test.true, c.len.ensures, c.into_vec-lows.result.ok.0) in
    record {
      within = omega arith;
      so = below-more (below_by g.S.Side.NAME) c.args.low xs n c.index.result.now (get-from_read xs n _ _ inside (sym c.index.ensures)) (sym c.below.ensures ∙ c.if-below.true) c.loop-at.invariant.so;
    }
