use Rattle.std.proofs.Common.{◌≡◌, ◌∙◌, ℕ, ℤ, SFits, w64, get_or, pos, ap₂, rules, arith}
use Rattle.std.proofs.Math.ListN.{length-set}
use Rattle.std.proofs.lemmas.Int.{to_z-of_z}
use Rattle.hd_feature.specs.Value.{greatest, least}
use Rattle.hd_stats.specs.Distribution.{bin_of}
use Rattle.hd_stats.proofs.Bins.{AreCounts-bins, count_by-few, count_by-next}
use Rattle.hd_stats.proofs.distribution.count_bins.Goals as goal

pub overflow_add-index_mut : goal.overflow_add-index_mut
overflow_add-index_mut c =
    let f : ℤ → ℕ = bin_of (least c.args.values.now) (greatest c.args.values.now) c.args.bins in
    let few = count_by-few f c.args.values.now c.values.value-index c.values.counts.items c.args.bins c.bin_of-bin.result c.index_mut.result.now c.values.invariant.whole
    c.bin_of-bin.ensures.inside c.index_mut.ensures.value c.values.invariant.each in
    search (rules, arith, few)

pub values-preserved : goal.values-preserved
values-preserved c =
    let value : SFits w64 (get_or c.args.values.now c.values.value-index (pos 0)) = search rules in
    let low : SFits w64 c.least-least.result = search rules in
    let high : SFits w64 c.greatest-greatest.result = search rules in
    let read = simp to_z-of_z at c.bin_of-bin.ensures.value in
    let f : ℤ → ℕ = bin_of (least c.args.values.now) (greatest c.args.values.now) c.args.bins in
    let x : ℤ = get_or c.args.values.now c.values.value-index (pos 0) in
    let bin : c.bin_of-bin.result ≡ f x = read ∙ ap₂ (λ l g. bin_of l g c.args.bins x) c.least-least.ensures c.greatest-greatest.ensures in
    record {
      whole = length-set c.values.counts.items c.bin_of-bin.result _ ∙ c.values.invariant.whole;
      each = count_by-next f c.args.values.now c.values.value-index (pos 0) c.values.counts.items c.args.bins c.bin_of-bin.result c.index_mut.result.now c.values-test.true
          c.values.invariant.whole c.bin_of-bin.ensures.inside bin c.index_mut.ensures.value c.values.invariant.each;
    }

pub returns : goal.returns
returns c =
    AreCounts-bins c.args.values.now c.values.value-index c.args.bins c.values.counts.items c.requires.values c.values-test.false c.values.invariant.whole c.values.invariant.each
