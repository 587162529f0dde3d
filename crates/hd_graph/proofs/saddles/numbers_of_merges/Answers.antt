use Rattle.std.proofs.Common.{◌∙◌, ℕ, length, get_or, ap, arith}
use Rattle.std.specs.Prelude.{pos}
use Rattle.std.proofs.lemmas.List.{length-replicate, length-set}
use Rattle.hd_graph.specs.declared.merges.Merge.{Merge}
use Rattle.hd_graph.proofs.MergeNumbers.{numbers-none, numbers-more, numbers-all}
use Rattle.hd_graph.proofs.saddles.numbers_of_merges.Goals as goal

pub loop-number-init : goal.loop-number-init
loop-number-init c =
    let all = c.in_ok-numbers.ensures.items_if_clones_equal (λ _ e. e) in
    record {
      long = ap length all ∙ length-replicate {A = ℕ} c.args.count (length c.args.merges.now);
      so = numbers-none c.args.merges.now c.args.count c.in_ok-numbers.numbers.items all;
    }

pub index_mut-requires : goal.index_mut-requires
index_mut-requires c =
    let d : Merge = record { low = 0; into = 0; at = record { height = pos 0; index = 0 } } in
    let inside = c.requires.within c.loop-number.number d c.loop-number-test.true in
    omega (arith, inside, c.loop-number.invariant.long, c.loop-number.numbers.ok.0)

pub loop-number-preserved : goal.loop-number-preserved
loop-number-preserved c =
    let d : Merge = record { low = 0; into = 0; at = record { height = pos 0; index = 0 } } in
    let j = c.loop-number.number in
    let numbers = c.loop-number.numbers.items in
    let inside = c.requires.within j d c.loop-number-test.true in
    record {
      long = length-set numbers (get_or c.args.merges.now j d).low j ∙ c.loop-number.invariant.long;
      so = numbers-more c.args.merges.now c.requires.once j numbers d c.loop-number.invariant.so c.loop-number-test.true (omega (arith, inside, c.loop-number.invariant.long));
    }

pub returns-clause-numbers : goal.returns-clause-numbers
returns-clause-numbers c = numbers-all c.args.merges.now c.loop-number.number c.loop-number.numbers.items c.loop-number.invariant.so (omega (arith, c.loop-number-test.false))
