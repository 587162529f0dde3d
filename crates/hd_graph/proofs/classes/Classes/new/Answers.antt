use Rattle.std.proofs.Common.{◌≡◌, ◌++◌, ◌∷◌, [], inl, inr, arith, List, ℕ}
use Rattle.hd_graph.proofs.AreOneClass.{own-classes}
use Rattle.std.proofs.lemmas.List.{length_push}
use Rattle.hd_map.proofs.Places.{get-push_cases}
use Rattle.hd_graph.proofs.classes.Classes.new.Goals as goal

pub returns-clause-falling : goal.returns-clause-falling
returns-clause-falling c = λ x y h. (let e = c.loop-number.invariant.own x y h in omega (arith, e))

pub returns-clause-own : goal.returns-clause-own
returns-clause-own c = λ x y h. own-classes c.loop-number.parents.items c.loop-number.invariant.own h

pub loop-number-preserved : goal.loop-number-preserved
loop-number-preserved c =
    let old : List ℕ = c.loop-number.parents.items in
    let number : ℕ = c.loop-number.number in
    let items : c.push.new.self.items ≡ old ++ number ∷ [] = c.in_ok-push.ensures.items in
    let long = c.loop-number.invariant.long in
    record {
      long = rw (items, length_push) (omega (arith, long));
      own = λ x y h. elim (get-push_cases old number y x (rw items at h)) [
        | inl before ↦ c.loop-number.invariant.own x y before
        | inr last ↦ omega (arith, last.0, last.1, long)
      ];
    }
