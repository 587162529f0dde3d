use Rattle.std.proofs.Common.{◌≡◌, ◌+◌, ◌∷◌, ◌++◌, ◌⊎◌, List, ℕ, [], get_or, take, ap, sym, subst, inl, inr, arith}
use Rattle.std.specs.Prelude.{Contains}
use Rattle.std.proofs.lemmas.List.{take_all, take_more}
use Rattle.std.proofs.lemmas.List.Elements.{Contains-get_or, Contains-push, Contains-push_cases, Contains-append_left}
use Rattle.hd_map.specs.declared.types.Pos.{Pos}
use Rattle.hd_map.proofs.Gather.{same_pos}
use Rattle.hd_map.proofs.Items.{Contains-none}
use Rattle.hd_steep.specs.Descended.{Descends}
use Rattle.hd_steep.proofs.Descended.{descends_join, descends_none, descends_same}
use Rattle.hd_steep.proofs.descending.descend_columns.Goals as goal

pub descend_point-count-requires-clause-point : goal.descend_point-count-requires-clause-point
descend_point-count-requires-clause-point g c = c.requires.present (get_or c.args.columns.now c.loop-x.x-index 0) (Contains-get_or c.args.columns.now c.loop-x.x-index 0 c.loop-x-test.true)

pub loop-x-init : goal.loop-x-init
loop-x-init g c = record {
  descends = descends_none (g.G.Heights.map c.args.grid.now) g.S.Side.NAME (λ u. (u.y ≡ c.args.y) × Contains {X = ℕ} [] u.x) [] (λ u chosen here z low. absurd (Contains-none u.x chosen.1));
  few = omega arith;
}

pub loop-x-preserved : goal.loop-x-preserved
loop-x-preserved g c =
    let m = g.G.Heights.map c.args.grid.now in
    let side = g.S.Side.NAME in
    let y = c.args.y in
    let columns = c.args.columns.now in
    let n = c.loop-x.x-index in
    let x = get_or columns n 0 in
    let at : Pos = record { x = x; y = y } in
    let old = take c.loop-x.count c.loop-x.room in
    let new = take c.descend_point-count.result c.descend_point-count.new.room in
    let more : take (n + 1) columns ≡ take n columns ++ x ∷ [] = take_more columns n 0 c.loop-x-test.true in
    record {
      descends = subst (λ (xs : List ℕ). Descends m side (λ u. (u.y ≡ y) × Contains xs u.x) [] new) (sym more)
          (descends_same m side (λ u. ((u.y ≡ y) × Contains (take n columns) u.x) ⊎ (u ≡ at)) (λ u. (u.y ≡ y) × Contains (take n columns ++ x ∷ []) u.x) [] new
          (λ u here chosen. elim chosen [
            | inl before ↦ (before.0, Contains-append_left (take n columns) (x ∷ []) u.x before.1)
            | inr same ↦ (ap (λ (p : Pos). p.y) same, subst (Contains (take n columns ++ x ∷ [])) (sym (ap (λ (p : Pos). p.x) same)) (Contains-push (take n columns) x))
          ])
          (λ u here chosen. elim (Contains-push_cases (take n columns) x u.x chosen.1) [
            | inl before ↦ inl (chosen.0, before)
            | inr same ↦ inr (same_pos u at (sym same) chosen.0)
          ])
          (descends_join m side (λ u. (u.y ≡ y) × Contains (take n columns) u.x) (λ u. u ≡ at) [] old new c.loop-x.invariant.descends c.descend_point-count.ensures.descends));
      few = let before = c.loop-x.invariant.few in let one = c.descend_point-count.ensures.few in omega (arith, before, one);
    }

pub returns-clause-descends : goal.returns-clause-descends
returns-clause-descends g c =
    let m = g.G.Heights.map c.args.grid.now in
    let all = take_all c.loop-x.x-index c.args.columns.now c.loop-x-test.false in
    subst (λ (xs : List ℕ). Descends m g.S.Side.NAME (λ u. (u.y ≡ c.args.y) × Contains xs u.x) [] (take c.loop-x.count c.loop-x.room)) all c.loop-x.invariant.descends
