-- A pruning certificate has one verdict at most.
use Rattle.std.proofs.Common.{◌≡◌, ℕ, ℤ, List, Some, None, inl, inr, refl, ap, subst, arith}
use Rattle.std.proofs.lemmas.Bool.{cases_lt}
use Rattle.hd_map.specs.declared.types.SideName.{SideName}
use Rattle.hd_map.specs.Map.{Map}
use Rattle.hd_map.specs.Sets.{under}
use Rattle.hd_map.proofs.Points.{same_place}
use Rattle.hd_map.proofs.Prunings.{sz-unique}
use Rattle.hd_check.specs.declared.types.Verdict.{Verdict}
use Rattle.hd_check.specs.Judged.{TriedFrom}
use Rattle.hd_check.proofs.Determined.{AreDetermined, IsDetermined, AsksEach-one, TriedFrom-unique}
use Rattle.hd_audit.specs.declared.types.Audit.{Audit}
use Rattle.hd_audit.specs.declared.types.AuditLine.{AuditLine}
use Rattle.hd_audit.specs.Rules.{CutsClosed, FirstLeak, IsVerdict, all_rules, rules_of}

closed_one : (m : Map) (side : SideName) (thousandths : ℕ) (sz : ℤ) (lines : List AuditLine) → IsDetermined (CutsClosed m side thousandths sz lines)
closed_one m side thousandths sz lines None None h k = refl
closed_one m side thousandths sz lines None (Some q) h (j, inside, before, leak) = absurd (h j inside q leak.0)
closed_one m side thousandths sz lines (Some p) None (j, inside, before, leak) k = absurd (k j inside p leak.0)
closed_one m side thousandths sz lines (Some p) (Some q) (i, inside, before, leak) (j, inside', before', leak') = elim (cases_lt i j) [
  | inl less ↦ absurd (before' i less p leak.0)
  | inr more ↦ elim (cases_lt j i) [
    | inl less ↦ absurd (before j less q leak'.0)
    | inr more' ↦
        let e : j ≡ i = omega (arith, more, more') in
        let there = subst (λ (k : ℕ). FirstLeak m side thousandths sz lines k (Some q)) e leak' in
        let up = leak.1 q there.0 in
        let down = there.1 p leak.0 in
        ap Some (same_place m.size p q leak.0.neighbour.to.in_grid there.0.neighbour.to.in_grid (omega (arith, up, down)))
  ]
]

rules_one : (m : Map) (side : SideName) (thousandths : ℕ) (sz : ℤ) (lines : List AuditLine) → AreDetermined (rules_of m side thousandths sz lines)
rules_one m side thousandths sz lines =
    (AsksEach-one _ _ _, (AsksEach-one _ _ _, (AsksEach-one _ _ _, (AsksEach-one _ _ _, (AsksEach-one _ _ _, (closed_one m side thousandths sz lines, (AsksEach-one _ _ _, tt)))))))

pub IsVerdict-unique : (m : Map) (a : Audit) (v w : Verdict) → IsVerdict m a v → IsVerdict m a w → v ≡ w
IsVerdict-unique m a v w h k =
    let same = sz-unique (under a.adjacency m) k.sz h.sz k.sz_is h.sz_is in
    TriedFrom-unique 12 (all_rules (under a.adjacency m) h.sz a) (rules_one (under a.adjacency m) a.side a.percent.thousandths h.sz a.lines) v w h.tried
    (subst (λ (sz : ℤ). TriedFrom 12 (all_rules (under a.adjacency m) sz a) w) same k.tried)
