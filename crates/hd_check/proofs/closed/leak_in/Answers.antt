use Rattle.std.proofs.Common.{◌≡◌, ◌<◌, ◌+◌, ◌-◌, ◌*◌, ◌∙◌, ap, inl, inr, sym, subst, length, arith}
use Rattle.std.specs.List.{Contains}
use Rattle.std.proofs.lemmas.Bool.{cases_lt, false≢true}
use Rattle.std.proofs.lemmas.List.Elements.{Contains-get_or}
use Rattle.hd_map.specs.declared.types.Pos.{Pos}
use Rattle.hd_map.specs.declared.types.Size.{Size}
use Rattle.hd_map.specs.Map.{InGrid, place_of}
use Rattle.hd_check.specs.Profiles.{IsBehind, left_index}
use Rattle.hd_check.specs.Rules.{point_of}
use Rattle.hd_check.proofs.Leaks.{IsBehind-left, IsFirstFrom-after, IsFirstFrom-stays, IsLeak-open, IsLeak-none_more, IsFirstFrom-absent, place_at-apart, IsPlaceOf-goes_on}
use Rattle.hd_check.proofs.closed.leak_in.Goals as goal
use Rattle.hd_check.proofs.closed.leak_in.Goals.{then-stands_at, else-stands_at+else-is_open}

pub returns-then-is_open-clause-first : goal.returns-then-is_open-clause-first
returns-then-is_open-clause-first g c =
    let m = g.G.Heights.map c.args.surface.now in
    let at = c.args.at in
    let q : Pos = record { x = c.loop-x.x; y = at.y + c.args.step - 1 } in
    let other : c.loop-x.next < length c.args.cut.now → point_of c.args.cut.now c.loop-x.next ≡ q → ⊥ = λ inside e. false≢true (sym c.if-stands_at.false ∙ c.stands_at.ensures.1 (inside, e)) in
    let out = IsFirstFrom-absent m.size c.args.cut.now q c.loop-x.next c.requires.rises other c.loop-x.invariant.next in
    let row : at.y + c.args.step - 1 + 1 ≡ at.y + c.args.step = omega (arith, c.if-at-step-eq0.false) in
    let left = c.saturating_sub-left.ensures in
    let right = c.min-x-end.ensures in (
      row,
      IsLeak-open m c.args.side c.args.level c.args.cut.now at q c.requires.at c.requires.here (c.is_open.ensures.0 c.if-is_open.true) (omega (arith, left, c.loop-x.auto.x))
          (omega (arith, right, c.loop-x-test.true))
          (omega (arith, row, c.requires.step)) (omega (arith, row)) out,
      λ r e leak. elim (cases_lt r.x c.loop-x.x) [
        | inl before ↦ absurd (c.loop-x.invariant.none r (omega (arith, e)) before leak)
        | inr not ↦ not
      ],
    )

pub returns-then-is_open-clause-place : goal.returns-then-is_open-clause-place
returns-then-is_open-clause-place g c =
    let m = g.G.Heights.map c.args.surface.now in
    IsPlaceOf-goes_on m.size c.args.cut.now c.args.at c.args.step c.first_from.result (omega (arith, c.if-at-step-eq0.false))
    (IsBehind-left c.size-size.result m.size c.args.cut.now c.args.at c.args.step c.saturating_sub-left.result c.index_of.result c.first_from.result c.size-size.ensures
    (omega (arith, c.saturating_sub-left.ensures)) c.index_of.ensures.value c.first_from.ensures)

pub loop-x-preserved : goal.loop-x-preserved
loop-x-preserved g c =
    let m = g.G.Heights.map c.args.surface.now in
    let cut = c.args.cut.now in
    let at = c.args.at in
    let row = at.y + c.args.step - 1 in
    let q : Pos = record { x = c.loop-x.x; y = row } in
    let index = row * m.size.points + c.loop-x.x in
    let next = c.loop-x.next in
    let right = c.min-x-end.ensures in
    let width = ap (λ (s : Size). s.points) c.size-size.ensures in
    let height = ap (λ (s : Size). s.profiles) c.size-size.ensures in
    let there : InGrid m.size q = record { column = omega (arith, right, width, c.loop-x-test.true); profile = omega (arith, height, c.if-at-step-eq0.false, c.if-at-step.false) } in
    elim c.if-stands_at.branch [
      | then-stands_at w ↦ rw w.next-is
          (let found = c.stands_at.ensures.0 w.if-stands_at.true in
          record {
            next = IsFirstFrom-after m.size cut index (row * m.size.points + (c.loop-x.x + 1)) next (omega arith) c.requires.rises found.0 (ap (place_of m.size) found.1);
            none = IsLeak-none_more m c.args.side c.args.level cut at row c.loop-x.x
                (λ leak. leak.outside (subst (Contains cut) found.1 (Contains-get_or cut next (record { x = 0; y = 0 }) found.0))) c.loop-x.invariant.none;
          })
      | else-stands_at+else-is_open w ↦ rw w.next-is
          (let other : next < length cut → point_of cut next ≡ q → ⊥ = λ inside e. false≢true (sym w.if-stands_at.false ∙ c.stands_at.ensures.1 (inside, e)) in
          record {
            next = IsFirstFrom-stays m.size cut index (row * m.size.points + (c.loop-x.x + 1)) next (omega arith)
                (λ inside. place_at-apart m.size cut q next (c.requires.present next inside).in_grid there (other inside)) c.loop-x.invariant.next;
            none = IsLeak-none_more m c.args.side c.args.level cut at row c.loop-x.x
                (λ leak. false≢true (sym w.if-is_open.false ∙ w.is_open.ensures.1 (leak.neighbour.beside, leak.neighbour.to, leak.below))) c.loop-x.invariant.none;
          })
    ]

pub returns-clause-place : goal.returns-clause-place
returns-clause-place g c =
    let m = g.G.Heights.map c.args.surface.now in
    IsPlaceOf-goes_on m.size c.args.cut.now c.args.at c.args.step c.first_from.result (omega (arith, c.if-at-step-eq0.false))
    (IsBehind-left c.size-size.result m.size c.args.cut.now c.args.at c.args.step c.saturating_sub-left.result c.index_of.result c.first_from.result c.size-size.ensures
    (omega (arith, c.saturating_sub-left.ensures)) c.index_of.ensures.value c.first_from.ensures)

pub index_of-requires : goal.index_of-requires
index_of-requires g c =
    let left = c.saturating_sub-left.ensures in
    let column = c.requires.here.in_grid.column in
    let width = ap (λ (s : Size). s.points) c.size-size.ensures in
    record {
      limits = rw c.size-size.ensures (g.met.G.Heights.whole c.args.surface.now).size;
      in_grid = record { column = omega (arith, left, column, width); profile = omega (arith, c.if-at-step-eq0.false, c.if-at-step.false) };
    }

pub first_from-requires-clause-inside : goal.first_from-requires-clause-inside
first_from-requires-clause-inside g c = λ k below. rw c.size-size.ensures (c.requires.present k below).in_grid

pub is_open-requires-clause-at : goal.is_open-requires-clause-at
is_open-requires-clause-at g c =
    let right = c.min-x-end.ensures in
    let width = ap (λ (s : Size). s.points) c.size-size.ensures in
    let height = ap (λ (s : Size). s.profiles) c.size-size.ensures in
    record { column = omega (arith, right, width, c.loop-x-test.true); profile = omega (arith, height, c.if-at-step-eq0.false, c.if-at-step.false) }

pub returns-clause-first : goal.returns-clause-first
returns-clause-first g c = λ q row leak.
    let right = c.min-x-end.ensures in
    let width = ap (λ (s : Size). s.points) c.size-size.ensures in
    let inside = leak.neighbour.to.in_grid.column in
    let near = leak.neighbour.columns in
    let end = c.loop-x-test.false in
    c.loop-x.invariant.none q (omega (arith, row, c.if-at-step-eq0.false)) (omega (arith, right, width, inside, near, end)) leak

pub first_from-requires-clause-start : goal.first_from-requires-clause-start
first_from-requires-clause-start g c =
    let m = g.G.Heights.map c.args.surface.now in
    let at = c.args.at in
    let q : Pos = record { x = c.saturating_sub-left.result; y = at.y + c.args.step - 1 } in
    let left : at.x - 1 ≡ c.saturating_sub-left.result = omega (arith, c.saturating_sub-left.ensures) in
    let index : left_index m.size at c.args.step ≡ c.index_of.result = ap (λ l. (at.y + c.args.step - 1) * m.size.points + l) left
    ∙ sym (c.index_of.ensures.value ∙ ap (λ (s : Size). place_of s q) c.size-size.ensures) in
    rw c.size-size.ensures (subst (λ i. IsBehind m.size c.args.cut.now i c.args.place.now) index (c.requires.place at (omega arith) (omega (arith, c.if-at-step-eq0.false))))
