use Rattle.std.proofs.Common.{◌≡◌, ◌<◌, ◌+◌, ap, refl, rules, replicate, subst, sym}
use Rattle.std.specs.Prelude.{◌↔◌, IsTrue}
use Rattle.hd_map.specs.declared.types.Pos.{Pos}
use Rattle.hd_map.specs.declared.types.Size.{Size}
use Rattle.hd_map.specs.Map.{Present, cell_count, position_at}
use Rattle.hd_audit.specs.declared.standing.Standing.TheVariants.{Absent}
use Rattle.hd_map.proofs.PositionOrder.{at-first, at-inside, at-next, at-position}
use Rattle.hd_audit.specs.Standings.{AreStandingTo}
use Rattle.hd_audit.proofs.Standings.{AreStandingTo-absent, AreStandingTo-none, AreStandingTo-present}
use Rattle.hd_audit.proofs.standing.standings.Goals.{then-is_present, else-is_present}
use Rattle.hd_audit.proofs.standing.standings.Goals as goal

pub loop-index-init : goal.loop-index-init
loop-index-init g c =
    let m = g.G.Heights.map c.args.grid.now in
    let blank : c.in_ok-standings.standings.items ≡ replicate (cell_count m.size) Absent = search rules in
    record {
      at = at-first m.size (record { x = 0; y = 0 }) refl refl (g.met.G.Heights.whole c.args.grid.now).size.some_points;
      made = AreStandingTo-none m c.in_ok-standings.standings.items blank;
    }

pub is_present-requires : goal.is_present-requires
is_present-requires g c = at-inside (g.G.Heights.map c.args.grid.now).size c.size-size.result c.loop-index.index c.loop-index.at c.size-size.ensures c.loop-index.invariant.at c.loop-index-test.true

pub position_after-at-requires : goal.position_after-at-requires
position_after-at-requires g c = record {
  limits = rw c.size-size.ensures (g.met.G.Heights.whole c.args.grid.now).size;
  in_grid = rw c.size-size.ensures (at-inside (g.G.Heights.map c.args.grid.now).size c.size-size.result c.loop-index.index c.loop-index.at c.size-size.ensures
      c.loop-index.invariant.at c.loop-index-test.true);
}

pub loop-index-preserved : goal.loop-index-preserved
loop-index-preserved g c =
    let m = g.G.Heights.map c.args.grid.now in
    let n = c.loop-index.index in
    let at = c.loop-index.at in
    let old = c.loop-index.invariant in
    let standings = c.loop-index.standings.items in
    let there = at-inside m.size c.size-size.result n at c.size-size.ensures old.at c.loop-index-test.true in
    let next = at-next m.size c.size-size.result n at c.position_after-at.result c.size-size.ensures old.at c.position_after-at.ensures.column c.position_after-at.ensures.place in
    let inside : n < cell_count m.size = subst (λ (s : Size). n < cell_count s) c.size-size.ensures c.loop-index-test.true in
    let is : IsTrue c.is_present.result ↔ Present m (position_at m.size n) = subst (λ (p : Pos). IsTrue c.is_present.result ↔ Present m p)
    (at-position m.size n at old.at there) c.is_present.ensures in
    elim c.if-is_present.branch [
      | then-is_present w ↦ record {
        at = next;
        made = subst (AreStandingTo m (n + 1)) (sym (ap (λ v. v.items) w.standings-is)) (AreStandingTo-present m n standings inside old.made (is.0 w.if-is_present.true));
      }
      | else-is_present w ↦ record {
        at = next;
        made = subst (AreStandingTo m (n + 1)) (sym (ap (λ v. v.items) w.standings-is))
            (AreStandingTo-absent m n standings inside old.made (λ here. let yes = is.1 here in let no = w.if-is_present.false in cc));
      }
    ]
