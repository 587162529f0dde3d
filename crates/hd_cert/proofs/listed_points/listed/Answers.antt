use Rattle.std.proofs.Common.{◌≡◌, refl, subst, arith, ℕ}
use Rattle.hd_map.specs.Map.{cell_count}
use Rattle.hd_cert.specs.Listed.{AreListed, Lists}
use Rattle.hd_cert.specs.Residues.{IsReached}
use Rattle.hd_map.proofs.PositionOrder.{at-first, at-inside, at-next}
use Rattle.hd_cert.proofs.Listed.{AreListed-more, AreListed-none}
use Rattle.hd_cert.proofs.listed_points.listed.Goals as goal

pub list_one-requires-clause-at : goal.list_one-requires-clause-at
list_one-requires-clause-at c = at-inside c.args.size c.args.size c.loop-index.index c.loop-index.at refl c.loop-index.invariant.0 c.loop-index-test.true

pub position_after-at-requires-clause-in_grid : goal.position_after-at-requires-clause-in_grid
position_after-at-requires-clause-in_grid c = at-inside c.args.size c.args.size c.loop-index.index c.loop-index.at refl c.loop-index.invariant.0 c.loop-index-test.true

pub overflow_mul-index-end : goal.overflow_mul-index-end
overflow_mul-index-end c = omega (arith, c.requires.limits.cells)

pub loop-index-init : goal.loop-index-init
loop-index-init c = (
  at-first c.args.size (record { x = 0; y = 0 }) refl refl c.requires.limits.some_points,
  rw c.in_ok-found.ensures.items
      (AreListed-none c.args.size (IsReached c.args.size c.args.residues.now)),
)

pub loop-index-preserved : goal.loop-index-preserved
loop-index-preserved c =
    let so = c.loop-index.invariant.0 in
    let found = c.loop-index.found.items in
    let lists = subst (λ (n : ℕ). Lists c.args.size (IsReached c.args.size c.args.residues.now) n found c.list_one.new.found.items) so.place c.in_ok-list_one.ensures in (
      at-next c.args.size c.args.size c.loop-index.index c.loop-index.at c.position_after-at.result refl so c.position_after-at.ensures.column c.position_after-at.ensures.place,
      AreListed-more c.args.size (IsReached c.args.size c.args.residues.now) c.loop-index.index found c.list_one.new.found.items lists c.loop-index.invariant.1,
    )

pub returns : goal.returns
returns c =
    let e : c.loop-index.index ≡ cell_count c.args.size = omega arith in
    rw c.from_vec.ensures (subst (λ (n : ℕ). AreListed c.args.size (IsReached c.args.size c.args.residues.now) n c.loop-index.found.items) e c.loop-index.invariant.1)
