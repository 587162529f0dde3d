use Rattle.std.proofs.Common.{◌≡◌, ◌<◌, ◌≤◌, ◌+◌, ◌-◌, ◌*◌, ℕ, length, drop, ap, subst, arith}
use Rattle.std.proofs.Math.Nat.{mul-le-mul_right}
use borrow.Rule.Slice.PartMut.{put_mid}
use Rattle.hd_map.specs.declared.types.Size.{Size}
use Rattle.hd_map.specs.Map.{cell_count}
use Rattle.hd_map.specs.Lanes.{IsRowOfHeights}
use Rattle.hd_morph.proofs.PlainNumbers.{take-joined}
use Rattle.hd_morph.proofs.Listed.{HeightsBefore, HeightsBefore-none, HeightsBefore-more, AreHeightsOf-all, IsBeyond-far}
use Rattle.hd_morph.proofs.heights.heights_of.Goals as goal

pub loop-y-init : goal.loop-y-init
loop-y-init g c =
    let m = g.G.Heights.map c.args.grid.now in
    HeightsBefore-none g.L.Lane.code m c.in_ok-heights.heights.items
    (subst (λ (s : Size). length c.in_ok-heights.heights.items ≡ cell_count s) c.size-size.ensures (omega (arith, c.in_ok-heights.heights.ok.0, c.in_ok-heights.ensures.len)))

pub loop-y-preserved : goal.loop-y-preserved
loop-y-preserved g c =
    let m = g.G.Heights.map c.args.grid.now in
    let y : ℕ = c.loop-y.y in
    let points : ℕ = c.size-size.result.points in
    let first : ℕ = y * points in
    let row = c.fill_heights.new.row in
    let old = c.loop-y.heights.items in
    let same : points ≡ m.size.points = ap (λ (s : Size). s.points) c.size-size.ensures in
    let count : y * m.size.points + m.size.points - y * m.size.points ≡ m.size.points = omega arith in
    let inside : y < m.size.profiles = subst (λ (s : Size). y < s.profiles) c.size-size.ensures c.loop-y-test.true in
    let filled : IsRowOfHeights g.L.Lane.code m y row = c.if-not-fill_heights.ensures.row in
    let more : HeightsBefore g.L.Lane.code m (y + 1) (put_mid first (first + points - first) old row) =
    rw (same, count) (HeightsBefore-more g.L.Lane.code m y old row inside filled c.loop-y.invariant) in
    let whole : c.loop-y.heights.len ≡ length (put_mid first (first + points - first) old row) = omega (arith, more.whole, c.loop-y.invariant.whole, c.loop-y.heights.ok.0) in
    rw (c.deref_mut.ensures.value, take-joined c.loop-y.heights.len (put_mid first (first + points - first) old row) (drop (length (put_mid first (first + points - first) old row)) old) whole) more

pub returns-then-not-fill_heights : goal.returns-then-not-fill_heights
returns-then-not-fill_heights g c =
    let m = g.G.Heights.map c.args.grid.now in
    IsBeyond-far g.L.Lane.code m c.loop-y.y (subst (λ (s : Size). c.loop-y.y < s.profiles) c.size-size.ensures c.loop-y-test.true) c.if-not-fill_heights.ensures.far

pub slice_bounds-fill_heights-end : goal.slice_bounds-fill_heights-end
slice_bounds-fill_heights-end g c =
    let m = g.G.Heights.map c.args.grid.now in
    let y : ℕ = c.loop-y.y in
    let points : ℕ = c.size-size.result.points in
    let row : y < m.size.profiles = subst (λ (s : Size). y < s.profiles) c.size-size.ensures c.loop-y-test.true in
    let room : y * points + points ≤ cell_count m.size = rw (ap (λ (s : Size). s.points) c.size-size.ensures) (omega (arith, mul-le-mul_right m.size.points row)) in
    omega (arith, room, c.loop-y.invariant.whole, c.loop-y.heights.ok.0, (g.met.G.Heights.whole c.args.grid.now).size.cells)

pub returns : goal.returns
returns g c =
    let m = g.G.Heights.map c.args.grid.now in
    AreHeightsOf-all g.L.Lane.code m c.loop-y.y c.loop-y.heights.items (g.met.G.Heights.whole c.args.grid.now).size.some_points
    (subst (λ (s : Size). s.profiles ≤ c.loop-y.y) c.size-size.ensures c.loop-y-test.false) c.loop-y.invariant

pub overflow_mul-count : goal.overflow_mul-count
overflow_mul-count g c =
    let cells = (g.met.G.Heights.whole c.args.grid.now).size.cells in
    rw c.size-size.ensures (omega (arith, cells))
