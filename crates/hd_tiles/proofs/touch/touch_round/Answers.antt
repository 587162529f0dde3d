use Rattle.std.proofs.Common.{ℕ, ◌≡◌, ◌<◌, ◌+◌, ◌-◌, ◌*◌, ◌/◌, length, List, set, ap, arith, refl, subst}
use Rattle.std.specs.Prelude.{min}
use Rattle.hd_map.specs.declared.types.Pos.{Pos}
use Rattle.hd_map.specs.declared.types.Size.{Size}
use Rattle.hd_map.specs.Map.{InGrid, IsSize}
use Rattle.hd_tiles.specs.Stamps.{AreStamped}
use Rattle.hd_tiles.specs.Tile.{IsRound, IsTileSide, tile_count, tiles_across}
use Rattle.hd_tiles.proofs.Corners.{tile_count-few, IsRound-top_left, IsRound-top_right, IsRound-bottom_left, IsRound-bottom_right, AtCorner-round, IsRound-corner, IsRound-inside}
use Rattle.hd_tiles.proofs.Stamping.{AreStamped-none, AreStamped-more, AreStamped-as}
use Rattle.hd_tiles.proofs.touch.touch_round.Goals as goal

-- a part by the sides that a tiling answers
before_as : (x side t part : ℕ) → part ≡ (x - 1) / side → side ≡ t → part ≡ (x - 1) / t
before_as x side t part is same = subst (λ (t : ℕ). part ≡ (x - 1) / t) same is

after_as : (x n m side t part : ℕ) → part ≡ min (x + 1) (n - 1) / side → n ≡ m → side ≡ t → part ≡ min (x + 1) (m - 1) / t
after_as x n m side t part is long same =
    subst (λ (t : ℕ). part ≡ min (x + 1) (m - 1) / t) same (subst (λ (n : ℕ). part ≡ min (x + 1) (n - 1) / side) long is)

-- the parts that are found, and the tiles at the four corners of them
module _ (s : Size) (t : ℕ) (p : Pos) (limits : IsSize s) (sides : IsTileSide t) (inside : InGrid s p) (across left right top bottom : ℕ) (across_is : across ≡ tiles_across s t)
    (left_is : left ≡ (p.x - 1) / t) (right_is : right ≡ min (p.x + 1) (s.points - 1) / t) (top_is : top ≡ (p.y - 1) / t) (bottom_is : bottom ≡ min (p.y + 1) (s.profiles - 1) / t) where
  abbrev Here : ℕ → Type 0
  Here tile = IsRound s t tile p

  first : Here (top * across + left)
  first = rw (top_is, across_is, left_is) (IsRound-top_left s t p sides.least inside)

  second : Here (top * across + right)
  second = rw (top_is, across_is, right_is) (IsRound-top_right s t p sides.least inside)

  third : Here (bottom * across + left)
  third = rw (bottom_is, across_is, left_is) (IsRound-bottom_left s t p sides.least inside)

  fourth : Here (bottom * across + right)
  fourth = rw (bottom_is, across_is, right_is) (IsRound-bottom_right s t p sides.least inside)

  tile : (k : ℕ) → Here k → k < tile_count s t
  tile k here = IsRound-inside s t p sides.least inside k here

  small : (k : ℕ) → Here k → k < 4294967296
  small k here = (let a = tile k here in let b = tile_count-few s t sides.least limits in omega (arith, a, b))

  module _ (stamp : ℕ) (before : List ℕ) (whole : length before ≡ tile_count s t) where
    inside_list : (k : ℕ) → Here k → k < length before
    inside_list k here = rw whole (tile k here)

    stamped : AreStamped Here stamp before (set (set (set (set before (top * across + left) stamp) (top * across + right) stamp) (bottom * across + left) stamp) (bottom * across + right) stamp)
    stamped =
        let a = AreStamped-more stamp _ before before (AreStamped-none stamp before) (top * across + left) (inside_list _ first) in
        let b = AreStamped-more stamp _ before _ a (top * across + right) (inside_list _ second) in
        let d = AreStamped-more stamp _ before _ b (bottom * across + left) (inside_list _ third) in
        let e = AreStamped-more stamp _ before _ d (bottom * across + right) (inside_list _ fourth) in
        AreStamped-as stamp _ before _ e Here
        (λ k within here. rw (top_is, bottom_is, across_is, left_is, right_is) (AtCorner-round s t p sides.least inside k here))
        (λ k at. IsRound-corner s t p sides.least inside k (rw (← top_is, ← bottom_is, ← across_is, ← left_is, ← right_is) at))

pub overflow_add-top : goal.overflow_add-top
overflow_add-top c =
    let tiling = c.args.tiling in
    let below = small tiling.size tiling.side c.args.at tiling.limits tiling.tile_side c.requires.in_grid c.across-across.result c.part_before-left.result c.part_after-right.result
    c.part_before.result c.part_after.result c.across-across.ensures (before_as _ _ _ _ c.part_before-left.ensures c.side-side.ensures)
    (after_as _ _ _ _ _ _ c.part_after-right.ensures (ap (λ (s : Size). s.points) c.size-size.ensures) c.side-side.ensures)
    (before_as _ _ _ _ c.part_before.ensures c.side-side.ensures) (after_as _ _ _ _ _ _ c.part_after.ensures
    (ap (λ (s : Size). s.profiles) c.size-size.ensures) c.side-side.ensures) _
    (first tiling.size tiling.side c.args.at tiling.limits tiling.tile_side c.requires.in_grid c.across-across.result c.part_before-left.result c.part_after-right.result
    c.part_before.result c.part_after.result c.across-across.ensures (before_as _ _ _ _ c.part_before-left.ensures c.side-side.ensures)
    (after_as _ _ _ _ _ _ c.part_after-right.ensures (ap (λ (s : Size). s.points) c.size-size.ensures) c.side-side.ensures)
    (before_as _ _ _ _ c.part_before.ensures c.side-side.ensures) (after_as _ _ _ _ _ _ c.part_after.ensures
    (ap (λ (s : Size). s.profiles) c.size-size.ensures) c.side-side.ensures)) in
    omega (arith, below)

pub overflow_add-top-2 : goal.overflow_add-top-2
overflow_add-top-2 c =
    let tiling = c.args.tiling in
    let below = small tiling.size tiling.side c.args.at tiling.limits tiling.tile_side c.requires.in_grid c.across-across.result c.part_before-left.result c.part_after-right.result
    c.part_before.result c.part_after.result c.across-across.ensures (before_as _ _ _ _ c.part_before-left.ensures c.side-side.ensures)
    (after_as _ _ _ _ _ _ c.part_after-right.ensures (ap (λ (s : Size). s.points) c.size-size.ensures) c.side-side.ensures)
    (before_as _ _ _ _ c.part_before.ensures c.side-side.ensures) (after_as _ _ _ _ _ _ c.part_after.ensures
    (ap (λ (s : Size). s.profiles) c.size-size.ensures) c.side-side.ensures) _
    (second tiling.size tiling.side c.args.at tiling.limits tiling.tile_side c.requires.in_grid c.across-across.result c.part_before-left.result c.part_after-right.result
    c.part_before.result c.part_after.result c.across-across.ensures (before_as _ _ _ _ c.part_before-left.ensures c.side-side.ensures)
    (after_as _ _ _ _ _ _ c.part_after-right.ensures (ap (λ (s : Size). s.points) c.size-size.ensures) c.side-side.ensures)
    (before_as _ _ _ _ c.part_before.ensures c.side-side.ensures) (after_as _ _ _ _ _ _ c.part_after.ensures
    (ap (λ (s : Size). s.profiles) c.size-size.ensures) c.side-side.ensures)) in
    omega (arith, below)

pub overflow_add-bottom : goal.overflow_add-bottom
overflow_add-bottom c =
    let tiling = c.args.tiling in
    let below = small tiling.size tiling.side c.args.at tiling.limits tiling.tile_side c.requires.in_grid c.across-across.result c.part_before-left.result c.part_after-right.result
    c.part_before.result c.part_after.result c.across-across.ensures (before_as _ _ _ _ c.part_before-left.ensures c.side-side.ensures)
    (after_as _ _ _ _ _ _ c.part_after-right.ensures (ap (λ (s : Size). s.points) c.size-size.ensures) c.side-side.ensures)
    (before_as _ _ _ _ c.part_before.ensures c.side-side.ensures) (after_as _ _ _ _ _ _ c.part_after.ensures
    (ap (λ (s : Size). s.profiles) c.size-size.ensures) c.side-side.ensures) _
    (third tiling.size tiling.side c.args.at tiling.limits tiling.tile_side c.requires.in_grid c.across-across.result c.part_before-left.result c.part_after-right.result
    c.part_before.result c.part_after.result c.across-across.ensures (before_as _ _ _ _ c.part_before-left.ensures c.side-side.ensures)
    (after_as _ _ _ _ _ _ c.part_after-right.ensures (ap (λ (s : Size). s.points) c.size-size.ensures) c.side-side.ensures)
    (before_as _ _ _ _ c.part_before.ensures c.side-side.ensures) (after_as _ _ _ _ _ _ c.part_after.ensures
    (ap (λ (s : Size). s.profiles) c.size-size.ensures) c.side-side.ensures)) in
    omega (arith, below)

pub overflow_add-bottom-2 : goal.overflow_add-bottom-2
overflow_add-bottom-2 c =
    let tiling = c.args.tiling in
    let below = small tiling.size tiling.side c.args.at tiling.limits tiling.tile_side c.requires.in_grid c.across-across.result c.part_before-left.result c.part_after-right.result
    c.part_before.result c.part_after.result c.across-across.ensures (before_as _ _ _ _ c.part_before-left.ensures c.side-side.ensures)
    (after_as _ _ _ _ _ _ c.part_after-right.ensures (ap (λ (s : Size). s.points) c.size-size.ensures) c.side-side.ensures)
    (before_as _ _ _ _ c.part_before.ensures c.side-side.ensures) (after_as _ _ _ _ _ _ c.part_after.ensures
    (ap (λ (s : Size). s.profiles) c.size-size.ensures) c.side-side.ensures) _
    (fourth tiling.size tiling.side c.args.at tiling.limits tiling.tile_side c.requires.in_grid c.across-across.result c.part_before-left.result c.part_after-right.result
    c.part_before.result c.part_after.result c.across-across.ensures (before_as _ _ _ _ c.part_before-left.ensures c.side-side.ensures)
    (after_as _ _ _ _ _ _ c.part_after-right.ensures (ap (λ (s : Size). s.points) c.size-size.ensures) c.side-side.ensures)
    (before_as _ _ _ _ c.part_before.ensures c.side-side.ensures) (after_as _ _ _ _ _ _ c.part_after.ensures
    (ap (λ (s : Size). s.profiles) c.size-size.ensures) c.side-side.ensures)) in
    omega (arith, below)

pub overflow_mul-top : goal.overflow_mul-top
overflow_mul-top c =
    let tiling = c.args.tiling in
    let below = small tiling.size tiling.side c.args.at tiling.limits tiling.tile_side c.requires.in_grid c.across-across.result ((c.args.at.x - 1) / c.args.tiling.side)
    (min (c.args.at.x + 1) (c.args.tiling.size.points - 1) / c.args.tiling.side) c.part_before.result
    (min (c.args.at.y + 1) (c.args.tiling.size.profiles - 1) / c.args.tiling.side) c.across-across.ensures refl refl
    (before_as _ _ _ _ c.part_before.ensures c.side-side.ensures) refl _ (first tiling.size tiling.side c.args.at tiling.limits tiling.tile_side c.requires.in_grid
    c.across-across.result ((c.args.at.x - 1) / c.args.tiling.side) (min (c.args.at.x + 1) (c.args.tiling.size.points - 1) / c.args.tiling.side) c.part_before.result
    (min (c.args.at.y + 1) (c.args.tiling.size.profiles - 1) / c.args.tiling.side) c.across-across.ensures refl refl
    (before_as _ _ _ _ c.part_before.ensures c.side-side.ensures) refl) in
    omega (arith, below)

pub overflow_mul-bottom : goal.overflow_mul-bottom
overflow_mul-bottom c =
    let tiling = c.args.tiling in
    let below = small tiling.size tiling.side c.args.at tiling.limits tiling.tile_side c.requires.in_grid c.across-across.result ((c.args.at.x - 1) / c.args.tiling.side)
    (min (c.args.at.x + 1) (c.args.tiling.size.points - 1) / c.args.tiling.side)
    ((c.args.at.y - 1) / c.args.tiling.side) c.part_after.result c.across-across.ensures refl refl refl
    (after_as _ _ _ _ _ _ c.part_after.ensures (ap (λ (s : Size). s.profiles) c.size-size.ensures) c.side-side.ensures) _
    (third tiling.size tiling.side c.args.at tiling.limits tiling.tile_side c.requires.in_grid c.across-across.result ((c.args.at.x - 1) / c.args.tiling.side)
    (min (c.args.at.x + 1) (c.args.tiling.size.points - 1) / c.args.tiling.side)
    ((c.args.at.y - 1) / c.args.tiling.side) c.part_after.result c.across-across.ensures refl refl refl
    (after_as _ _ _ _ _ _ c.part_after.ensures (ap (λ (s : Size). s.profiles) c.size-size.ensures) c.side-side.ensures)) in
    omega (arith, below)

pub index_mut-requires : goal.index_mut-requires
index_mut-requires c =
    let tiling = c.args.tiling in
    let below = inside_list tiling.size tiling.side c.args.at tiling.limits tiling.tile_side c.requires.in_grid c.across-across.result c.part_before-left.result
    c.part_after-right.result c.part_before.result c.part_after.result c.across-across.ensures (before_as _ _ _ _ c.part_before-left.ensures c.side-side.ensures)
    (after_as _ _ _ _ _ _ c.part_after-right.ensures (ap (λ (s : Size). s.points) c.size-size.ensures) c.side-side.ensures)
    (before_as _ _ _ _ c.part_before.ensures c.side-side.ensures) (after_as _ _ _ _ _ _ c.part_after.ensures
    (ap (λ (s : Size). s.profiles) c.size-size.ensures) c.side-side.ensures) c.args.stamp c.args.stamps.now.items c.requires.tiles _
    (first tiling.size tiling.side c.args.at tiling.limits tiling.tile_side c.requires.in_grid c.across-across.result c.part_before-left.result c.part_after-right.result
    c.part_before.result c.part_after.result c.across-across.ensures (before_as _ _ _ _ c.part_before-left.ensures c.side-side.ensures)
    (after_as _ _ _ _ _ _ c.part_after-right.ensures (ap (λ (s : Size). s.points) c.size-size.ensures) c.side-side.ensures)
    (before_as _ _ _ _ c.part_before.ensures c.side-side.ensures) (after_as _ _ _ _ _ _ c.part_after.ensures
    (ap (λ (s : Size). s.profiles) c.size-size.ensures) c.side-side.ensures)) in
    omega (arith, below, c.args.stamps.now.ok.0)

pub index_mut-requires-2 : goal.index_mut-requires-2
index_mut-requires-2 c =
    let tiling = c.args.tiling in
    let below = inside_list tiling.size tiling.side c.args.at tiling.limits tiling.tile_side c.requires.in_grid c.across-across.result c.part_before-left.result
    c.part_after-right.result c.part_before.result c.part_after.result c.across-across.ensures (before_as _ _ _ _ c.part_before-left.ensures c.side-side.ensures)
    (after_as _ _ _ _ _ _ c.part_after-right.ensures (ap (λ (s : Size). s.points) c.size-size.ensures) c.side-side.ensures)
    (before_as _ _ _ _ c.part_before.ensures c.side-side.ensures) (after_as _ _ _ _ _ _ c.part_after.ensures
    (ap (λ (s : Size). s.profiles) c.size-size.ensures) c.side-side.ensures) c.args.stamp c.args.stamps.now.items c.requires.tiles _
    (second tiling.size tiling.side c.args.at tiling.limits tiling.tile_side c.requires.in_grid c.across-across.result c.part_before-left.result c.part_after-right.result
    c.part_before.result c.part_after.result c.across-across.ensures (before_as _ _ _ _ c.part_before-left.ensures c.side-side.ensures)
    (after_as _ _ _ _ _ _ c.part_after-right.ensures (ap (λ (s : Size). s.points) c.size-size.ensures) c.side-side.ensures)
    (before_as _ _ _ _ c.part_before.ensures c.side-side.ensures) (after_as _ _ _ _ _ _ c.part_after.ensures
    (ap (λ (s : Size). s.profiles) c.size-size.ensures) c.side-side.ensures)) in
    omega (arith, below, c.args.stamps.now.ok.0)

pub index_mut-requires-3 : goal.index_mut-requires-3
index_mut-requires-3 c =
    let tiling = c.args.tiling in
    let below = inside_list tiling.size tiling.side c.args.at tiling.limits tiling.tile_side c.requires.in_grid c.across-across.result c.part_before-left.result
    c.part_after-right.result c.part_before.result c.part_after.result c.across-across.ensures (before_as _ _ _ _ c.part_before-left.ensures c.side-side.ensures)
    (after_as _ _ _ _ _ _ c.part_after-right.ensures (ap (λ (s : Size). s.points) c.size-size.ensures) c.side-side.ensures)
    (before_as _ _ _ _ c.part_before.ensures c.side-side.ensures) (after_as _ _ _ _ _ _ c.part_after.ensures
    (ap (λ (s : Size). s.profiles) c.size-size.ensures) c.side-side.ensures) c.args.stamp c.args.stamps.now.items c.requires.tiles _
    (third tiling.size tiling.side c.args.at tiling.limits tiling.tile_side c.requires.in_grid c.across-across.result c.part_before-left.result c.part_after-right.result
    c.part_before.result c.part_after.result c.across-across.ensures (before_as _ _ _ _ c.part_before-left.ensures c.side-side.ensures)
    (after_as _ _ _ _ _ _ c.part_after-right.ensures (ap (λ (s : Size). s.points) c.size-size.ensures) c.side-side.ensures)
    (before_as _ _ _ _ c.part_before.ensures c.side-side.ensures) (after_as _ _ _ _ _ _ c.part_after.ensures
    (ap (λ (s : Size). s.profiles) c.size-size.ensures) c.side-side.ensures)) in
    omega (arith, below, c.args.stamps.now.ok.0)

pub index_mut-requires-4 : goal.index_mut-requires-4
index_mut-requires-4 c =
    let tiling = c.args.tiling in
    let below = inside_list tiling.size tiling.side c.args.at tiling.limits tiling.tile_side c.requires.in_grid c.across-across.result c.part_before-left.result
    c.part_after-right.result c.part_before.result c.part_after.result c.across-across.ensures (before_as _ _ _ _ c.part_before-left.ensures c.side-side.ensures)
    (after_as _ _ _ _ _ _ c.part_after-right.ensures (ap (λ (s : Size). s.points) c.size-size.ensures) c.side-side.ensures)
    (before_as _ _ _ _ c.part_before.ensures c.side-side.ensures) (after_as _ _ _ _ _ _ c.part_after.ensures
    (ap (λ (s : Size). s.profiles) c.size-size.ensures) c.side-side.ensures) c.args.stamp c.args.stamps.now.items c.requires.tiles _
    (fourth tiling.size tiling.side c.args.at tiling.limits tiling.tile_side c.requires.in_grid c.across-across.result c.part_before-left.result c.part_after-right.result
    c.part_before.result c.part_after.result c.across-across.ensures (before_as _ _ _ _ c.part_before-left.ensures c.side-side.ensures)
    (after_as _ _ _ _ _ _ c.part_after-right.ensures (ap (λ (s : Size). s.points) c.size-size.ensures) c.side-side.ensures)
    (before_as _ _ _ _ c.part_before.ensures c.side-side.ensures) (after_as _ _ _ _ _ _ c.part_after.ensures
    (ap (λ (s : Size). s.profiles) c.size-size.ensures) c.side-side.ensures)) in
    omega (arith, below, c.args.stamps.now.ok.0)

pub returns : goal.returns
returns c =
    let tiling = c.args.tiling in
    stamped tiling.size tiling.side c.args.at tiling.limits tiling.tile_side c.requires.in_grid c.across-across.result c.part_before-left.result c.part_after-right.result
    c.part_before.result c.part_after.result c.across-across.ensures (before_as _ _ _ _ c.part_before-left.ensures c.side-side.ensures)
    (after_as _ _ _ _ _ _ c.part_after-right.ensures (ap (λ (s : Size). s.points) c.size-size.ensures) c.side-side.ensures)
    (before_as _ _ _ _ c.part_before.ensures c.side-side.ensures) (after_as _ _ _ _ _ _ c.part_after.ensures
    (ap (λ (s : Size). s.profiles) c.size-size.ensures) c.side-side.ensures) c.args.stamp c.args.stamps.now.items c.requires.tiles
