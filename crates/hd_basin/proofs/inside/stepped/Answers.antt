use Rattle.std.proofs.Common.{◌≡◌, ◌+◌, ◌-◌, refl, subst, arith}
use Rattle.std.proofs.lemmas.Bool.{false≢true}
use Rattle.hd_map.specs.declared.types.Pos.{Pos}
use Rattle.hd_map.proofs.Gather.{same_pos}
use Rattle.hd_basin.specs.Frames.{InFrame}
use Rattle.hd_basin.proofs.inside.stepped.Goals as goal

pub returns-then-right-eq0 : goal.returns-then-right-eq0
returns-then-right-eq0 c = λ q within is. (let column = is.column in let right = c.step_right.ensures.value in let none = c.if-right-eq0.true in omega (arith, column, right, none))

pub returns-then-is_in_frame : goal.returns-then-is_in_frame
returns-then-is_in_frame c = (
  c.if-is_in_frame.ensures.0 refl,
  record {
    column = (let right = c.step_right.ensures.value in let some = c.if-right-eq0.false in omega (arith, right, some));
    profile = (let down = c.step_down.ensures.value in omega (arith, down));
  },
)

pub returns-else-is_in_frame : goal.returns-else-is_in_frame
returns-else-is_in_frame c = λ q within is. (
    let column = is.column in
    let profile = is.profile in
    let right = c.step_right.ensures.value in
    let down = c.step_down.ensures.value in
    let some = c.if-right-eq0.false in
    let near : Pos = record { x = c.args.at.x + c.step_right.result - 1; y = c.args.at.y + c.step_down.result } in
    let same : q ≡ near = same_pos q near (omega (arith, column, right, some)) (omega (arith, profile, down)) in
    false≢true (c.if-is_in_frame.ensures.1 (subst (InFrame c.args.area) same within)))
