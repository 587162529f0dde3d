use Rattle.std.proofs.Common.{inl, inr, refl}
use Rattle.hd_check.proofs.Verdicts.{all_rules-before}
use Rattle.hd_check.proofs.checking.try_rules.Goals as goal

pub returns-in-Some-wrong_pit : goal.returns-in-Some-wrong_pit
returns-in-Some-wrong_pit g c = let m = g.G.Heights.map c.args.surface.now in inr (c.in_default.ensures, inl (refl, c.in-Some-wrong_pit.ensures))

pub returns-in-Some-wrong_end : goal.returns-in-Some-wrong_end
returns-in-Some-wrong_end g c = let m = g.G.Heights.map c.args.surface.now in inr
    (c.in_default.ensures, inr (c.in_default-wrong_pit.ensures, inr (c.in_default-wrong_height.ensures, inl (refl, c.in-Some-wrong_end.ensures m))))

pub returns-in-Some-wrong_step : goal.returns-in-Some-wrong_step
returns-in-Some-wrong_step g c = let m = g.G.Heights.map c.args.surface.now in inr (
  c.in_default.ensures,
  inr (
    c.in_default-wrong_pit.ensures,
    inr (
      c.in_default-wrong_height.ensures,
      inr
          (c.in_default-wrong_end.ensures m, inl (refl, c.in-Some-wrong_step.ensures)),
    ),
  ),
)

pub returns-in-Some-off_path : goal.returns-in-Some-off_path
returns-in-Some-off_path g c = let m = g.G.Heights.map c.args.surface.now in inr (
  c.in_default.ensures,
  inr (
    c.in_default-wrong_pit.ensures,
    inr (
      c.in_default-wrong_height.ensures,
      inr (
        c.in_default-wrong_end.ensures m,
        inr
            (c.in_default-wrong_step.ensures, inl (refl, c.in-Some-off_path.ensures m)),
      ),
    ),
  ),
)

pub returns-in-Some-first_high : goal.returns-in-Some-first_high
returns-in-Some-first_high g c = let m = g.G.Heights.map c.args.surface.now in inr (
  c.in_default.ensures,
  inr (
    c.in_default-wrong_pit.ensures,
    inr (
      c.in_default-wrong_height.ensures,
      inr
          (c.in_default-wrong_end.ensures m, inr (c.in_default-wrong_step.ensures, inr (c.in_default-off_path.ensures m, inl (refl, c.in-Some-first_high.ensures)))),
    ),
  ),
)

pub returns : goal.returns
returns g c =
    let m = g.G.Heights.map c.args.surface.now in
    all_rules-before m c.args.certificate.now c.check_cut.result c.in_default.ensures c.in_default-wrong_pit.ensures c.in_default-wrong_height.ensures (c.in_default-wrong_end.ensures m)
    c.in_default-wrong_step.ensures (c.in_default-off_path.ensures m) c.in_default-first_high.ensures c.check_cut.ensures
