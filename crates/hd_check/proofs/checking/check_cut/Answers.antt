use Rattle.std.proofs.Common.{inl, inr, refl, Some, None}
use Rattle.hd_check.proofs.Verdicts.{CutRises-rule, CutParts-rule, CutLow-rule, CutClosed-rule}
use Rattle.hd_check.proofs.checking.check_cut.Goals as goal

pub returns-in-Some-wrong_part : goal.returns-in-Some-wrong_part
returns-in-Some-wrong_part g c =
    let m = g.G.Heights.map c.args.surface.now in
    let f = c.args.certificate.now in
    let cut = c.as_slice-cut.result.now in
    let e = c.as_slice-cut.ensures in
    inr (CutRises-rule m f cut e None c.size-size.result c.size-size.ensures c.in_default.ensures, inl (refl, CutParts-rule m f cut e (Some c.in-Some-wrong_part.at) c.in-Some-wrong_part.ensures))

pub returns-in-Some-first_not_below : goal.returns-in-Some-first_not_below
returns-in-Some-first_not_below g c =
    let m = g.G.Heights.map c.args.surface.now in
    let f = c.args.certificate.now in
    let cut = c.as_slice-cut.result.now in
    let e = c.as_slice-cut.ensures in
    inr (
      CutRises-rule m f cut e None c.size-size.result c.size-size.ensures c.in_default.ensures,
      inr (
        CutParts-rule m f cut e None c.in_default-wrong_part.ensures,
        inl (refl, CutLow-rule m f cut e (Some c.in-Some-first_not_below.at) c.level-level.result c.level-level.ensures c.in-Some-first_not_below.ensures),
      ),
    )

pub returns-in-Some-first_leak : goal.returns-in-Some-first_leak
returns-in-Some-first_leak g c =
    let m = g.G.Heights.map c.args.surface.now in
    let f = c.args.certificate.now in
    let cut = c.as_slice-cut.result.now in
    let e = c.as_slice-cut.ensures in
    inr (
      CutRises-rule m f cut e None c.size-size.result c.size-size.ensures c.in_default.ensures,
      inr (
        CutParts-rule m f cut e None c.in_default-wrong_part.ensures,
        inr (
          CutLow-rule m f cut e None c.level-level.result c.level-level.ensures c.in_default-first_not_below.ensures,
          inl (refl, CutClosed-rule m f cut e (Some c.in-Some-first_leak.at) c.level-level.result c.level-level.ensures c.in-Some-first_leak.ensures),
        ),
      ),
    )

pub returns-in-Some : goal.returns-in-Some
returns-in-Some g c =
    let m = g.G.Heights.map c.args.surface.now in
    let f = c.args.certificate.now in
    inl (refl, CutRises-rule m f c.as_slice-cut.result.now c.as_slice-cut.ensures (Some c.in-Some.at) c.size-size.result c.size-size.ensures c.in-Some.ensures)

pub returns : goal.returns
returns g c =
    let m = g.G.Heights.map c.args.surface.now in
    let f = c.args.certificate.now in
    let cut = c.as_slice-cut.result.now in
    let e = c.as_slice-cut.ensures in (
      CutRises-rule m f cut e None c.size-size.result c.size-size.ensures c.in_default.ensures,
      (
        CutParts-rule m f cut e None c.in_default-wrong_part.ensures,
        (
          CutLow-rule m f cut e None c.level-level.result c.level-level.ensures c.in_default-first_not_below.ensures,
          (CutClosed-rule m f cut e None c.level-level.result c.level-level.ensures c.in_default-first_leak.ensures, tt),
        ),
      ),
    )
