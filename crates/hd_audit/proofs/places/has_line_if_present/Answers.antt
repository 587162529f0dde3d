use Rattle.std.proofs.Common.{refl, sym, subst}
use Rattle.std.specs.Prelude.{◌↔◌, IsTrue}
use Rattle.hd_map.specs.declared.types.Pos.{Pos}
use Rattle.hd_map.specs.Map.{Present, position_at}
use Rattle.hd_audit.proofs.PlaceAt.{place_at-listed, place_at-unlisted}
use Rattle.hd_audit.proofs.FailedTests.{test-negated}
use Rattle.hd_audit.proofs.places.has_line_if_present.Goals as goal

pub returns-in-Some : goal.returns-in-Some
returns-in-Some g c = (
  λ t here. place_at-listed (g.G.Heights.map c.args.surface.now) c.args._lines.now c.args.places.now c.requires.places c.args.index c.in-Some.field-0
      (sym c.in-Some.ensures),
  λ h. refl,
)

pub returns-in-None : goal.returns-in-None
returns-in-None g c =
    let m = g.G.Heights.map c.args.surface.now in
    let is : IsTrue c.is_present.result ↔ Present m (position_at m.size c.args.index) = subst (λ (p : Pos). IsTrue c.is_present.result ↔ Present m p) c.position_in.ensures c.is_present.ensures in
    let no = test-negated c.is_present.result is in
    (λ t here. absurd (no.0 t here), λ h. no.1 (λ here. place_at-unlisted m c.args._lines.now c.args.places.now c.requires.places c.args.index (sym c.in-None.ensures) (h here)))
