use Rattle.std.proofs.Common.{ℤ, List, refl, rules, subst, SFits, w64}
use mir.Val.{to_z, of_z}
use Rattle.std.proofs.lemmas.Int.{to_z-of_z}
use Rattle.hd_map.specs.Pruning.{SzIs}
use Rattle.hd_prune.specs.declared.step.Kept.{Kept}
use Rattle.hd_prune.specs.Kept.{pits_kept}
use Rattle.hd_audit.specs.declared.types.Audit.{Audit}
use Rattle.hd_audit.specs.Shown.{AreShownLines}
use Rattle.hd_audit.proofs.KeptAlone.{IsShown-alone}
use Rattle.hd_audit.proofs.ShownRight.{IsRight-shown}
use Rattle.hd_audit.proofs.making.make_audit.Goals as goal

pub shown_lines-requires-clause-sz : goal.shown_lines-requires-clause-sz
shown_lines-requires-clause-sz g c =
    let m = g.G.Heights.map c.args.grid.now in
    let fits : SFits w64 c.height_span.result = search rules in
    let is : SzIs m c.height_span.result = c.height_span.ensures m (g.met.G.Heights.whole c.args.grid.now) c.presence_of.ensures.range in
    rw (to_z-of_z w64 c.height_span.result fits) is

pub returns-clause-shown : goal.returns-clause-shown
returns-clause-shown g c =
    let m = g.G.Heights.map c.args.grid.now in
    let side = g.S.Side.NAME in
    let sz : ℤ = to_z w64 (of_z w64 c.height_span.result) in
    let fits : SFits w64 c.height_span.result = search rules in
    let is : SzIs m c.height_span.result = c.height_span.ensures m (g.met.G.Heights.whole c.args.grid.now) c.presence_of.ensures.range in
    let sz_is : SzIs m sz = rw (to_z-of_z w64 c.height_span.result fits) is in
    let a : Audit = record { side = c.NAME-2.result; percent = c.args.percent; adjacency = c.adjacency.result; lines = c.in_ok-lines.lines } in
    let lines : AreShownLines m side c.args.percent.thousandths sz (pits_kept c.args.kept.now) c.in_ok-lines.lines =
    subst (λ (ks : List Kept). AreShownLines m side c.args.percent.thousandths sz (pits_kept ks) c.in_ok-lines.lines) c.as_slice.ensures c.in_ok-lines.ensures in
    IsShown-alone m side c.args.percent sz c.args.kept.now a sz_is c.requires c.NAME-2.ensures refl c.adjacency.ensures lines

pub returns-clause-right : goal.returns-clause-right
returns-clause-right g c =
    let a : Audit = record { side = c.NAME-2.result; percent = c.args.percent; adjacency = c.adjacency.result; lines = c.in_ok-lines.lines } in
    IsRight-shown (g.G.Heights.map c.args.grid.now) g.S.Side.NAME c.args.percent a (g.met.G.Heights.whole c.args.grid.now) (returns-clause-shown g c)
