use Rattle.hd_check.specs.Rules.{IsRight}
use Rattle.hd_cert.specs.Routes.{IsMade}
use Rattle.hd_cert.specs.Shown.{IsShownCertificate}
use Rattle.hd_cert.proofs.RoutesAsPaths.{IsShownCertificate-made}
use Rattle.hd_cert.proofs.ShownIsRight.{IsRight-shown}
use Rattle.hd_cert.proofs.Shown.{IfOk-map, LiesWithin-pit}
use Rattle.hd_cert.proofs.making.certify_by_regions.Goals as goal

pub region_cut-requires-clause-low : goal.region_cut-requires-clause-low
region_cut-requires-clause-low g c =
    let r = c.requires in
    LiesWithin-pit (g.G.Heights.map c.args.grid.now) g.S.Side.NAME c.args.from c.args.to c.args.saddle r.pits.here r.pits.there r.pits.pit r.pits.apart r.saddle

pub returns-clause-shown : goal.returns-clause-shown
returns-clause-shown g c =
    let m = g.G.Heights.map c.args.grid.now in
    IfOk-map (IsMade m g.S.Side.NAME c.args.from c.args.to c.args.saddle) (IsShownCertificate m g.S.Side.NAME c.args.from c.args.to c.args.saddle) c.make.result
    (λ made is. IsShownCertificate-made m g.S.Side.NAME c.args.from c.args.to c.args.saddle made c.requires.pits c.requires.saddle is) c.make.ensures

pub returns-clause-right : goal.returns-clause-right
returns-clause-right g c =
    let m = g.G.Heights.map c.args.grid.now in
    IfOk-map (IsMade m g.S.Side.NAME c.args.from c.args.to c.args.saddle) (IsRight m) c.make.result
    (λ made is. IsRight-shown m g.S.Side.NAME c.args.from c.args.to c.args.saddle made c.requires.pits
    (IsShownCertificate-made m g.S.Side.NAME c.args.from c.args.to c.args.saddle made c.requires.pits c.requires.saddle is)) c.make.ensures
