use Rattle.std.proofs.Common.{subst, List}
use Rattle.hd_map.specs.declared.types.Size.{Size}
use Rattle.hd_map.specs.Map.{cell_count}
use Rattle.hd_cert.specs.declared.residue.Residue.{Residue}
use Rattle.hd_cert.specs.Listed.{AreListed}
use Rattle.hd_cert.specs.Residues.{IsReached}
use Rattle.hd_cert.specs.Routes.{IsRouteCut}
use Rattle.hd_cert.proofs.Shown.{IsRouteCut-shown, IfOk-map}
use Rattle.hd_cert.proofs.making.shown_cut.Goals as goal

pub returns : goal.returns
returns g c =
    let m = g.G.Heights.map c.args.grid.now in
    IfOk-map (AreListed c.size.result (IsReached c.size.result c.as_slice.result.now) (cell_count c.size.result)) (IsRouteCut m g.S.Side.NAME c.args.saddle c.args.from) c.listed.result
    (λ cut listed. IsRouteCut-shown m g.S.Side.NAME c.args.saddle c.args.from c.in_ok-residues.residues.items cut c.in_ok-residues.ensures
    (subst (λ (residues : List Residue). AreListed m.size (IsReached m.size residues) (cell_count m.size) cut) c.as_slice.ensures.value
    (subst (λ (s : Size). AreListed s (IsReached s c.as_slice.result.now) (cell_count s) cut) c.size.ensures listed)) c.requires) c.listed.ensures
