use Rattle.std.proofs.Common.{◌≡◌, List, Option, ℕ, subst, sym}
use Rattle.hd_map.specs.declared.types.Pos.{Pos}
use Rattle.hd_map.specs.Map.{InGrid}
use Rattle.hd_reach.specs.Steps.{steps_at}
use Rattle.hd_cert.specs.declared.residue.Residue.{Residue}
use Rattle.hd_cert.specs.FirstNearer.{GoesNearer, LeadsDown}
use Rattle.hd_cert.specs.Residues.{residue_at, residue_of}
use Rattle.hd_cert.specs.Routes.{IsShownRoute}
use Rattle.hd_cert.proofs.Shown.{OpenStep-path, steps_at-begin, LeadsDown-goes_nearer, IsShownRoute-path, IfOk-map}
use Rattle.hd_cert.proofs.making.shown_path.Goals as goal

pub residues_from-requires : goal.residues_from-requires
residues_from-requires g c =
    let m = g.G.Heights.map c.args.grid.now in
    let r = c.requires in
    let s = r.saddle.reached in
    (OpenStep-path m g.S.Side.NAME c.args.saddle c.args.from s.0 c.args.to r.here r.there s.1.leads s.2.none_above).2

pub returns : goal.returns
returns g c =
    let m = g.G.Heights.map c.args.grid.now in
    let side = g.S.Side.NAME in
    let saddle = c.args.saddle in
    let from = c.args.from in
    let to = c.args.to in
    let r = c.requires in
    let known = c.in_ok-residues.ensures in
    let steps = known.steps in
    let begin = steps_at-begin m side saddle from to steps known.are r.here r.there r.saddle in
    let leads : LeadsDown m c.as_slice.result.now from to steps begin.0 = LeadsDown-goes_nearer m side saddle from to steps known.are r.here r.there r.saddle c.as_slice.result.now
    begin.0 (subst (λ (rs : List Residue). (p : Pos) → InGrid m.size p → residue_at m.size rs p ≡ residue_of (steps_at m.size steps p))
    (sym c.as_slice.ensures.value) known.read) begin.1 in
    IfOk-map (λ path. (steps : List (Option ℕ)) (count : ℕ) → LeadsDown m c.as_slice.result.now from to steps count → GoesNearer m steps from count path count)
    (IsShownRoute m side from to saddle) c.path_down.result
    (λ path goes. IsShownRoute-path m side saddle from to steps known.are r.here r.there r.saddle path begin.0 begin.1 (goes steps begin.0 leads)) c.path_down.ensures
