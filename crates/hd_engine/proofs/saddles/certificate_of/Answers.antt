use Rattle.std.proofs.Common.{List, Option, Some, None, Bool, sym, subst}
use Rattle.hd_map.specs.declared.types.Pos.{Pos}
use Rattle.hd_map.specs.declared.types.Rank.{Rank}
use Rattle.hd_map.specs.declared.types.SideName.{SideName}
use Rattle.hd_map.specs.Map.{Map}
use Rattle.hd_map.specs.Rank.{rank}
use Rattle.hd_map.specs.Saddle.{SaddleIs}
use Rattle.hd_map.specs.Shown.{IsBelowSaddle}
use Rattle.hd_map.proofs.Points.{same_point}
use Rattle.hd_map.proofs.Saddles.{saddle-above_pit}
use Rattle.hd_steep.specs.Reached.{AreReachedPits}
use Rattle.hd_cert.specs.Shown.{AreTwoPits}
use Rattle.hd_engine.proofs.saddles.certificate_of.Goals as goal

-- a pit is below its saddle with another one
pit_below : (m : Map) (side : SideName) (a b : Pos) (saddle : Option Rank) → AreTwoPits m side a b → SaddleIs m side (rank m a) (rank m b) saddle → IsBelowSaddle side saddle (rank m a)
pit_below m side a b None pits is = tt
pit_below m side a b (Some s) pits is = saddle-above_pit m side (rank m a) (rank m b) s pits.pit (λ same. pits.apart (same_point m a b pits.here pits.there same)) is

pub reached_pits-requires-clause-low : goal.reached_pits-requires-clause-low
reached_pits-requires-clause-low g c =
    let m = g.G.Heights.map c.args.grid.now in
    let side = g.S.Side.NAME in
    subst (IsBelowSaddle side c.args.saddle) (sym c.rank_of.ensures) (pit_below m side c.args.from c.args.to c.args.saddle c.requires.pits c.requires.saddle)

pub certify_by_regions-requires-clause-regions : goal.certify_by_regions-requires-clause-regions
certify_by_regions-requires-clause-regions g c = c.requires.findings.regions c.regions-regions.result.now c.regions-regions.ensures

pub certify_by_regions-requires-clause-reached : goal.certify_by_regions-requires-clause-reached
certify_by_regions-requires-clause-reached g c =
    let m = g.G.Heights.map c.args.grid.now in
    let side = g.S.Side.NAME in
    let regions = c.regions-regions.result.now in
    let are = c.requires.findings.regions regions c.regions-regions.ensures in
    let reached = c.in_ok-reached.ensures regions.pits are.pits in
    subst (λ (a : Rank). AreReachedPits m side c.args.saddle a regions.pits c.as_slice.result.now) c.rank_of.ensures
    (subst (λ (flags : List Bool). AreReachedPits m side c.args.saddle c.rank_of.result regions.pits flags) (sym c.as_slice.ensures.value) reached)
