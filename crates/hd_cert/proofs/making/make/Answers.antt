use Rattle.std.proofs.Common.{subst, Option}
use Rattle.hd_map.specs.declared.types.Rank.{Rank}
use Rattle.hd_map.specs.Rank.{rank}
use Rattle.hd_map.specs.Saddle.{SaddleIs}
use Rattle.hd_map.proofs.Saddles.{saddle-point}
use Rattle.hd_cert.proofs.making.make.Goals as goal

pub written-requires : goal.written-requires
written-requires g c =
    let m = g.G.Heights.map c.args.grid.now in
    saddle-point m g.S.Side.NAME (rank m c.args.from) (rank m c.args.to) c.in-Some.top
    (subst (λ (o : Option Rank). SaddleIs m g.S.Side.NAME (rank m c.args.from) (rank m c.args.to) o) c.in-Some.is c.requires.saddle)
