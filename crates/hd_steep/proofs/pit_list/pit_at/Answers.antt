use Rattle.std.proofs.Common.{◌∙◌, ap, sym, subst}
use Rattle.hd_map.specs.declared.types.Rank.{Rank}
use Rattle.hd_map.specs.Region.{IsPit}
use Rattle.hd_steep.proofs.PitNumbers.{own_position}
use Rattle.hd_steep.proofs.pit_list.pit_at.Goals as goal

pub point_at-requires : goal.point_at-requires
point_at-requires g c = record { at = c.requires.at; point = c.requires.point; index_is = c.requires.index_is }

pub returns-clause-pit : goal.returns-clause-pit
returns-clause-pit g c = subst (IsPit (g.G.Heights.map c.args.grid.now) g.S.Side.NAME) (sym c.point_at.ensures) (own_position (g.G.Heights.map c.args.grid.now) g.S.Side.NAME c.args.index c.requires).1

pub returns-clause-index : goal.returns-clause-index
returns-clause-index g c = ap (λ (r : Rank). r.index) c.point_at.ensures ∙ (own_position (g.G.Heights.map c.args.grid.now) g.S.Side.NAME c.args.index c.requires).2
