use Rattle.std.proofs.Common.{◌≡◌, ◌<◌, ap, sym, subst, ◌∙◌}
use Rattle.std.specs.Prelude.{Contains, AllPairs, ◌↔◌}
use Rattle.std.proofs.lemmas.List.Elements.{Contains-get_or}
use Rattle.hd_map.specs.declared.types.Rank.{Rank}
use Rattle.hd_map.specs.declared.types.Size.{Size}
use Rattle.hd_map.specs.Map.{position_at}
use Rattle.hd_map.specs.Region.{LowerNeighbour}
use Rattle.hd_survey.proofs.LowerRanks.{lower_exactly, lower_rise}
use Rattle.hd_survey.proofs.falls.gather_lower.Goals as goal

pub pick_lower-requires-clause-present : goal.pick_lower-requires-clause-present
pick_lower-requires-clause-present g c = λ k d below.
    ((c.neighbours-near.ensures.all _).0 (Contains-get_or c.neighbours-near.result.items k d below)).to

pub returns-clause-each : goal.returns-clause-each
returns-clause-each g c = λ q.
    let m = g.G.Heights.map c.args.grid.now in
    let here : c.position_of-at.result ≡ position_at m.size c.args.point.index = c.position_of-at.ensures.value ∙ ap (λ (s : Size). position_at s c.args.point.index) c.size.ensures in
    let exactly = lower_exactly m g.S.Side.NAME c.args.point c.neighbours-near.result.items c.position_of-at.result c.requires here c.neighbours-near.ensures.all c.neighbours-near.ensures.ordered q in
    subst (λ xs. Contains xs q ↔ LowerNeighbour m g.S.Side.NAME c.args.point q) (sym c.pick_lower.ensures) exactly

pub returns-clause-rise : goal.returns-clause-rise
returns-clause-rise g c =
    let m = g.G.Heights.map c.args.grid.now in
    let here : c.position_of-at.result ≡ position_at m.size c.args.point.index = c.position_of-at.ensures.value ∙ ap (λ (s : Size). position_at s c.args.point.index) c.size.ensures in
    let rise = lower_rise m g.S.Side.NAME c.args.point c.neighbours-near.result.items c.position_of-at.result c.requires here c.neighbours-near.ensures.all c.neighbours-near.ensures.ordered in
    subst (AllPairs (λ (a : Rank) (b : Rank). a.index < b.index)) (sym c.pick_lower.ensures) rise
