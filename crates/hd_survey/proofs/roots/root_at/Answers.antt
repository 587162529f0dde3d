use Rattle.std.proofs.Common.{◌≡◌, ◌<◌, ◌∙◌, ℕ, Some, get_or, length, slice_get, sym, ap, subst}
use Rattle.std.proofs.lemmas.Option.{none-some, same_Some}
use Rattle.hd_map.specs.declared.types.Pos.{Pos}
use Rattle.hd_map.specs.declared.types.Rank.{Rank}
use Rattle.hd_map.specs.declared.types.SideName.{SideName}
use Rattle.hd_map.specs.declared.types.Size.{Size}
use Rattle.hd_map.specs.Map.{Map, Present, cell_count, place_of, position_at}
use Rattle.hd_map.specs.Rank.{rank}
use Rattle.hd_map.specs.Region.{IsRoot}
use Rattle.hd_map.proofs.Nexts.{root-is_pit}
use Rattle.hd_map.proofs.Points.{place_inside, point_at, point_inside}
use Rattle.hd_steep.specs.Numbering.{AreNumbered, Numbering}
use Rattle.hd_steep.proofs.Numbered.{numbers_whole, pit_of_point}
use Rattle.hd_survey.proofs.RootedPoints.{root_position}
use Rattle.hd_survey.proofs.roots.root_at.Given.{Over}
use Rattle.hd_survey.proofs.roots.root_at.Goals as goal
use Rattle.hd_survey.proofs.roots.root_at.Goals.{After-position_of}

-- the pit that is read is the root of the point
module _ (m : Map) (side : SideName) (regions : Numbering) (numbered : AreNumbered m side regions) (at : Pos) (here : Present m at) (k : ℕ) (index : k ≡ place_of m.size at) where
  read : (r : Rank) × IsRoot m side (rank m at) r × (slice_get regions.pits (get_or regions.numbers k 0) ≡ Some r)
  read =
      let found = pit_of_point m side regions numbered (rank m at) (point_at m at here) in
      (found.0, found.1, ap (λ n. slice_get regions.pits (get_or regions.numbers n 0)) index ∙ found.2)

  read-root : (r : Rank) → slice_get regions.pits (get_or regions.numbers k 0) ≡ Some r → IsRoot m side (rank m at) r
  read-root r is = subst (IsRoot m side (rank m at)) (same_Some read.0 r (sym read.2 ∙ is)) read.1

pub pit-requires : goal.pit-requires
pit-requires g c =
    let m : Map = g.G.Heights.map c.args.grid.now in
    let index : c.index_of.result ≡ place_of m.size c.args.at = c.index_of.ensures.value ∙ ap (λ (s : Size). place_of s c.args.at) c.size-size.ensures in
    subst (λ n. n < length c.args.regions.now.numbers) (sym index)
    (subst (λ n. place_of m.size c.args.at < n) (sym (numbers_whole m g.S.Side.NAME c.args.regions.now c.requires.regions)) (place_inside m.size c.args.at c.requires.present.in_grid))

pub position_of-requires : goal.position_of-requires
position_of-requires g c =
    let m : Map = g.G.Heights.map c.args.grid.now in
    let side = g.S.Side.NAME in
    let index : c.index_of.result ≡ place_of m.size c.args.at = c.index_of.ensures.value ∙ ap (λ (s : Size). place_of s c.args.at) c.size-size.ensures in
    let root = read-root m side c.args.regions.now c.requires.regions c.args.at c.requires.present c.index_of.result index c.in-Some.pit (sym c.pit.ensures ∙ c.in-Some.is) in
    subst (λ (s : Size). c.in-Some.pit.index < cell_count s) (sym c.size-size.ensures)
    (point_inside m c.in-Some.pit (root-is_pit m side (rank m c.args.at) c.in-Some.pit root).point)

pub unreachable-requires : goal.unreachable-requires
unreachable-requires g c =
    let m : Map = g.G.Heights.map c.args.grid.now in
    let index : c.index_of.result ≡ place_of m.size c.args.at = c.index_of.ensures.value ∙ ap (λ (s : Size). place_of s c.args.at) c.size-size.ensures in
    let found = read m g.S.Side.NAME c.args.regions.now c.requires.regions c.args.at c.requires.present c.index_of.result index in
    none-some found.0 (sym c.in-None.is ∙ c.pit.ensures ∙ found.2)

-- what is known of the root
found : (g : Over) (c : After-position_of g) → Present (g.G.Heights.map c.args.grid.now) c.position_of.result
    × IsRoot (g.G.Heights.map c.args.grid.now) g.S.Side.NAME (rank (g.G.Heights.map c.args.grid.now) c.args.at) (rank (g.G.Heights.map c.args.grid.now) c.position_of.result)
found g c =
    let m : Map = g.G.Heights.map c.args.grid.now in
    let side = g.S.Side.NAME in
    let index : c.index_of.result ≡ place_of m.size c.args.at = c.index_of.ensures.value ∙ ap (λ (s : Size). place_of s c.args.at) c.size-size.ensures in
    let here : c.position_of.result ≡ position_at m.size c.in-Some.pit.index = c.position_of.ensures.value ∙ ap (λ (s : Size). position_at s c.in-Some.pit.index) c.size-size.ensures in
    let root = read-root m side c.args.regions.now c.requires.regions c.args.at c.requires.present c.index_of.result index c.in-Some.pit (sym c.pit.ensures ∙ c.in-Some.is) in
    subst (λ (p : Pos). Present m p × IsRoot m side (rank m c.args.at) (rank m p)) (sym here) (root_position m side (rank m c.args.at) c.in-Some.pit root)

pub returns-clause-present : goal.returns-clause-present
returns-clause-present g c = (found g c).0

pub returns-clause-root : goal.returns-clause-root
returns-clause-root g c = (found g c).1
