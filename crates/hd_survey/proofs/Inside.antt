-- What stands in a path, and the saddles and pits of a change tree, are points of the map.
use Rattle.std.proofs.Common.{◌≡◌, ◌<◌, List, [], ◌∷◌, length, get_or, inl, inr, refl, sym, subst}
use Rattle.std.specs.Prelude.{All}
use Rattle.std.specs.List.{Contains}
use Rattle.std.proofs.lemmas.List.{get_or-map, length-map}
use Rattle.std.proofs.lemmas.List.Elements.{Contains-get_or}
use Rattle.hd_map.specs.declared.types.Rank.{Rank}
use Rattle.hd_map.specs.declared.types.SideName.{SideName}
use Rattle.hd_map.specs.ChangeTree.{Joining, IsChangeTree}
use Rattle.hd_map.specs.Map.{Map}
use Rattle.hd_map.specs.Path.{Leads}
use Rattle.hd_map.specs.Rank.{IsPoint, Near}
use Rattle.hd_map.proofs.Levels.{Contains-cases, Contains-none}
use Rattle.hd_map.proofs.Points.{Near-to, point_inside}
use Rattle.hd_graph.specs.declared.trees.Join.{Join}
use Rattle.hd_graph.specs.Tells.{joins_of}
use Rattle.hd_survey.specs.Inside.{IsJoinOn}

-- what stands in a path is a point
pub path_point : (m : Map) (a b s : Rank) (xs : List Rank) → IsPoint m a → Leads (Near m) a xs b → Contains (a ∷ xs) s → IsPoint m s
path_point m a b s [] point leads there = elim (Contains-cases a s [] there) [
  | inl same ↦ subst (IsPoint m) (sym same) point
  | inr none ↦ absurd (Contains-none s none)
]
path_point m a b s (x ∷ xs) point leads there = elim (Contains-cases a s (x ∷ xs) there) [
  | inl same ↦ subst (IsPoint m) (sym same) point
  | inr later ↦ path_point m x b s xs (Near-to m a x leads.0) leads.1 later
]

abbrev joining_of : Join → Joining
joining_of x = record { saddle = x.saddle; parts = x.parts }

-- each join of a change tree is inside
pub joins_inside : (m : Map) (side : SideName) (joins : List Join) → IsChangeTree m side (joins_of joins) → All (IsJoinOn m.size) joins
joins_inside m side joins tree k d below =
    let x : Join = get_or joins k d in
    let long : length (joins_of joins) ≡ length joins = length-map joins joining_of in
    let there : Contains (joins_of joins) (joining_of x) = (k, subst (λ n. k < n) (sym long) below, get_or-map joining_of joins k d (joining_of x) below) in
    let of = (tree.saddles x.saddle).0 (joining_of x, there, refl) in
    let reached = of.2.saddle.reached in (
      point_inside m x.saddle (path_point m of.0 of.1 x.saddle reached.0 reached.1.point reached.1.leads reached.2.one_of),
      λ i e less. let part : Rank = get_or x.parts i e in
          point_inside m part (((tree.each (joining_of x) there).exactly part).0 (Contains-get_or x.parts i e less)).is_pit.point,
    )
