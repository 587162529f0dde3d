-- The lines of a change tree.
use Rattle.std.specs.Prelude.{◌++◌, ◌<◌, ℕ, List, [], ◌∷◌, length, All, codes, decimal}
use Rattle.std.specs.List.{flat_map}
use Rattle.hd_map.specs.declared.types.Rank.{Rank}
use Rattle.hd_map.specs.declared.types.Size.{Size}
use Rattle.hd_map.specs.declared.types.SideName.{SideName}
use Rattle.hd_map.specs.Map.{cell_count}
use Rattle.hd_map.specs.ChangeTree.{Joining}
use Rattle.hd_graph.specs.declared.trees.Join.{Join}
use Rattle.hd_report.specs.Place.{point_text, rank_text, side_text}

-- a join as the definition has it
abbrev pub joining_of : Join → Joining
joining_of x = record { saddle = x.saddle; parts = x.parts }

-- a saddle and the pits that it joins are points of a grid of this size
abbrev pub IsJoinInside : Size → Joining → Type 0
IsJoinInside size join = (join.saddle.index < cell_count size) × All (λ part. part.index < cell_count size) join.parts

-- a pit that a saddle joins
abbrev pub part_text : Size → Rank → List ℕ
part_text size part = 32 ∷ [] ++ point_text size part

-- a saddle: its column, profile and height, and how many pits it joins
abbrev pub saddle_text : Size → Rank → ℕ → List ℕ
saddle_text size saddle count = codes "saddle " ++ rank_text size saddle ++ 32 ∷ [] ++ decimal count

-- the line of a saddle, with the pits that it joins
abbrev pub join_line : Size → Joining → List ℕ
join_line size join = saddle_text size join.saddle (length join.parts) ++ flat_map (part_text size) join.parts ++ 10 ∷ []

-- `tree S K`
abbrev pub tree_heading : SideName → ℕ → List ℕ
tree_heading side count = codes "tree " ++ side_text side ++ 32 ∷ [] ++ decimal count ++ 10 ∷ []

-- how many saddles there are, and a line for each
abbrev pub tree_text : SideName → Size → List Joining → List ℕ
tree_text side size joins = tree_heading side (length joins) ++ flat_map (join_line size) joins
