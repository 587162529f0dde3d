-- Steps, joins and border lines whose points are points of a grid.
use Rattle.std.specs.Prelude.{◌<◌, All}
use Rattle.hd_graph.specs.declared.trees.Join.{Join}
use Rattle.hd_lines.specs.declared.line.BorderLine.{BorderLine}
use Rattle.hd_map.specs.declared.types.Size.{Size}
use Rattle.hd_map.specs.Map.{cell_count}
use Rattle.hd_prune.specs.declared.step.Step.{Step}

-- the three points of a step are points of a grid of this size
abbrev pub IsStepOn : Size → Step → Type 0
IsStepOn size step = (step.pit.index < cell_count size) × (step.saddle.index < cell_count size) × (step.into.index < cell_count size)

-- a saddle and the pits that it joins are points of a grid of this size
abbrev pub IsJoinOn : Size → Join → Type 0
IsJoinOn size join = (join.saddle.index < cell_count size) × All (λ part. part.index < cell_count size) join.parts

-- the two pits and the pass of a border line are points of a grid of this size
abbrev pub IsLineOn : Size → BorderLine → Type 0
IsLineOn size line = (line.a.index < cell_count size) × (line.b.index < cell_count size) × (line.pass.index < cell_count size)
