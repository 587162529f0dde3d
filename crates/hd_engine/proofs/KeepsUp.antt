-- What was found of a grid in tiles, and what is kept of its sides, keep up with its changes.
use Rattle.std.proofs.Common.{◌≡◌, ℕ, List, length}
use Rattle.hd_map.specs.declared.types.SideName.{SideName}
use Rattle.hd_map.specs.declared.types.SideName.TheVariants.{Dales, Hills}
use Rattle.hd_map.specs.Map.{Map}
use Rattle.hd_tiles.specs.Stamps.{ComesFrom}
use Rattle.hd_pool.specs.Following.{KeptSide, nothing_kept}
use Rattle.hd_pool.proofs.Following.{StayInStep, follows-none, follows-onward}
use Rattle.hd_survey.specs.declared.survey.Survey.{Survey}
use Rattle.hd_survey.specs.Survey.{IsSurvey}
use Rattle.hd_engine.specs.Tiled.{KeepsUp}

-- at first nothing is found, and nothing is kept
pub keeps-up-first : (m : Map) (t : ℕ) (stamps : List ℕ) (found : Survey) (low high : KeptSide) → IsSurvey m found → low ≡ nothing_kept → high ≡ nothing_kept
    → KeepsUp m t stamps found low high
keeps-up-first m t stamps found low high is one two = record {
  survey = is;
  dales = follows-none m Dales t stamps low one;
  hills = follows-none m Hills t stamps high two;
}

-- what was found is given up at a change, and what is kept follows
pub keeps-up-onward : (old new : Map) (t u : ℕ) (before after : List ℕ) (was found : Survey) (low high : KeptSide)
    → ((side : SideName) → StayInStep old new side before after) → IsSurvey new found → length before ≡ length after → ComesFrom old t before new u after
    → KeepsUp old t before was low high → KeepsUp new u after found low high
keeps-up-onward old new t u before after was found low high stay is same comes up = record {
  survey = is;
  dales = follows-onward old new Dales t u before after low (stay Dales) same comes up.dales;
  hills = follows-onward old new Hills t u before after high (stay Hills) same comes up.hills;
}
