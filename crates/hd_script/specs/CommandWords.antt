-- The command that the words after each name make, word 2 being the first of them.
use Rattle.std.specs.Prelude.{◌*◌, ◌==◌, ℕ, List, [], ◌∷◌, length, Some, None, Result, Ok, Err, if◌then◌else◌}
use Rattle.hd_edit.specs.declared.edit.Edit.{Edit}
use Rattle.hd_edit.specs.declared.edit.Edit.TheVariants.{Set, Bad, Add, Mask, Unmask}
use Rattle.hd_map.specs.declared.types.SideName.{SideName}
use Rattle.hd_num.specs.declared.percent.Percent.{Percent}
use Rattle.hd_script.specs.declared.command.Command.{Command}
use Rattle.hd_script.specs.declared.command.Command.TheVariants.{Do, Undo, Element, Neighbours, Label, Saddle, Tree, Param, Feature, HeightValue, Hist, Perc}
use Rattle.hd_script.specs.declared.command.LineError.{LineError}
use Rattle.hd_script.specs.declared.command.LineError.TheVariants.{WordCount}
use Rattle.hd_script.specs.Words.{and_then, count_word, whole_word, side_word, adjacency_word, name_word, percent_word, bins_word, position_words, corner_words, entry_words}

-- what the words after a name give
abbrev pub Reading : Type 0
Reading = List (List ℕ) → Result Command LineError

-- a command with no words after its name
abbrev pub no_words : Command → Reading
no_words command [] = Ok command
no_words command words = Err WordCount

-- `set X Y Z`
abbrev pub set_words : Reading
set_words (x ∷ y ∷ z ∷ []) = and_then (position_words 2 x y) (λ at. and_then (whole_word 4 z) (λ height. Ok (Do (Set at height))))
set_words words = Err WordCount

-- `bad X Y`
abbrev pub bad_words : Reading
bad_words (x ∷ y ∷ []) = and_then (position_words 2 x y) (λ at. Ok (Do (Bad at)))
bad_words words = Err WordCount

-- `add X0 Y0 X1 Y1 D`
abbrev pub add_words : Reading
add_words (x ∷ y ∷ x' ∷ y' ∷ d ∷ []) = and_then (corner_words x y x' y') (λ corners. and_then (whole_word 6 d) (λ delta. Ok (Do (Add corners.0 corners.1 delta))))
add_words words = Err WordCount

-- `mask X0 Y0 X1 Y1`
abbrev pub mask_words : Reading
mask_words (x ∷ y ∷ x' ∷ y' ∷ []) = and_then (corner_words x y x' y') (λ corners. Ok (Do (Mask corners.0 corners.1)))
mask_words words = Err WordCount

-- `unmask X0 Y0 X1 Y1`
abbrev pub unmask_words : Reading
unmask_words (x ∷ y ∷ x' ∷ y' ∷ []) = and_then (corner_words x y x' y') (λ corners. Ok (Do (Unmask corners.0 corners.1)))
unmask_words words = Err WordCount

-- the name of an element after the name of a filter
abbrev pub filter_words : (List ℕ → Edit) → Reading
filter_words edit (name ∷ []) = and_then (name_word 2 name) (λ named. Ok (Do (edit named)))
filter_words edit words = Err WordCount

-- `undo K`
abbrev pub undo_words : Reading
undo_words (k ∷ []) = and_then (count_word 2 k) (λ count. Ok (Undo count))
undo_words words = Err WordCount

-- `element NAME W H` and W times H entries
abbrev pub element_words : Reading
element_words (name ∷ width ∷ height ∷ entries) =
    and_then (name_word 2 name) (λ named. and_then (count_word 3 width) (λ w. and_then (count_word 4 height) (λ h.
    if length entries == w * h then and_then (entry_words 5 entries) (λ table. Ok (Element named w h table)) else Err WordCount)))
element_words words = Err WordCount

-- `neighbours N`
abbrev pub neighbours_words : Reading
neighbours_words (n ∷ []) = and_then (adjacency_word 2 n) (λ adjacency. Ok (Neighbours adjacency))
neighbours_words words = Err WordCount

-- `label S X Y`
abbrev pub label_words : Reading
label_words (side ∷ x ∷ y ∷ []) = and_then (side_word 2 side) (λ name. and_then (position_words 3 x y) (λ at. Ok (Label name at)))
label_words words = Err WordCount

-- `saddle S X Y X Y`
abbrev pub saddle_words : Reading
saddle_words (side ∷ x ∷ y ∷ x' ∷ y' ∷ []) = and_then (side_word 2 side) (λ name. and_then (position_words 3 x y) (λ a. and_then (position_words 5 x' y') (λ b. Ok (Saddle name a b))))
saddle_words words = Err WordCount

-- `tree S`
abbrev pub tree_words : Reading
tree_words (side ∷ []) = and_then (side_word 2 side) (λ name. Ok (Tree name))
tree_words words = Err WordCount

-- a side and a percent, after the name of a report on a pruning
abbrev pub pruning_words : (SideName → Percent → Command) → Reading
pruning_words command (side ∷ p ∷ []) = and_then (side_word 2 side) (λ name. and_then (percent_word 3 p) (λ percent. Ok (command name percent)))
pruning_words command words = Err WordCount

-- `param NAME` or `param NAME C`
abbrev pub param_words : Reading
param_words (name ∷ []) = Ok (Param name None)
param_words (name ∷ c ∷ []) = and_then (whole_word 3 c) (λ height. Ok (Param name (Some height)))
param_words words = Err WordCount

-- `feature WORD`
abbrev pub feature_words : Reading
feature_words (word ∷ []) = Ok (Feature word)
feature_words words = Err WordCount

-- `height NAME` or `height NAME C`
abbrev pub height_words : Reading
height_words (name ∷ []) = Ok (HeightValue name None)
height_words (name ∷ c ∷ []) = and_then (whole_word 3 c) (λ height. Ok (HeightValue name (Some height)))
height_words words = Err WordCount

-- `hist N WORD`
abbrev pub hist_words : Reading
hist_words (n ∷ word ∷ []) = and_then (bins_word 2 n) (λ bins. Ok (Hist bins word))
hist_words words = Err WordCount

-- `perc V WORD`
abbrev pub perc_words : Reading
perc_words (v ∷ word ∷ []) = and_then (whole_word 2 v) (λ above. Ok (Perc above word))
perc_words words = Err WordCount
