-- The table of the commands.
use Rattle.std.specs.Prelude.{ℕ, List, [], ◌∷◌, codes, Err, if◌then◌else◌}
use Rattle.std.specs.Str.{bytes_eq}
use Rattle.hd_edit.specs.declared.edit.Edit.TheVariants.{Dilate, Erode, Open, Close}
use Rattle.hd_script.specs.declared.command.Command.TheVariants.{Elements, Info, Dales, Hills, Prune, Lines, Audit, Fill}
use Rattle.hd_script.specs.declared.command.LineError.TheVariants.{UnknownCommand}
use Rattle.hd_script.specs.CommandWords.{Reading, no_words, set_words, bad_words, add_words, mask_words, unmask_words, filter_words, undo_words, element_words, neighbours_words, label_words, saddle_words, tree_words, pruning_words, param_words, feature_words, height_words, hist_words, perc_words}

-- a row of the table: the name of a command, and what the words after it give
pub record Row : Type 0 where
  pub name : List ℕ
  pub reading : Reading

abbrev pub row : List ℕ → Reading → Row
row name reading = record { name = name; reading = reading }

-- the values of parameters and notations
unfoldable pub value_commands : List Row
value_commands = row (codes "param") param_words
    ∷ row (codes "feature") feature_words
    ∷ row (codes "height") height_words
    ∷ row (codes "hist") hist_words
    ∷ row (codes "perc") perc_words
    ∷ []

-- the reports on a pruning, and then the values
unfoldable pub pruning_commands : List Row
pruning_commands = row (codes "prune") (pruning_words Prune)
    ∷ row (codes "lines") (pruning_words Lines)
    ∷ row (codes "audit") (pruning_words Audit)
    ∷ row (codes "fill") (pruning_words Fill)
    ∷ value_commands

-- the reports on a map, and then those on a pruning
unfoldable pub report_commands : List Row
report_commands = row (codes "info") (no_words Info)
    ∷ row (codes "dales") (no_words Dales)
    ∷ row (codes "hills") (no_words Hills)
    ∷ row (codes "label") label_words
    ∷ row (codes "saddle") saddle_words
    ∷ row (codes "tree") tree_words
    ∷ pruning_commands

-- the filters, the undoing of edits, the elements and the setting, and then the reports
unfoldable pub later_commands : List Row
later_commands = row (codes "dilate") (filter_words Dilate)
    ∷ row (codes "erode") (filter_words Erode)
    ∷ row (codes "open") (filter_words Open)
    ∷ row (codes "close") (filter_words Close)
    ∷ row (codes "undo") undo_words
    ∷ row (codes "element") element_words
    ∷ row (codes "elements") (no_words Elements)
    ∷ row (codes "neighbours") neighbours_words
    ∷ report_commands

-- the commands: the edits of points, and then the later ones
unfoldable pub commands : List Row
commands = row (codes "set") set_words
    ∷ row (codes "bad") bad_words
    ∷ row (codes "add") add_words
    ∷ row (codes "mask") mask_words
    ∷ row (codes "unmask") unmask_words
    ∷ later_commands

-- what the words after a name give, by the first row of that name
abbrev pub read_by : List Row → List ℕ → Reading
read_by [] name words = Err UnknownCommand
read_by (first ∷ more) name words = if bytes_eq name first.name then first.reading words else read_by more name words
