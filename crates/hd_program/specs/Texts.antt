-- The texts of the program's own, each line ended by LF.
use Rattle.std.specs.Prelude.{◌++◌, ℕ, List, codes}
use Rattle.hd_run.specs.Texts.{line}

unfoldable pub usage_text : List ℕ
usage_text =
    line (codes "usage: hilldale dales SURFACE")
    ++ line (codes "usage: hilldale run SURFACE SCRIPT [--tile N] [--save OUT]")
    ++ line (codes "usage: hilldale check SURFACE CERT")
    ++ line (codes "usage: hilldale demo W H NUMBER EDITS [--tile N]")

unfoldable pub read_fault_text : List ℕ
read_fault_text = line (codes "read fault")
