use Rattle.std.proofs.Common.{List, Option, rules}
use Rattle.std.specs.List.{zip}
use Rattle.hd_num.specs.declared.frac.Frac.{Frac}
use Rattle.hd_prune.specs.declared.step.Kept.{Kept}
use Rattle.hd_report.proofs.VolumeRuns.{length-paired, AreWithVolumes-listed}
use Rattle.hd_report.proofs.volumes.list_volumes.Goals as goal

pub returns : goal.returns
returns c =
    let kept : List Kept = c.args.kept.now in
    let volumes : List (Option Frac) = c.args.volumes.now in
    (zip kept volumes, AreWithVolumes-listed kept volumes c.requires.each, rw (length-paired kept volumes c.requires.each) (search rules))
