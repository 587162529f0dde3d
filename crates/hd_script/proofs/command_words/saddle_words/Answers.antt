use Rattle.std.proofs.Common.{◌∙◌, ap, sym}
use Rattle.hd_script.specs.CommandWords.{saddle_words}
use Rattle.hd_script.proofs.LongestRow.{words-five}
use Rattle.hd_script.proofs.command_words.saddle_words.Goals as goal

pub returns-clause-value : goal.returns-clause-value
returns-clause-value c =
    let five = words-five c.args.line.now c.args.words.now _ c.in-len5.len_at_least c.in-len5.len_below in
    c.saddle_command.ensures.value ∙ rw (c.text-x.ensures, c.text-y.ensures, c.text-other_x.ensures, c.text-other_y.ensures, c.text.ensures) (ap saddle_words (sym five))
