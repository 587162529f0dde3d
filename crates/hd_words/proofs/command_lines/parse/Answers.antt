use Rattle.std.proofs.Common.{◌∙◌, ap, map, string_bytes, subst}
use Rattle.std.proofs.lemmas.Result.{IfErr-weaker, IfOk-weaker}
use Rattle.clap.specs.Words.{App, takes, HasMatchesOf}
use Rattle.hd_words.proofs.ParsedCommands.{HasGiven-parsed, app_for-takes}
use Rattle.hd_words.proofs.command_lines.parse.Goals as goal

pub returns-clause-given : goal.returns-clause-given
returns-clause-given c =
    let words = map string_bytes c.args.words.now in
    IfOk-weaker c.try_get_matches_from.result _ _
    (λ m matches. HasGiven-parsed c.args.line words m c.requires (subst (λ (app : App). HasMatchesOf app words m) c.in_ok-command_line.ensures matches))
    c.try_get_matches_from.ensures.matches

pub returns-clause-memory : goal.returns-clause-memory
returns-clause-memory c =
    let words = map string_bytes c.args.words.now in
    IfErr-weaker c.try_get_matches_from.result _ _
    (λ error passes. passes (ap (λ (app : App). takes app words) c.in_ok-command_line.ensures ∙ app_for-takes c.args.line words c.requires))
    c.try_get_matches_from.ensures.passes
