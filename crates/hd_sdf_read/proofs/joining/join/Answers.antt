use Rattle.hd_sdf_read.proofs.TokenCuts.{without_start-joined, IsWord-joined}
use Rattle.hd_sdf_read.proofs.joining.join.Goals as goal

pub returns-in_ok-joined-in-None : goal.returns-in_ok-joined-in-None
returns-in_ok-joined-in-None c =
    without_start-joined c.args.token.text c.args.text.now c.behind-text.result.now c.in_ok-joined-in-None.field-0.text c.behind-text.ensures.same c.in_ok-joined-in-None.ensures

pub returns-in_ok-joined-in-Some : goal.returns-in_ok-joined-in-Some
returns-in_ok-joined-in-Some c =
    IsWord-joined c.args.token.text c.args.text.now c.behind-text.result.now c.in-Some.end.now c.in-Some.rest.now c.in_ok-joined-in-Some.field-0.text c.args.token.open
    c.behind-text.ensures.same c.behind-text.ensures.begins
    c.in-Some.ensures c.in_ok-joined-in-Some.ensures
