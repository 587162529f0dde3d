use Rattle.hd_sdf_read.proofs.TokenCuts.{IsCut-at, is_gap-uncut}
use Rattle.hd_sdf_read.proofs.joining.split_gap.Goals as goal

pub returns-then-end-text : goal.returns-then-end-text
returns-then-end-text c = IsCut-at c.args.text.now c.split_at.result.0.now c.split_at.result.1.now c.token_len-end.result c.token_len-end.ensures c.if-end-text.true
    c.split_at.ensures.front c.split_at.ensures.back

pub returns-else-end-text : goal.returns-else-end-text
returns-else-end-text c = is_gap-uncut c.args.text.now c.token_len-end.result c.token_len-end.ensures c.if-end-text.false
