use Rattle.std.proofs.Common.{not, arith}
use Rattle.std.proofs.lemmas.List.Sums.{prefix_len-le-length}
use Rattle.hd_sdf_read.specs.Tokens.{is_gap}
use Rattle.hd_sdf_read.proofs.token.next_token.Goals as goal

pub split_at-requires : goal.split_at-requires
split_at-requires c = omega (arith, c.token_len.ensures, prefix_len-le-length (λ byte. not (is_gap byte)) c.skip_gaps-text.result.now)
