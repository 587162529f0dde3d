use Rattle.hd_map.specs.SettingLaws.{under-whole}
use Rattle.hd_map.specs.Sets.{under}
use Rattle.hd_audit.proofs.KeptShown.{kept-are_shown}
use Rattle.hd_audit.proofs.laws.right_pruning_certificate_names_the_kept_pits.Goals as goal

pub returns : goal.returns
returns c = λ m audit whole right steps last owner pruning p.
    let turned = under audit.adjacency m in
    let all = under-whole audit.adjacency m whole in
    let firm = c.pruning_keeps_what_is_not_undercut.ensures turned audit.side audit.percent.thousandths right.sz steps last owner all pruning right.sz_is in
    kept-are_shown turned all audit.side audit.percent.thousandths right.sz audit.lines right.tried last firm p
