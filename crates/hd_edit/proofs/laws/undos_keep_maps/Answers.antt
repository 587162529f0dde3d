use Rattle.std.proofs.Common.{◌∷◌, ◌++◌, [], ◌-◌, length, arith}
use Rattle.std.proofs.lemmas.List.{length_push}
use Rattle.std.proofs.lemmas.List.Elements.{All-push, All-take, All-get_or}
use Rattle.hd_map.specs.Map.{IsMap}
use Rattle.hd_edit.proofs.laws.undos_keep_maps.Goals as goal

pub returns-clause-back : goal.returns-clause-back
returns-clause-back c = λ n earlier m are whole. All-get_or IsMap (earlier ++ m ∷ []) (length earlier - n) m (omega (arith, length_push earlier m)) (All-push IsMap earlier m are whole)

pub returns-clause-left : goal.returns-clause-left
returns-clause-left c = λ n earlier are. All-take IsMap (length earlier - n) earlier are
