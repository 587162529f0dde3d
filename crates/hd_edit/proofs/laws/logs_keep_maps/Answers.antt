use Rattle.std.proofs.Common.{◌∷◌, ◌++◌, [], ◌-◌, length, arith, List}
use Rattle.std.proofs.Math.ListN.{length-drop}
use Rattle.std.proofs.lemmas.List.Elements.{All-push, All-drop}
use Rattle.hd_map.specs.Map.{Map, IsMap}
use Rattle.hd_edit.specs.Board.{log_places}
use Rattle.hd_edit.proofs.laws.logs_keep_maps.Goals as goal

pub returns-clause-maps : goal.returns-clause-maps
returns-clause-maps c = λ earlier m are whole. All-drop IsMap (length (earlier ++ m ∷ []) - log_places) (earlier ++ m ∷ []) (All-push IsMap earlier m are whole)

pub returns-clause-few : goal.returns-clause-few
returns-clause-few c = λ earlier m. let maps : List Map = earlier ++ m ∷ [] in omega (arith, length-drop (length maps - log_places) maps)
