use Rattle.std.proofs.Common.{◌≡◌, ◌∷◌, ◌++◌, [], ◌-◌, ◌∙◌, ℕ, List, length, get_or, ap, refl, ◌+◌, arith}
use Rattle.std.proofs.Math.ListN.{length-drop}
use Rattle.std.proofs.lemmas.List.{length_push, get_or_at, get_or_append_left, get_or-drop, take_all}
use Rattle.hd_map.specs.Map.{Map}
use Rattle.hd_edit.specs.Board.{log_places, kept_after}
use Rattle.hd_edit.proofs.laws.undos_go_back.Goals as goal

pub returns-clause-last : goal.returns-clause-last
returns-clause-last c = λ earlier m new.
    let maps : List Map = earlier ++ m ∷ [] in
    let more : length maps ≡ length earlier + 1 = length_push earlier m in
    let gone : ℕ = length maps - log_places in
    let kept : length (kept_after earlier m) ≡ length maps - gone = length-drop gone maps in
    let place : gone + (length (kept_after earlier m) - 1) ≡ length earlier = omega (arith, more, kept) in
    get_or_append_left (kept_after earlier m) (new ∷ []) new (length (kept_after earlier m) - 1) (omega (arith, more, kept))
    ∙ get_or-drop gone maps (length (kept_after earlier m) - 1) new
    ∙ ap (λ (i : ℕ). get_or maps i new) place
    ∙ get_or_at earlier m [] new (length earlier) refl

pub returns-clause-none : goal.returns-clause-none
returns-clause-none c = λ earlier m. get_or_at earlier m [] m (length earlier - 0) (omega arith)

pub returns-clause-all : goal.returns-clause-all
returns-clause-all c = λ earlier. take_all (length earlier - 0) earlier (omega arith)
