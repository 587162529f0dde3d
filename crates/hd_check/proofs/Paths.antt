-- Lists of positions as paths of ranks.
use Rattle.std.proofs.Common.{◌≡◌, ◌<◌, ◌+◌, ◌-◌, ℕ, suc, List, [], ◌∷◌, length, map, refl, subst, arith}
use Rattle.std.proofs.lemmas.List.Elements.{All-nil, All-cons}
use Rattle.hd_map.specs.declared.types.Pos.{Pos}
use Rattle.hd_map.specs.declared.types.Rank.{Rank}
use Rattle.hd_map.specs.declared.types.SideName.{SideName}
use Rattle.hd_map.specs.Map.{Map}
use Rattle.hd_map.specs.Neighbour.{Neighbour}
use Rattle.hd_map.specs.Order.{IsNotAbove}
use Rattle.hd_map.specs.Path.{Leads}
use Rattle.hd_map.specs.Rank.{Near, below_by, rank}
use Rattle.hd_map.proofs.Levels.{NoneAbove}
use Rattle.hd_map.proofs.Points.{Near-at}
use Rattle.hd_check.specs.Rules.{point_of}

-- consecutive neighbours are a path
pub Leads-path : (m : Map) (p : Pos) (ps : List Pos) → ((k : ℕ) → k < length (p ∷ ps) - 1 → Neighbour m (point_of (p ∷ ps) k) (point_of (p ∷ ps) (k + 1)))
    → Leads (Near m) (rank m p) (map (rank m) ps) (rank m (point_of (p ∷ ps) (length (p ∷ ps) - 1)))
Leads-path m p [] h = refl
Leads-path m p (q ∷ ps) h =
    let step : (k : ℕ) → k < length (q ∷ ps) - 1 → Neighbour m (point_of (q ∷ ps) k) (point_of (q ∷ ps) (k + 1)) = λ k inside.
    (let e : suc k + 1 ≡ suc (k + 1) = omega arith in
    subst (λ (j : ℕ). Neighbour m (point_of (q ∷ ps) k) (point_of (p ∷ q ∷ ps) j)) e (h (suc k) (omega arith))) in
    let last : suc (length (q ∷ ps) - 1) ≡ length (p ∷ q ∷ ps) - 1 = omega arith in
    (Near-at m p q (h 0 (omega arith)), subst (λ (j : ℕ). Leads (Near m) (rank m q) (map (rank m) ps) (rank m (point_of (p ∷ q ∷ ps) j))) last (Leads-path m q ps step))

-- where no listed point is above the saddle, no rank is
pub NoneAbove-listed : (m : Map) (side : SideName) (s : Rank) (ps : List Pos) → ((k : ℕ) → k < length ps → IsNotAbove (below_by side) (rank m (point_of ps k)) s)
    → NoneAbove (below_by side) s (map (rank m) ps)
NoneAbove-listed m side s [] h = All-nil (λ x. IsNotAbove (below_by side) x s)
NoneAbove-listed m side s (q ∷ ps) h = All-cons (λ x. IsNotAbove (below_by side) x s) (rank m q) (map (rank m) ps) (h 0 (omega arith))
    (NoneAbove-listed m side s ps (λ k inside. h (suc k) (omega (arith, inside))))
