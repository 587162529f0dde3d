-- What is reached below a level, by positions as by ranks, and what has steps.
use Rattle.std.proofs.Common.{◌≡◌, ℕ, true, List, [], ◌∷◌, map, Option, Some, None, ap, refl, sym, subst}
use Rattle.std.specs.Prelude.{All}
use Rattle.std.proofs.lemmas.List.Elements.{All-nil, All-cons, All-head, All-tail}
use Rattle.hd_map.specs.declared.types.Pos.{Pos}
use Rattle.hd_map.specs.declared.types.Rank.{Rank}
use Rattle.hd_map.specs.declared.types.SideName.{SideName}
use Rattle.hd_map.specs.Map.{InGrid, Map, Present}
use Rattle.hd_map.specs.Neighbour.{Neighbour}
use Rattle.hd_map.specs.Path.{Leads}
use Rattle.hd_map.specs.Rank.{rank, Near}
use Rattle.hd_map.specs.Shown.{IsBelowSaddle, IsReachedBelow}
use Rattle.hd_map.proofs.Points.{Near-at, point_at, same_point}
use Rattle.hd_reach.specs.Reached.{IsLowStep, IsReachedLow}
use Rattle.hd_reach.specs.Steps.{AreSteps, steps_at}
use Rattle.hd_reach.specs.Within.{LiesWithin, within}
use Rattle.hd_reach.proofs.Flooding.{OpenStep-turned}
use Rattle.hd_reach.proofs.Paths.{Leads-then, Leads-turn}

below_from : (side : SideName) (level : Option Rank) (r : Rank) → within side level true r ≡ true → IsBelowSaddle side level r
below_from side None r h = tt
below_from side (Some s) r h = h

below_to : (side : SideName) (level : Option Rank) (r : Rank) → IsBelowSaddle side level r → within side level true r ≡ true
below_to side None r h = refl
below_to side (Some s) r h = h

module _ (m : Map) (side : SideName) (level : Option Rank) where
  abbrev IsLow : Pos → Type 0
  IsLow = LiesWithin m side level true

  abbrev Step : Pos → Pos → Type 0
  Step = IsLowStep m side level

  pub IsReachedLow-sym : (a p : Pos) → IsReachedLow m side level a p → IsReachedLow m side level p a
  IsReachedLow-sym a p w = Leads-turn Step Step (OpenStep-turned m IsLow) a w.0 p w.1

  pub IsReachedLow-trans : (a p q : Pos) → IsReachedLow m side level a p → IsReachedLow m side level p q → IsReachedLow m side level a q
  IsReachedLow-trans a p q w v = Leads-then Step a w.0 p v.0 q w.1 v.1

  -- what is reached lies below the level
  pub IsLow-end : (a : Pos) (xs : List Pos) (b : Pos) → IsLow a → Leads Step a xs b → IsLow b
  IsLow-end a [] b low l = subst IsLow l low
  IsLow-end a (x ∷ xs) b low l = IsLow-end x xs b l.0.to l.1

  -- a way of such steps as a path
  pub Leads-ranks : (a : Pos) (xs : List Pos) (b : Pos) → Leads Step a xs b → Leads (Near m) (rank m a) (map (rank m) xs) (rank m b)
  Leads-ranks a [] b l = ap (rank m) l
  Leads-ranks a (x ∷ xs) b l = (Near-at m a x l.0.neighbour, Leads-ranks x xs b l.1)

  pub IsBelowSaddle-all : (a : Pos) (xs : List Pos) (b : Pos) → IsLow a → Leads Step a xs b → All (IsBelowSaddle side level) (rank m a ∷ map (rank m) xs)
  IsBelowSaddle-all a [] b low l = All-cons (IsBelowSaddle side level) (rank m a) [] (below_from side level (rank m a) low.low) (All-nil (IsBelowSaddle side level))
  IsBelowSaddle-all a (x ∷ xs) b low l = All-cons (IsBelowSaddle side level) (rank m a) (rank m x ∷ map (rank m) xs) (below_from side level (rank m a) low.low) (IsBelowSaddle-all x xs b l.0.to l.1)

  pub IsReachedBelow-low : (a p : Pos) → IsLow a → IsReachedLow m side level a p → IsReachedBelow m side level (rank m a) (rank m p)
  IsReachedBelow-low a p low w = record {
    points = map (rank m) w.0;
    path = record { point = point_at m a low.present; leads = Leads-ranks a w.0 p w.1 };
    below = IsBelowSaddle-all a w.0 p low w.1;
  }

  -- a path below the level as such a way
  pub IsReachedLow-way : (a : Pos) (xs : List Rank) (x : Rank) → Present m a → Leads (Near m) (rank m a) xs x → All (IsBelowSaddle side level) (rank m a ∷ xs) → (p : Pos)
      × (rank m p ≡ x) × IsReachedLow m side level a p
  IsReachedLow-way a [] x here l all = (a, l, ([], refl))
  IsReachedLow-way a (y ∷ ys) x here l all =
      let P : Rank → Type 0 = IsBelowSaddle side level in
      let near = l.0 in
      let same : near.from ≡ a = same_point m near.from a near.neighbour.from here (sym near.from_rank) in
      let later : All P (rank m near.to ∷ ys) = subst (λ (r : Rank). All P (r ∷ ys)) near.to_rank (All-tail P (rank m a) (y ∷ ys) all) in
      let rest = IsReachedLow-way near.to ys x near.neighbour.to (subst (λ (r : Rank). Leads (Near m) r ys x) near.to_rank l.1) later in
      let first : Step a near.to = record {
        neighbour = subst (λ (p : Pos). Neighbour m p near.to) same near.neighbour;
        from = record { present = here; low = below_to side level (rank m a) (All-head P (rank m a) (y ∷ ys) all) };
        to = record { present = near.neighbour.to; low = below_to side level (rank m near.to) (All-head P (rank m near.to) ys later) };
      } in
      (rest.0, rest.1, (near.to ∷ (rest.2).0, (first, (rest.2).1)))

  pub IsReachedLow-below : (a : Pos) (x : Rank) → Present m a → IsReachedBelow m side level (rank m a) x → (p : Pos) × (rank m p ≡ x) × IsReachedLow m side level a p
  IsReachedLow-below a x here r = IsReachedLow-way a r.points x here r.path.leads r.below

  -- what has steps is reached, and the other way round
  module _ (a : Pos) (steps : List (Option ℕ)) (are : AreSteps m IsLow a None steps) where
    pub IsReachedLow-steps : (p : Pos) → InGrid m.size p → (n : ℕ) → steps_at m.size steps p ≡ Some n → IsReachedLow m side level a p
    IsReachedLow-steps p there n noted = let w = are.reached p there n noted in IsReachedLow-sym p a (w.0, w.1)

    pub steps_at-low : (p : Pos) → IsReachedLow m side level a p → (n : ℕ) × (steps_at m.size steps p ≡ Some n)
    steps_at-low p w = let back = IsReachedLow-sym a p w in let r = are.least p back.0 back.1 tt in (r.0, r.2)
