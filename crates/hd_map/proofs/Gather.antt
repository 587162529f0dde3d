-- The neighbours that are found up to a step of the loop over the nine positions round a point.
use Rattle.std.proofs.Common.{◌≡◌, ◌<◌, ◌≤◌, ◌+◌, ◌*◌, ◌/◌, ◌%◌, ℕ, List, [], ◌∷◌, ◌++◌, length, get_or, inl, inr, ap, ◌∙◌, subst, arith}
use Rattle.std.specs.List.{Contains, AllPairs}
use Rattle.std.proofs.lemmas.List.{length_push}
use Rattle.std.proofs.lemmas.Bool.{cases_lt}
use Rattle.std.proofs.Math.Nat.{mul-le-mul_right}
use Rattle.std.proofs.lemmas.List.Elements.{Contains-push, Contains-push_cases, Contains-append_left, Contains-get_or}
use Rattle.std.proofs.lemmas.List.Quantifiers.{all_pairs_push}
use Rattle.hd_map.specs.declared.types.Pos.{Pos}
use Rattle.hd_map.specs.Map.{Map, Present, place_of}
use Rattle.hd_map.specs.Neighbour.{Neighbour, AreBesideUnder}

-- found are the neighbours of at before this step, in position order
pub record Gathered (m : Map) (at : Pos) (step : ℕ) (found : List Pos) : Type 0 where
  pub room : length found ≤ step
  pub room_after : 5 ≤ step → length found + 1 ≤ step
  pub sound : (q : Pos) → Contains found q → Neighbour m at q × (3 * q.y + q.x + 4 < 3 * at.y + at.x + step)
  pub complete : (q : Pos) → Neighbour m at q → 3 * q.y + q.x + 4 < 3 * at.y + at.x + step → Contains found q
  pub ordered : AllPairs (λ a b. place_of m.size a < place_of m.size b) found

pub same_pos : (a b : Pos) → a.x ≡ b.x → a.y ≡ b.y → a ≡ b
same_pos a b ex ey = let make : ℕ → ℕ → Pos = λ x y. record { x = x; y = y } in ap (λ x. make x a.y) ex ∙ ap (λ y. make b.x y) ey

place_less : (w ax ay bx by : ℕ) → ax < w → ax ≤ bx + 2 → bx ≤ ax + 2 → 3 * ay + ax < 3 * by + bx → ay * w + ax < by * w + bx
place_less w ax ay bx by in_row near near' before = elim (cases_lt ay by) [
  | inl above ↦ omega (arith, mul-le-mul_right w (let h : ay + 1 ≤ by = omega arith in h))
  | inr not ↦ let e : ay ≡ by = omega arith in rw e (omega arith)
]

-- the position at a step is the only one of its number
only_one : (at q : Pos) (step : ℕ) → step < 9 → q.x ≤ at.x + 1 → at.x ≤ q.x + 1 → q.y ≤ at.y + 1 → at.y ≤ q.y + 1
    → 3 * q.y + q.x + 4 ≡ 3 * at.y + at.x + step → (q.x + 1 ≡ at.x + step % 3) × (q.y + 1 ≡ at.y + step / 3)
only_one at q step below x x' y y' e = (omega arith, omega arith)

-- the step to a neighbour of this number
pub step_of : (m : Map) (at q : Pos) (step : ℕ) → Neighbour m at q → step < 9 → 3 * q.y + q.x + 4 ≡ 3 * at.y + at.x + step → (q.x + 1 ≡ at.x + step % 3) × (q.y + 1 ≡ at.y + step / 3)
step_of m at q step n below e = only_one at q step below (omega (arith, n.columns)) (omega (arith, n.columns)) (omega (arith, n.rows)) (omega (arith, n.rows)) e

-- what is present and beside the point at a step is a neighbour
pub step_neighbour : (m : Map) (at q : Pos) (step : ℕ) → Present m at → Present m q → AreBesideUnder m.adjacency at q → step < 9 → (step ≡ 4 → ⊥) → q.x + 1 ≡ at.x + step % 3
    → q.y + 1 ≡ at.y + step / 3 → Neighbour m at q
step_neighbour m at q step here there beside below apart ex ey = record {
  from = here;
  to = there;
  columns = (omega (arith, below, ex), omega (arith, below, ex));
  rows = (omega (arith, below, ey), omega (arith, below, ey));
  different = λ e. apart (let x : at.x ≡ q.x = ap (λ (p : Pos). p.x) e in let y : at.y ≡ q.y = ap (λ (p : Pos). p.y) e in omega (arith, below, ex, ey, x, y));
  beside = beside;
}

pub gathered_push : (m : Map) (at q : Pos) (step : ℕ) (found : List Pos) → Present m at → (step ≡ 4 → ⊥) → step < 9
    → q.x + 1 ≡ at.x + step % 3 → q.y + 1 ≡ at.y + step / 3 → Present m q → AreBesideUnder m.adjacency at q → Gathered m at step found → Gathered m at (step + 1) (found ++ q ∷ [])
gathered_push m at q step found here not_centre below ex ey there beside g =
    let number : 3 * q.y + q.x + 4 ≡ 3 * at.y + at.x + step = omega arith in
    let apart : at ≡ q → ⊥ = λ e. let e' : at.x ≡ q.x = ap (λ (p : Pos). p.x) e in let e'' : at.y ≡ q.y = ap (λ (p : Pos). p.y) e in not_centre (omega arith) in
    let one : Neighbour m at q = record { from = here; to = there; columns = (omega arith, omega arith); rows = (omega arith, omega arith); different = apart; beside = beside } in
    record {
      room = rw length_push (omega (arith, g.room));
      room_after = λ h. rw length_push (omega (arith, g.room, g.room_after));
      sound = λ r h. elim (Contains-push_cases found q r h) [
        | inl old ↦ let s = g.sound r old in (s.0, omega (arith, s.1))
        | inr e ↦ let P : Pos → Type 0 = λ r. Neighbour m at r × (3 * r.y + r.x + 4 < 3 * at.y + at.x + (step + 1)) in subst P e (one, omega arith)
      ];
      complete = λ r n h. elim (cases_lt (3 * r.y + r.x + 4) (3 * at.y + at.x + step)) [
        | inl old ↦ Contains-append_left found (q ∷ []) r (g.complete r n old)
        | inr new ↦
            let at_step = only_one at r step below (omega (arith, n.columns)) (omega (arith, n.columns)) (omega (arith, n.rows)) (omega (arith, n.rows)) (omega arith) in
            subst (λ (r : Pos). Contains (found ++ q ∷ []) r) (same_pos q r (omega (arith, at_step)) (omega (arith, at_step))) (Contains-push found q)
      ];
      ordered = all_pairs_push (λ a b. place_of m.size a < place_of m.size b) found q g.ordered (λ k d inside.
          let r : Pos = get_or found k d in
          let s = g.sound r (Contains-get_or found k d inside) in
          place_less m.size.points r.x r.y q.x q.y s.0.to.in_grid.column (omega (arith, s.0.columns, one.columns)) (omega (arith, s.0.columns, one.columns)) (omega (arith, s.1, number)));
    }

-- the position at this step is none of the neighbours
gathered_same : (m : Map) (at : Pos) (step : ℕ) (found : List Pos) → ((q : Pos) → Neighbour m at q → 3 * q.y + q.x + 4 ≡ 3 * at.y + at.x + step → ⊥)
    → Gathered m at step found → Gathered m at (step + 1) found
gathered_same m at step found none g = record {
  room = omega (arith, g.room);
  room_after = λ h. omega (arith, g.room, g.room_after);
  sound = λ r h. let s = g.sound r h in (s.0, omega (arith, s.1));
  complete = λ r n h. elim (cases_lt (3 * r.y + r.x + 4) (3 * at.y + at.x + step)) [
    | inl old ↦ g.complete r n old
    | inr new ↦ absurd (none r n (omega arith))
  ];
  ordered = g.ordered;
}

-- nothing is present at this step
pub gathered_none : (m : Map) (at : Pos) (step : ℕ) (found : List Pos) → step < 9
    → ((q : Pos) → q.x + 1 ≡ at.x + step % 3 → q.y + 1 ≡ at.y + step / 3 → Present m q → ⊥) → Gathered m at step found → Gathered m at (step + 1) found
gathered_none m at step found below none = gathered_same m at step found (λ q n e.
    let at_step = only_one at q step below (omega (arith, n.columns)) (omega (arith, n.columns)) (omega (arith, n.rows)) (omega (arith, n.rows)) e in
    none q at_step.0 at_step.1 n.to)

-- what is not beside the point under the setting is none of its neighbours
pub gathered_apart : (m : Map) (at q : Pos) (step : ℕ) (found : List Pos) → step < 9 → q.x + 1 ≡ at.x + step % 3 → q.y + 1 ≡ at.y + step / 3
    → (AreBesideUnder m.adjacency at q → ⊥) → Gathered m at step found → Gathered m at (step + 1) found
gathered_apart m at q step found below ex ey apart = gathered_same m at step found (λ r n e.
    let at_step = only_one at r step below (omega (arith, n.columns)) (omega (arith, n.columns)) (omega (arith, n.rows)) (omega (arith, n.rows)) e in
    apart (subst (λ (p : Pos). AreBesideUnder m.adjacency at p) (same_pos r q (omega (arith, at_step, ex)) (omega (arith, at_step, ey))) n.beside))

-- the point itself is none of its neighbours
pub gathered_centre : (m : Map) (at : Pos) (step : ℕ) (found : List Pos) → step ≡ 4 → Gathered m at step found → Gathered m at (step + 1) found
gathered_centre m at step found centre = gathered_same m at step found (λ q n e.
    n.different (same_pos at q (omega (arith, n.columns, n.rows)) (omega (arith, n.columns, n.rows))))

-- after all steps
pub gathered_all : (m : Map) (at : Pos) (step : ℕ) (found : List Pos) → 9 ≤ step → Gathered m at step found → (q : Pos) → (Contains found q → Neighbour m at q) × (Neighbour m at q → Contains found q)
gathered_all m at step found all g q = (λ h. (g.sound q h).0, λ n. g.complete q n (omega (arith, n.columns, n.rows)))
