-- The shown path and the shown cut.
use Rattle.std.proofs.Common.{◌≡◌, ◌<◌, ◌≤◌, ◌+◌, ◌-◌, ℕ, zero, suc, true, false, List, [], ◌∷◌, length, get_or, map, Option, Some, None, inl, inr, ap, ◌∙◌, refl, sym, subst, arith}
use Rattle.std.specs.Prelude.{not, Result, Ok, Err, IfOk}
use Rattle.std.proofs.lemmas.List.{get_or-map, length-map}
use Rattle.std.proofs.lemmas.List.Elements.{All-head, All-tail}
use Rattle.std.proofs.lemmas.Bool.{cases_lt, not-true}
use Rattle.hd_map.specs.declared.types.Pos.{Pos}
use Rattle.hd_map.specs.declared.types.Rank.{Rank}
use Rattle.hd_map.specs.declared.types.SideName.{SideName}
use Rattle.hd_map.specs.Map.{Map, InGrid, Present, place_of, cell_count}
use Rattle.hd_map.specs.Neighbour.{Neighbour}
use Rattle.hd_map.specs.Order.{IsNotAbove}
use Rattle.hd_map.specs.Path.{Leads, IsTop}
use Rattle.hd_map.proofs.Levels.{NoneAbove, top_of, top-not_above}
use Rattle.hd_check.specs.Rules.{point_of}
use Rattle.hd_check.proofs.Paths.{Leads-path, NoneAbove-listed}
use Rattle.hd_check.proofs.Searching.{Contains-place}
use Rattle.hd_map.specs.Rank.{rank, below_by, IsPoint, Near}
use Rattle.hd_map.specs.Region.{IsPit}
use Rattle.hd_map.proofs.Points.{same_place, same_point, point_at, place_inside}
use Rattle.hd_map.specs.SideLaws.{below_by-order}
use Rattle.hd_map.proofs.Saddles.{saddle-above_pit}
use Rattle.hd_map.specs.Saddle.{IsSaddle, SaddleIs}
use Rattle.hd_cert.specs.declared.residue.Residue.{Residue}
use Rattle.hd_cert.specs.Residues.{residue_at, residue_of, AreResidues, IsReached}
use Rattle.hd_reach.specs.Steps.{IsWanted, OpenStep, steps_at, AreSteps}
use Rattle.hd_reach.specs.Within.{LiesWithin}
use Rattle.hd_cert.specs.FirstNearer.{IsNearer, IsFirst, GoesNearer, LeadsDown}
use Rattle.hd_cert.specs.Listed.{AreListed}
use Rattle.hd_cert.specs.Routes.{IsRouteOver, IsShownRoute, IsRouteCut}
use Rattle.hd_map.specs.Shown.{IsNotAfter}
use Rattle.hd_reach.proofs.Flooding.{Option-some_or_none}
use Rattle.hd_reach.proofs.ReachedBelow.{steps_at-low, IsLow-end, IsReachedLow-steps}
use Rattle.hd_cert.proofs.Residues.{residue_of_steps-reached, residue_of-noted}
use Rattle.hd_cert.proofs.Paths.{Leads-steps}

-- a number that is noted twice is one
pub Some-unique : (o : Option ℕ) (a b : ℕ) → o ≡ Some a → o ≡ Some b → a ≡ b
Some-unique o a b e f = let g : Some a ≡ Some b = sym e ∙ f in cc

-- what follows of a value follows of a result that has it
pub IfOk-map : {T E : Type 0} (P Q : T → Type 0) (r : Result T E) → ((x : T) → P x → Q x) → IfOk r P → IfOk r Q
IfOk-map P Q (Ok x) f h = f x h
IfOk-map P Q (Err e) f h = tt

module _ (m : Map) (IsOpen : Pos → Type 0) (start : Pos) (goal : Option Pos) (steps : List (Option ℕ)) (are : AreSteps m IsOpen start goal steps) where
  -- so many steps are wanted
  abbrev AreWanted : ℕ → Type 0
  AreWanted n = (j : ℕ) → j ≤ n → IsWanted m.size steps goal j

  -- the number of a step's end is at least one less
  step_falls : (p q : Pos) (n : ℕ) (xs : List Pos) → AreWanted (n + 1) → OpenStep m IsOpen p q → Leads (OpenStep m IsOpen) q xs start → length xs ≡ n
      → steps_at m.size steps p ≡ Some (n + 1) → steps_at m.size steps q ≡ Some n
  step_falls p q n xs want s l e noted =
      let r = are.least q xs l (want (length xs) (omega (arith, e))) in
      let w = are.reached q s.neighbour.to.in_grid r.0 r.2 in
      let low' = r.1 in
      let long' = w.2 in
      let back = are.least p (q ∷ w.0) (s, w.1) (want (length (q ∷ w.0)) (omega (arith, low', long', e))) in
      let same : n + 1 ≡ back.0 = Some-unique (steps_at m.size steps p) (n + 1) back.0 noted back.2 in
      let low = r.1 in
      let high = back.1 in
      let long = w.2 in
      let is : r.0 ≡ n = omega (arith, low, high, long, same, e) in
      r.2 ∙ ap Some is

  next_nearer : (p : Pos) (n : ℕ) (xs : List Pos) → AreWanted (n + 1) → steps_at m.size steps p ≡ Some (n + 1) → Leads (OpenStep m IsOpen) p xs start → length xs ≡ n + 1
      → (q : Pos) × IsNearer m steps n p q
  next_nearer p n [] want noted l e = absurd (omega (arith, e))
  next_nearer p n (q ∷ xs) want noted l e = (q, record { neighbour = l.0.neighbour; noted = step_falls p q n xs want l.0 l.1 (omega (arith, e)) noted })

  -- a point with steps left has a neighbour with one less
  pub IsNearer-exists : (p : Pos) (n : ℕ) → AreWanted (n + 1) → Present m p → steps_at m.size steps p ≡ Some (n + 1) → (q : Pos) × IsNearer m steps n p q
  IsNearer-exists p n want here noted = let w = are.reached p here.in_grid (n + 1) noted in next_nearer p n w.0 want noted w.1 w.2

  walk_open : (p : Pos) (xs : List Pos) → IsOpen start → Leads (OpenStep m IsOpen) p xs start → IsOpen p
  walk_open p [] is_open l = subst (IsOpen) (sym l) is_open
  walk_open p (x ∷ xs) is_open l = l.0.from

  -- what has steps is open
  noted_open : (p : Pos) (n : ℕ) → IsOpen start → InGrid m.size p → steps_at m.size steps p ≡ Some n → IsOpen p
  noted_open p n is_open there noted = let w = are.reached p there n noted in walk_open p w.0 is_open w.1

  walk_none : (p : Pos) (xs : List Pos) → Leads (OpenStep m IsOpen) p xs start → length xs ≡ 0 → p ≡ start
  walk_none p [] l e = l
  walk_none p (x ∷ xs) l e = absurd (omega (arith, e))

  -- what has no steps left is the start
  noted_zero : (p : Pos) → InGrid m.size p → steps_at m.size steps p ≡ Some 0 → p ≡ start
  noted_zero p there noted = let w = are.reached p there 0 noted in walk_none p w.0 w.1 w.2

  -- each point is the first nearer to the one before
  abbrev Takes : Pos → List Pos → Type 0
  Takes x [] = Unit {0}
  Takes x (y ∷ ys) = IsFirst m (IsNearer m steps (length ys) x) y × Takes y ys

  takes_of : (x : Pos) (xs : List Pos) → ((k : ℕ) → k < length xs → IsFirst m (IsNearer m steps (length xs - (k + 1)) (point_of (x ∷ xs) k)) (point_of (x ∷ xs) (k + 1))) → Takes x xs
  takes_of x [] h = tt
  takes_of x (y ∷ ys) h =
      let head : length (y ∷ ys) - 1 ≡ length ys = omega arith in (
        subst (λ (n : ℕ). IsFirst m (IsNearer m steps n x) y) head (h 0 (omega arith)),
        takes_of y ys (λ k inside.
            (let e : suc k + 1 ≡ suc (k + 1) = omega arith in
            let f : length (y ∷ ys) - suc (k + 1) ≡ length ys - (k + 1) = omega arith in
            subst (λ (n : ℕ). IsFirst m (IsNearer m steps n (point_of (y ∷ ys) k)) (point_of (y ∷ ys) (k + 1))) f
            (subst (λ (j : ℕ). IsFirst m (IsNearer m steps (length (y ∷ ys) - j) (point_of (y ∷ ys) k)) (point_of (x ∷ y ∷ ys) j)) e (h (suc k) (omega (arith, inside)))))),
      )

  -- no path with as few steps comes before it
  not_after : (x : Pos) (xs ys : List Pos) → AreWanted (length xs) → Takes x xs → steps_at m.size steps x ≡ Some (length xs) → Leads (OpenStep m IsOpen) x ys start → length ys ≡ length xs
      → IsNotAfter (map (place_of m.size) xs) (map (place_of m.size) ys)
  not_after x [] ys want h noted l e = tt
  not_after x (y ∷ xs) [] want h noted l e = absurd (omega (arith, e))
  not_after x (y ∷ xs) (z ∷ ys) want h noted l e =
      let long : length ys ≡ length xs = omega (arith, e) in
      let count : length (y ∷ xs) ≡ length xs + 1 = omega arith in
      let z_noted = step_falls x z (length xs) ys (λ j le. want j (omega (arith, le, count))) l.0 l.1 long (noted ∙ ap Some count) in
      let le = h.0.first z (record { neighbour = l.0.neighbour; noted = z_noted }) in
      elim (cases_lt (place_of m.size y) (place_of m.size z)) [
        | inl less ↦ inl less
        | inr not_less ↦
            let same : place_of m.size y ≡ place_of m.size z = omega (arith, le) in
            let is : z ≡ y = same_place m.size z y l.0.neighbour.to.in_grid h.0.kind.neighbour.to.in_grid (sym same) in
            inr (same, not_after y xs ys (λ j le. want j (omega (arith, le, count))) h.1 h.0.kind.noted (subst (λ (p : Pos). Leads (OpenStep m IsOpen) p ys start) is l.1) long)
      ]

-- no listed rank is above
pub NoneAbove-at : (m : Map) (side : SideName) (t : Rank) (ps : List Pos) → NoneAbove (below_by side) t (map (rank m) ps) → (k : ℕ) → k < length ps
    → IsNotAbove (below_by side) (rank m (point_of ps k)) t
NoneAbove-at m side t ps n k inside =
    let first : Pos = record { x = 0; y = 0 } in
    let read : get_or (map (rank m) ps) k (rank m first) ≡ rank m (point_of ps k) = get_or-map (rank m) ps k first (rank m first) inside in
    subst (λ (r : Rank). IsNotAbove (below_by side) r t) read (n k (rank m first) (rw (length-map ps (rank m)) inside))

module _ (m : Map) (side : SideName) (s : Rank) where
  -- open are the points not above the saddle
  abbrev pub NotAbove : Pos → Type 0
  NotAbove = LiesWithin m side (Some s) false

  open_of : (p : Pos) → Present m p → IsNotAbove (below_by side) (rank m p) s → NotAbove p
  open_of p here low = record { present = here; low = ap not low }

  low_of : (p : Pos) → NotAbove p → IsNotAbove (below_by side) (rank m p) s
  low_of p is_open = not-true (below_by side s (rank m p)) is_open.low

  -- a path of ranks none of which is above the saddle is a path of open points
  pub OpenStep-path : (a : Pos) (xs : List Rank) (b : Pos) → Present m a → Present m b → Leads (Near m) (rank m a) xs (rank m b) → NoneAbove (below_by side) s (rank m a ∷ xs)
      → (ps : List Pos) × Leads (OpenStep m NotAbove) a ps b × NotAbove b
  OpenStep-path a [] b here there l n = let e : a ≡ b = same_point m a b here there l in ([], e, subst (NotAbove) e (open_of a here (All-head (λ r. IsNotAbove (below_by side) r s) (rank m a) [] n)))
  OpenStep-path a (x ∷ xs) b here there l n =
      let P : Rank → Type 0 = λ r. IsNotAbove (below_by side) r s in
      let near = l.0 in
      let same : near.from ≡ a = same_point m near.from a near.neighbour.from here (sym near.from_rank) in
      let low = subst (λ (r : Rank). NoneAbove (below_by side) s (r ∷ xs)) near.to_rank (All-tail P (rank m a) (x ∷ xs) n) in
      let rest = OpenStep-path near.to xs b near.neighbour.to there (subst (λ (r : Rank). Leads (Near m) r xs (rank m b)) near.to_rank l.1) low in
      let step : OpenStep m NotAbove a near.to = record {
        neighbour = subst (λ (p : Pos). Neighbour m p near.to) same near.neighbour;
        from = open_of a here (All-head P (rank m a) (x ∷ xs) n);
        to = open_of near.to near.neighbour.to (All-head P (rank m near.to) xs low);
      } in
      (near.to ∷ rest.0, (step, rest.1), rest.2)

  -- the other paths over the saddle are paths of open points
  other_path : (a b : Pos) (path : List Pos) → IsRouteOver m side a b s path → (ps : List Pos) × (path ≡ a ∷ ps) × Leads (OpenStep m NotAbove) a ps b
  other_path a b [] over = let some = over.some in absurd (omega (arith, some))
  other_path a b (p ∷ ps) over =
      let none = over.top.none_above in
      let step : (k : ℕ) → k < length (p ∷ ps) - 1 → OpenStep m NotAbove (point_of (p ∷ ps) k) (point_of (p ∷ ps) (k + 1)) = λ k inside.
      (let near = over.steps k inside in record {
        neighbour = near;
        from = open_of (point_of (p ∷ ps) k) near.from (NoneAbove-at m side s (p ∷ ps) none k (omega (arith, inside)));
        to = open_of (point_of (p ∷ ps) (k + 1)) near.to (NoneAbove-at m side s (p ∷ ps) none (k + 1) (omega (arith, inside)));
      }) in
      let leads = Leads-steps (OpenStep m NotAbove) p ps step in
      (ps, ap (λ (q : Pos). q ∷ ps) over.begins, subst (λ (q : Pos). Leads (OpenStep m NotAbove) q ps b) over.begins (subst (λ (q : Pos). Leads (OpenStep m NotAbove) p ps q) over.ends leads))

  -- a path between two points none of whose points is above their saddle has it as its top
  top_is : (a b : Pos) (ps : List Pos) → Present m a → IsSaddle m side (rank m a) (rank m b) s → Leads (Near m) (rank m a) (map (rank m) ps) (rank m b)
      → NoneAbove (below_by side) s (rank m a ∷ map (rank m) ps) → IsTop (below_by side) s (rank m a ∷ map (rank m) ps)
  top_is a b ps here saddle l n =
      let laws = below_by-order side in
      let u = top_of (below_by side) laws (rank m a) (map (rank m) ps) in
      let low = top-not_above (below_by side) laws u.0 s (rank m a ∷ map (rank m) ps) u.1 n in
      let high = saddle.least (map (rank m) ps) u.0 (record { point = point_at m a here; leads = l }) u.1 in
      subst (λ (t : Rank). IsTop (below_by side) t (rank m a ∷ map (rank m) ps)) (laws.total u.0 s high low) u.1

module _ (m : Map) (side : SideName) (s : Rank) (a b : Pos) (steps : List (Option ℕ)) (are : AreSteps m (NotAbove m side s) b (Some a) steps)
    (here : Present m a) (there : Present m b) (saddle : IsSaddle m side (rank m a) (rank m b) s) where
  -- the first point has steps
  pub steps_at-begin : (n : ℕ) × (steps_at m.size steps a ≡ Some n)
  steps_at-begin =
      let r = saddle.reached in
      let w = OpenStep-path m side s a r.0 b here there r.1.leads r.2.none_above in
      elim (Option-some_or_none (steps_at m.size steps a)) [
        | inl noted ↦ noted
        | inr free ↦ (let l = are.least a w.0 w.1 (λ k e. absurd (let both : None ≡ Some k = sym free ∙ e in cc)) in (l.0, l.2))
      ]

  -- its steps lead down to the second
  pub LeadsDown-goes_nearer : (residues : List Residue) (count : ℕ) → ((p : Pos) → InGrid m.size p → residue_at m.size residues p ≡ residue_of (steps_at m.size steps p))
      → steps_at m.size steps a ≡ Some count → LeadsDown m residues a b steps count
  LeadsDown-goes_nearer residues count read noted = record {
    read = read;
    noted = noted;
    few = are.few a here.in_grid count noted;
    begun = (let r = are.least b [] refl (λ k e. omega arith) in let none = r.1 in let zero' : r.0 ≡ 0 = omega (arith, none) in r.2 ∙ ap Some zero');
    ends = noted_zero m (NotAbove m side s) b (Some a) steps are;
    close = are.close;
    falls = λ p n less there' noted'. IsNearer-exists m (NotAbove m side s) b (Some a) steps are p n
        (λ j le k e. (let same = Some-unique (steps_at m.size steps a) count k noted e in omega (arith, le, less, same))) there' noted';
  }

  module _ (path : List Pos) (count : ℕ) (noted : steps_at m.size steps a ≡ Some count) (goes : GoesNearer m steps a count path count) where
    is_open_end : NotAbove m side s b
    is_open_end = (let r = saddle.reached in (OpenStep-path m side s a r.0 b here there r.1.leads r.2.none_above).2)

    goes_noted : (k : ℕ) → k ≤ count → Present m (point_of path k) × (steps_at m.size steps (point_of path k) ≡ Some (count - k))
    goes_noted zero h = (subst (Present m) (sym goes.begins) here, ap (steps_at m.size steps) goes.begins ∙ noted ∙ ap Some (let e : count ≡ count - zero = omega arith in e))
    goes_noted (suc j) h =
        let e : j + 1 ≡ suc j = omega arith in
        let f = goes.nearer j (omega (arith, h)) in
        subst (λ (k : ℕ). Present m (point_of path k) × (steps_at m.size steps (point_of path k) ≡ Some (count - k))) e (f.kind.neighbour.to, f.kind.noted)

    goes_low : (k : ℕ) → k < length path → IsNotAbove (below_by side) (rank m (point_of path k)) s
    goes_low k inside =
        let long = goes.long in
        let n = goes_noted k (omega (arith, inside, long)) in
        low_of m side s (point_of path k) (noted_open m (NotAbove m side s) b (Some a) steps are (point_of path k) (count - k) is_open_end n.0.in_grid n.1)

    goes_ends : point_of path (length path - 1) ≡ b
    goes_ends =
        let long = goes.long in
        let e : count ≡ length path - 1 = omega (arith, long) in
        let n = goes_noted count (omega arith) in
        let zero' : count - count ≡ 0 = omega arith in
        let last : point_of path count ≡ b = noted_zero m (NotAbove m side s) b (Some a) steps are (point_of path count) n.0.in_grid (n.1 ∙ ap Some zero') in
        ap (point_of path) (sym e) ∙ last

    goes_steps : (k : ℕ) → k < length path - 1 → Neighbour m (point_of path k) (point_of path (k + 1))
    goes_steps k inside = let long = goes.long in (goes.nearer k (omega (arith, inside, long))).kind.neighbour

  goes_top : (path : List Pos) (count : ℕ) → steps_at m.size steps a ≡ Some count → GoesNearer m steps a count path count → IsTop (below_by side) s (map (rank m) path)
  goes_top [] count noted goes = let long = goes.long in absurd (omega (arith, long))
  goes_top (p ∷ ps) count noted goes =
      let begins : rank m p ≡ rank m a = ap (rank m) goes.begins in
      let none = NoneAbove-listed m side s (p ∷ ps) (goes_low (p ∷ ps) count noted goes) in
      let leads = Leads-path m p ps (goes_steps (p ∷ ps) count noted goes) in
      let leads' : Leads (Near m) (rank m a) (map (rank m) ps) (rank m b) =
      subst (λ (x : Rank). Leads (Near m) x (map (rank m) ps) (rank m b)) begins
      (subst (λ (y : Rank). Leads (Near m) (rank m p) (map (rank m) ps) y) (ap (rank m) (goes_ends (p ∷ ps) count noted goes)) leads) in
      let none' = subst (λ (x : Rank). NoneAbove (below_by side) s (x ∷ map (rank m) ps)) begins none in
      subst (λ (x : Rank). IsTop (below_by side) s (x ∷ map (rank m) ps)) (sym begins) (top_is m side s a b ps here saddle leads' none')

  goes_first : (path : List Pos) (count : ℕ) → steps_at m.size steps a ≡ Some count → GoesNearer m steps a count path count → (other : List Pos) → IsRouteOver m side a b s other
      → length other ≡ length path → IsNotAfter (map (place_of m.size) path) (map (place_of m.size) other)
  goes_first [] count noted goes other over e = tt
  goes_first (p ∷ ps) count noted goes other over e =
      let w = other_path m side s a b other over in
      let begins : p ≡ a = goes.begins in
      let long : length (p ∷ ps) ≡ count + 1 = goes.long in
      let short : length ps ≡ count = omega (arith, long) in
      let same : length (a ∷ w.0) ≡ length (p ∷ ps) = ap length (sym w.1) ∙ e in
      let same' : length w.0 ≡ length ps = omega (arith, same) in
      let takes : Takes m (NotAbove m side s) b (Some a) steps are p ps = takes_of m (NotAbove m side s) b (Some a) steps are p ps
      (λ k inside. subst (λ (n : ℕ). IsFirst m (IsNearer m steps (n - (k + 1)) (point_of (p ∷ ps) k)) (point_of (p ∷ ps) (k + 1))) (sym short)
      (goes.nearer k (omega (arith, inside, short)))) in
      let noted' : steps_at m.size steps p ≡ Some (length ps) = ap (steps_at m.size steps) begins ∙ noted ∙ ap Some (sym short) in
      let leads : Leads (OpenStep m (NotAbove m side s)) p w.0 b = subst (λ (q : Pos). Leads (OpenStep m (NotAbove m side s)) q w.0 b) (sym begins) w.2 in
      let first = not_after m (NotAbove m side s) b (Some a) steps are p ps w.0 (λ j le k e.
      (let eq = Some-unique (steps_at m.size steps a) count k noted e in omega (arith, le, eq, short))) takes noted' leads same' in
      subst (λ (qs : List Pos). IsNotAfter (map (place_of m.size) (p ∷ ps)) (map (place_of m.size) qs)) (sym w.1) (inr (ap (place_of m.size) begins, first))

  pub IsShownRoute-path : (path : List Pos) (count : ℕ) → steps_at m.size steps a ≡ Some count → GoesNearer m steps a count path count → IsShownRoute m side a b s path
  IsShownRoute-path path count noted goes =
      let long = goes.long in
      record {
        over = record {
          some = omega (arith, long);
          begins = goes.begins;
          ends = goes_ends path count noted goes;
          steps = goes_steps path count noted goes;
          top = goes_top path count noted goes;
        };
        fewest = λ other over.
            (let w = other_path m side s a b other over in
            let is : length other ≡ length (a ∷ w.0) = ap length w.1 in
            elim (cases_lt count (length w.0)) [
              | inl less ↦ omega (arith, long, less, is)
              | inr more ↦
                  let r = are.least a w.0 w.2 (λ k e. (let eq = Some-unique (steps_at m.size steps a) count k noted e in omega (arith, more, eq))) in
                  let same : count ≡ r.0 = Some-unique (steps_at m.size steps a) count r.0 noted r.2 in
                  let le = r.1 in
                  omega (arith, long, same, le, is)
            ]);
        first = goes_first path count noted goes;
      }

-- a pit is below each saddle to another point
pub below_by-pit : (m : Map) (side : SideName) (a b : Pos) (s : Rank) → Present m a → Present m b → IsPit m side (rank m a) → (a ≡ b → ⊥) → IsSaddle m side (rank m a) (rank m b) s
    → below_by side (rank m a) s ≡ true
below_by-pit m side a b s here there pit apart saddle = saddle-above_pit m side (rank m a) (rank m b) s pit (λ e. apart (same_point m a b here there e)) saddle

-- the first of two joined pits lies within the level of its cut
pub LiesWithin-pit : (m : Map) (side : SideName) (a b : Pos) (saddle : Option Rank) → Present m a → Present m b → IsPit m side (rank m a) → (a ≡ b → ⊥) → SaddleIs m side (rank m a) (rank m b) saddle
    → LiesWithin m side saddle true a
LiesWithin-pit m side a b (Some s) here there pit apart is = record { present = here; low = below_by-pit m side a b s here there pit apart is }
LiesWithin-pit m side a b None here there pit apart is = record { present = here; low = refl }

-- the points that are reached are those that are joined below the saddle
pub IsRouteCut-shown : (m : Map) (side : SideName) (saddle : Option Rank) (a : Pos) (residues : List Residue) (cut : List Pos) → AreResidues m (LiesWithin m side saddle true) a None residues
    → AreListed m.size (IsReached m.size residues) (cell_count m.size) cut → LiesWithin m side saddle true a → IsRouteCut m side saddle a cut
IsRouteCut-shown m side saddle a residues cut known listed low = record {
  rises = listed.rises;
  low = low;
  all = λ p. (
    λ c.
        (let f = Contains-place cut p c in
        let inside : InGrid m.size p = subst (InGrid m.size) f.2 (listed.inside f.0 f.1) in
        let reached : IsReached m.size residues p = subst (IsReached m.size residues) f.2 (listed.chosen f.0 f.1) in
        let n = residue_of-noted (steps_at m.size known.steps p) (λ none. reached (known.read p inside ∙ none)) in
        IsReachedLow-steps m side saddle a known.steps known.are p inside n.0 n.1),
    λ w.
        (let there = (IsLow-end m side saddle a w.0 p low w.1).present in
        let n = steps_at-low m side saddle a known.steps known.are p w in
        let is : residue_at m.size residues p ≡ residue_of (Some n.0) = known.read p there.in_grid ∙ ap residue_of n.1 in
        listed.all p there.in_grid (place_inside m.size p there.in_grid) (λ none. residue_of_steps-reached n.0 (sym is ∙ none))),
  );
}

-- the position of the index of a point is that point
pub rank-written : (m : Map) (s : Rank) (p : Pos) → IsPoint m s → InGrid m.size p → place_of m.size p ≡ s.index → Present m p × (rank m p ≡ s)
rank-written m s p point there is =
    let e : point.at ≡ p = same_place m.size point.at p point.present.in_grid there (sym (is ∙ ap (λ (r : Rank). r.index) point.rank_is)) in
    (subst (Present m) e point.present, ap (rank m) (sym e) ∙ sym point.rank_is)
