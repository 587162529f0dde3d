-- A flood, entry by entry.
use Rattle.std.proofs.Common.{◌≡◌, ◌<◌, ◌≤◌, ◌+◌, ◌*◌, ◌%◌, ◌/◌, ℕ, zero, suc, List, [], ◌∷◌, ◌++◌, length, get_or, set, replicate, Option, Some, None, ◌⊎◌, inl, inr, ap, ◌∙◌, refl, sym, subst, arith}
use Rattle.std.proofs.Math.ListN.{length-set}
use Rattle.std.proofs.lemmas.List.{get_or-set_same, get_or-set_other, get_or_append_left, get_or_push, length_push, length-append, append_assoc}
use Rattle.std.proofs.lemmas.List.{get_or-replicate, length-replicate, length-map, get_or-map, map-append}
use Rattle.std.proofs.lemmas.List.Sums.{sum_by-set}
use Rattle.std.proofs.lemmas.List.Folds.{sum_by-replicate}
use Rattle.std.proofs.lemmas.Bool.{cases_lt, cases_eq}
use Rattle.hd_map.specs.declared.types.Pos.{Pos}
use Rattle.hd_map.specs.declared.types.Size.{Size}
use Rattle.hd_map.specs.Map.{Map, InGrid, Present, place_of, cell_count}
use Rattle.hd_map.specs.Neighbour.{Neighbour, AreBesideUnder}
use Rattle.hd_map.specs.Path.{Leads}
use Rattle.hd_map.proofs.Gather.{same_pos}
use Rattle.hd_map.proofs.Points.{neighbour-sym, same_place, place_inside}
use Rattle.hd_reach.specs.Marks.{AreMarked, Marking, mark_at, mark_in, marked}
use Rattle.hd_reach.specs.Steps.{IsWanted, OpenStep, steps_at, AreSteps}
use Rattle.hd_reach.specs.Flood.{Reached, no_entry, entry_of, is_free, HasStepsWithin, IsEntry, IsFlood, IsFlooding, IsMarking, IsAtHead, Reaches, ReachesAt}

-- where one thing stands everywhere it is read everywhere
pub replicate-all : {V : Type 0} (x : V) (n k : ℕ) → get_or (replicate n x) k x ≡ x
replicate-all x zero k = refl
replicate-all x (suc n) zero = refl
replicate-all x (suc n) (suc k) = replicate-all x n k

-- a number is noted, or none
pub Option-some_or_none : (o : Option ℕ) → ((n : ℕ) × (o ≡ Some n)) ⊎ (o ≡ None)
Option-some_or_none (Some n) = inl (n, refl)
Option-some_or_none None = inr refl

-- a step from a neighbour
pub OpenStep-turned : (m : Map) (IsOpen : Pos → Type 0) (p q : Pos) → OpenStep m IsOpen p q → OpenStep m IsOpen q p
OpenStep-turned m IsOpen p q s = record { neighbour = neighbour-sym m p q s.neighbour; from = s.to; to = s.from }

-- the point behind those that are passed is at the head
pub IsAtHead-behind : (s : Size) (here : Pos) (passed left : List ℕ) → InGrid s here → IsAtHead s ((passed ++ place_of s here ∷ []) ++ left) (length passed) here
IsAtHead-behind s here passed left in_grid =
    let front : List ℕ = passed ++ place_of s here ∷ [] in
    let within : length passed < length front = (let longer = length_push passed (place_of s here) in omega (arith, longer)) in
    record {
      inside = (let more = length-append front left in omega (arith, within, more));
      in_grid = in_grid;
      place = get_or_append_left front left 0 (length passed) within ∙ get_or_push passed (place_of s here) 0 (length passed) refl;
    }

-- what is reached behind those that are passed is reached in the whole queue
pub ReachesAt-behind : {V : Type 0} (m : Map) (IsOpen : Pos → Type 0) (blank : V) (at : Pos) (x y : ℕ) (mark : V) (marks marks' : List V) (front places places' : List ℕ)
    → ReachesAt m IsOpen blank at x y mark marks places marks' places' → ReachesAt m IsOpen blank at x y mark marks (front ++ places) marks' (front ++ places')
ReachesAt-behind m IsOpen blank at x y mark marks marks' front places places' reaches = elim reaches [
  | inl some ↦ inl (
    some.0,
    some.1,
    some.2,
    some.3,
    some.4,
    elim some.5 [
      | inl left ↦ inl (left.0, left.1, ap (λ xs. front ++ xs) left.2)
      | inr noted ↦ inr (noted.0, noted.1, noted.2, ap (λ xs. front ++ xs) noted.3 ∙ sym (append_assoc front places (place_of m.size some.0 ∷ [])))
    ],
  )
  | inr none ↦ inr (none.0, none.1, ap (λ xs. front ++ xs) none.2)
]

module _ (m : Map) (IsOpen : Pos → Type 0) (start : Pos) where
  -- a point is noted
  noted_more : (steps : List (Option ℕ)) (at p : Pos) (n k : ℕ) → length steps ≡ cell_count m.size → InGrid m.size at → InGrid m.size p → steps_at m.size steps at ≡ None
      → steps_at m.size steps p ≡ Some k → steps_at m.size (set steps (place_of m.size at) (Some n)) p ≡ Some k
  noted_more steps at p n k whole here there free noted = elim (cases_eq (place_of m.size p) (place_of m.size at)) [
    | inl same ↦ absurd (let e : Some k ≡ None = sym noted ∙ ap (λ i. get_or steps i None) same ∙ free in cc)
    | inr other ↦ get_or-set_other steps (place_of m.size at) (place_of m.size p) (Some n) None other ∙ noted
  ]

  -- what is noted after that was noted before, or is the point itself
  noted_cases : (steps : List (Option ℕ)) (at p : Pos) (n k : ℕ) → length steps ≡ cell_count m.size → InGrid m.size at → InGrid m.size p
      → steps_at m.size (set steps (place_of m.size at) (Some n)) p ≡ Some k → (steps_at m.size steps p ≡ Some k) ⊎ ((at ≡ p) × (n ≡ k))
  noted_cases steps at p n k whole here there noted = elim (cases_eq (place_of m.size p) (place_of m.size at)) [
    | inl same ↦
        let inside : place_of m.size at < length steps = rw whole (place_inside m.size at here) in
        let e : Some n ≡ Some k = sym (get_or-set_same steps (place_of m.size at) (Some n) None inside) ∙ ap (λ i. get_or (set steps (place_of m.size at) (Some n)) i None) (sym same) ∙ noted in
        inr (same_place m.size at p here there (sym same), (let e' : n ≡ k = cc in e'))
    | inr other ↦ inl (sym (get_or-set_other steps (place_of m.size at) (place_of m.size p) (Some n) None other) ∙ noted)
  ]

  -- an open neighbour of the entry at the head is queued
  flood_push : (steps : List (Option ℕ)) (queue : List Reached) (head : ℕ) (at : Pos) (n : ℕ) → IsFlood m IsOpen start steps queue head → head < length queue
      → Neighbour m (entry_of queue head).at at → (entry_of queue head).steps + 1 ≡ n → IsOpen at → steps_at m.size steps at ≡ None
      → IsFlood m IsOpen start (set steps (place_of m.size at) (Some n)) (queue ++ record { at = at; steps = n } ∷ []) head
  flood_push steps queue head at n f begun near count is_open free =
      let steps' = set steps (place_of m.size at) (Some n) in
      let e : Reached = record { at = at; steps = n } in
      let queue' = queue ++ e ∷ [] in
      let inside : place_of m.size at < length steps = rw f.whole (place_inside m.size at near.to.in_grid) in
      let here : steps_at m.size steps' at ≡ Some n = get_or-set_same steps (place_of m.size at) (Some n) None inside in
      let longer : length queue' ≡ length queue + 1 = length_push queue e in
      let old : (k : ℕ) → k < length queue → entry_of queue' k ≡ entry_of queue k = λ k h. get_or_append_left queue (e ∷ []) no_entry k h in
      let new : (k : ℕ) → length queue ≡ k → entry_of queue' k ≡ e = λ k h. get_or_push queue e no_entry k h in
      let first = f.entries head begun in
      let more : (p : Pos) (k : ℕ) → InGrid m.size p → steps_at m.size steps p ≡ Some k → steps_at m.size steps' p ≡ Some k = λ p k there noted.
      noted_more steps at p n k f.whole near.to.in_grid there free noted in
      let step : OpenStep m IsOpen at (entry_of queue head).at = OpenStep-turned m IsOpen (entry_of queue head).at at (record { neighbour = near; from = first.is_open; to = is_open }) in
      record {
        whole = length-set steps (place_of m.size at) (Some n) ∙ f.whole;
        start_inside = f.start_inside;
        begun = more start 0 f.start_inside f.begun;
        room = (let sum = sum_by-set is_free steps (place_of m.size at) (Some n) None inside in let free' : is_free (get_or steps (place_of m.size at) None)
            ≡ 1 = ap is_free free in omega (arith, sum, free', longer, f.room));
        entries = λ k h. elim (cases_lt k (length queue)) [
          | inl less ↦
              let was = f.entries k less in
              rw (old k less) (record {
                present = was.present;
                is_open = was.is_open;
                noted = more (entry_of queue k).at (entry_of queue k).steps was.present.in_grid was.noted;
                few = was.few;
                walk = was.walk;
              })
          | inr last ↦
              let is : length queue ≡ k = omega (arith, longer) in
              let few = first.few in
              rw (new k is) (record {
                present = near.to;
                is_open = is_open;
                noted = here;
                few = omega (arith, few, begun, count);
                walk = ((entry_of queue head).at ∷ first.walk.0, (step, first.walk.1), (let l = first.walk.2 in omega (arith, l, count)));
              })
        ];
        queued = λ p there k noted. elim (noted_cases steps at p n k f.whole near.to.in_grid there noted) [
          | inl was ↦
              let h = f.queued p there k was in
              let h' = h.inside in
              record {
                place = h.place;
                inside = omega (arith, longer, h');
                at_is = ap (λ (r : Reached). r.at) (old h.place h')
                    ∙ h.at_is;
                steps_is = ap (λ (r : Reached). r.steps) (old h.place h') ∙ h.steps_is;
              }
          | inr is ↦ record {
            place = length queue;
            inside = omega (arith, longer);
            at_is = ap (λ (r : Reached). r.at) (new (length queue) refl) ∙ is.0;
            steps_is = ap (λ (r : Reached). r.steps) (new (length queue) refl) ∙ is.1;
          }
        ];
        rising = λ i j le h. elim (cases_lt j (length queue)) [
          | inl less ↦ rw (old i (omega arith), old j less) (f.rising i j le less)
          | inr last ↦
              let is : length queue ≡ j = omega (arith, longer) in
              elim (cases_lt i (length queue)) [
                | inl less ↦ let near' = f.narrow i less begun in rw (new j is, old i less) (omega (arith, near', count))
                | inr last' ↦ let is' : length queue ≡ i = omega (arith, longer) in rw (new j is, new i is') (omega arith)
              ]
        ];
        narrow = λ k h h'. elim (cases_lt k (length queue)) [
          | inl less ↦ rw (old k less, old head begun) (f.narrow k less begun)
          | inr last ↦ let is : length queue ≡ k = omega (arith, longer) in rw (new k is, old head begun) (omega (arith, count))
        ];
        closed = λ k before h q s. (let less : k < length queue = omega (arith, before, begun) in
            let s' : OpenStep m IsOpen (entry_of queue k).at q = subst (λ (r : Reached). OpenStep m IsOpen r.at q) (old k less) s in
            let w = f.closed k before less q s' in
            rw (old k less) (w.0, w.1, more q w.0 s.neighbour.to.in_grid w.2));
      }

  -- a mark and its steps are noted
  read_more : {V : Type 0} (how : Marking V) (marks : List V) (steps : List (Option ℕ)) (at : Pos) (n : ℕ) → length marks ≡ cell_count m.size → length steps ≡ cell_count m.size → InGrid m.size at
      → ((p : Pos) → InGrid m.size p → mark_at how.blank m.size marks p ≡ marked how (mark_at how.blank m.size how.before p) (steps_at m.size steps p)) → (p : Pos) → InGrid m.size p
      → mark_at how.blank m.size (set marks (place_of m.size at) (mark_in how n)) p ≡ marked how (mark_at how.blank m.size how.before p) (steps_at m.size (set steps (place_of m.size at) (Some n)) p)
  read_more how marks steps at n whole whole' here read p there =
      let i = place_of m.size at in
      let j = place_of m.size p in
      let old = mark_at how.blank m.size how.before p in
      elim (cases_eq j i) [
        | inl same ↦
            let inside : i < length marks = rw whole (place_inside m.size at here) in
            let inside' : i < length steps = rw whole' (place_inside m.size at here) in
            let now : get_or (set marks i (mark_in how n)) j how.blank ≡ mark_in how n = ap (λ l. get_or (set marks i (mark_in how n)) l how.blank) same
            ∙ get_or-set_same marks i (mark_in how n) how.blank inside in
            let noted : get_or (set steps i (Some n)) j None ≡ Some n = ap (λ l. get_or (set steps i (Some n)) l None) same ∙ get_or-set_same steps i (Some n) None inside' in
            now ∙ sym (ap (marked how old) noted)
        | inr other ↦ get_or-set_other marks i j (mark_in how n) how.blank other ∙ read p there ∙ ap (marked how old) (sym (get_or-set_other steps i j (Some n) None other))
      ]

  -- the number of a position among the nine round another comes before this step
  abbrev pub IsBefore : Pos → ℕ → Pos → Type 0
  IsBefore at step q = 3 * q.y + q.x + 4 < 3 * at.y + at.x + step

  -- the position of this step of the nine round another
  abbrev pub IsAtStep : Pos → ℕ → Pos → Type 0
  IsAtStep at step q = (q.x + 1 ≡ at.x + step % 3) × (q.y + 1 ≡ at.y + step / 3)

  -- a neighbour that is not before a step, and before the next, is at the step
  at_step : (at q : Pos) (step : ℕ) → step < 9 → Neighbour m at q → IsBefore at (step + 1) q → (IsBefore at step q → ⊥) → IsAtStep at step q
  at_step at q step below n before not_before = by_number n.columns.0 n.columns.1 n.rows.0 n.rows.1 (number (cases_lt (3 * q.y + q.x + 4) (3 * at.y + at.x + step)))
    where
      number : (3 * q.y + q.x + 4 < 3 * at.y + at.x + step) ⊎ (3 * at.y + at.x + step ≤ 3 * q.y + q.x + 4) → 3 * q.y + q.x + 4 ≡ 3 * at.y + at.x + step
      number c = elim c [ inl less ↦ absurd (not_before less) | inr more ↦ omega (arith, before, more) ]

      by_number : at.x ≤ q.x + 1 → q.x ≤ at.x + 1 → at.y ≤ q.y + 1 → q.y ≤ at.y + 1 → 3 * q.y + q.x + 4 ≡ 3 * at.y + at.x + step → IsAtStep at step q
      by_number x x' y y' e = (omega (arith, x, x', y, y', e, below), omega (arith, x, x', y, y', e, below))

  -- an open position round the head that is not noted is its neighbour
  beside_head : ((p : Pos) → IsOpen p → Present m p) → (steps : List (Option ℕ)) (queue : List Reached) (head : ℕ) (q : Pos) (step : ℕ) → step < 9
      → IsFlood m IsOpen start steps queue head → head < length queue
      → IsAtStep (entry_of queue head).at step q → AreBesideUnder m.adjacency (entry_of queue head).at q → IsOpen q → steps_at m.size steps q ≡ None → Neighbour m (entry_of queue head).at q
  beside_head open_present steps queue head q step below f begun at beside is_open free =
      let e = f.entries head begun in
      let noted = e.noted in
      let x = at.0 in
      let y = at.1 in
      record {
        from = e.present;
        to = open_present q is_open;
        columns = (omega (arith, x, below), omega (arith, x, below));
        rows = (omega (arith, y, below), omega (arith, y, below));
        different = λ same. (let both : Some (entry_of queue head).steps ≡ None = sym noted ∙ ap (steps_at m.size steps) same ∙ free in cc);
        beside = beside;
      }

  -- what holds of 0 holds of each number below 1
  only : (P : ℕ → Type 0) → P 0 → (k : ℕ) → k < 1 → P k
  only P h k below = let e : 0 ≡ k = omega (arith, below) in subst P e h

  -- the start alone
  flood_begin : Present m start → IsOpen start
      → IsFlood m IsOpen start (set (replicate (cell_count m.size) None) (place_of m.size start) (Some 0)) (record { at = start; steps = 0 } ∷ []) 0
  flood_begin present is_open =
      let blank : List (Option ℕ) = replicate (cell_count m.size) None in
      let length_is : length blank ≡ cell_count m.size = length-replicate (cell_count m.size) None in
      let inside : place_of m.size start < length blank = rw length_is (place_inside m.size start present.in_grid) in
      let here : get_or (set blank (place_of m.size start) (Some 0)) (place_of m.size start) None ≡ Some 0 = get_or-set_same blank (place_of m.size start) (Some 0) None inside in
      let unnoted : get_or blank (place_of m.size start) None ≡ None = get_or-replicate (cell_count m.size) (place_of m.size start) None None (place_inside m.size start present.in_grid) in
      let steps : List (Option ℕ) = set blank (place_of m.size start) (Some 0) in
      let queue : List Reached = record { at = start; steps = 0 } ∷ [] in
      record {
        whole = length-set blank (place_of m.size start) (Some 0) ∙ length_is;
        start_inside = present.in_grid;
        begun = here;
        room = (let sum = sum_by-set is_free blank (place_of m.size start) (Some 0) None inside in
            let all = sum_by-replicate is_free (cell_count m.size) None in
            let free : is_free (get_or blank (place_of m.size start) None) ≡ 1 = ap is_free unnoted in
            omega (arith, sum, all, free));
        entries = λ k h. only (λ k. IsEntry m IsOpen start steps (entry_of queue k) k) (record {
          present = present;
          is_open = is_open;
          noted = here;
          few = omega arith;
          walk = ([], refl, refl);
        }) k h;
        queued = λ p there n noted. elim (noted_cases blank start p 0 n length_is present.in_grid there noted) [
          | inl was ↦ absurd (let free = get_or-replicate (cell_count m.size) (place_of m.size p) None None (place_inside m.size p there) in let e : Some n ≡ None = sym was ∙ free in cc)
          | inr is ↦ record { place = 0; inside = omega arith; at_is = is.0; steps_is = is.1 }
        ];
        rising = λ i j le h. only (λ j. (i : ℕ) → i ≤ j → (entry_of queue i).steps ≤ (entry_of queue j).steps)
            (λ i le. only (λ i. (entry_of queue i).steps ≤ 0) (omega arith) i (omega (arith, le))) j h i le;
        narrow = λ k h h'. only (λ k. (entry_of queue k).steps ≤ 1) (omega arith) k h;
        closed = λ k before. absurd (omega arith);
      }

  -- the steps of two neighbours differ by at most one
  flood_close : (steps : List (Option ℕ)) (queue : List Reached) (head : ℕ) → IsFlood m IsOpen start steps queue head → (p q : Pos) → Neighbour m p q → (a b : ℕ) → steps_at m.size steps p ≡ Some a
      → steps_at m.size steps q ≡ Some b → b ≤ a + 1
  flood_close steps queue head f p q near a b here there =
      let h = f.queued p near.from.in_grid a here in
      let k = f.queued q near.to.in_grid b there in
      let a_is = h.steps_is in
      let b_is = k.steps_is in
      elim (cases_lt h.place head) [
        | inl less ↦
            let is_open : IsOpen p = subst IsOpen h.at_is (f.entries h.place h.inside).is_open in
            let is_open' : IsOpen q = subst IsOpen k.at_is (f.entries k.place k.inside).is_open in
            let step : OpenStep m IsOpen (entry_of queue h.place).at q = subst (λ (r : Pos). OpenStep m IsOpen r q) (sym h.at_is) (record { neighbour = near; from = is_open; to = is_open' }) in
            let w = f.closed h.place less h.inside q step in
            let le = w.1 in
            let both : Some b ≡ Some w.0 = sym there ∙ w.2 in
            let same : b ≡ w.0 = cc in
            omega (arith, le, same, a_is)
        | inr more ↦
            let inside = h.inside in
            let up = f.rising head h.place more inside in
            let low = f.narrow k.place k.inside (omega (arith, more, inside)) in
            omega (arith, up, low, a_is, b_is)
      ]

  -- there are fewer steps than points
  flood_few : (steps : List (Option ℕ)) (queue : List Reached) (head : ℕ) → IsFlood m IsOpen start steps queue head → (p : Pos) → InGrid m.size p → (n : ℕ)
      → steps_at m.size steps p ≡ Some n → n < cell_count m.size
  flood_few steps queue head f p there n noted =
      let h = f.queued p there n noted in
      let inside = h.inside in
      let is = h.steps_is in
      let few = (f.entries h.place inside).few in
      let room = f.room in
      omega (arith, inside, is, few, room)

  -- where the entries with fewer steps than are wanted were at the head, the steps that are wanted are noted
  flood_end : (steps : List (Option ℕ)) (queue : List Reached) (head : ℕ) (goal : Option Pos) → IsFlood m IsOpen start steps queue head
      → ((n : ℕ) → IsWanted m.size steps goal n → (k : ℕ) → k < length queue → (entry_of queue k).steps < n → k < head) → AreSteps m IsOpen start goal steps
  flood_end steps queue head goal f done = record {
    whole = f.whole;
    reached = λ p there n noted.
        (let h = f.queued p there n noted in
        let w = (f.entries h.place h.inside).walk in
        (w.0, subst (λ (q : Pos). Leads (OpenStep m IsOpen) q w.0 start) h.at_is w.1, w.2 ∙ h.steps_is));
    least = λ p xs l want. least (length xs) (done (length xs) want) p xs l (omega arith);
    close = flood_close steps queue head f;
    few = flood_few steps queue head f;
  }
    where
      least : (most : ℕ) → ((k : ℕ) → k < length queue → (entry_of queue k).steps < most → k < head) → (p : Pos) (xs : List Pos) → Leads (OpenStep m IsOpen) p xs start → length xs ≤ most
          → (n : ℕ) × (n ≤ length xs) × (steps_at m.size steps p ≡ Some n)
      least most before p [] l le = (0, omega arith, ap (steps_at m.size steps) l ∙ f.begun)
      least most before p (x ∷ xs) l le =
          let r = least most before x xs l.1 (omega (arith, le)) in
          let low = r.1 in
          let h = f.queued x l.0.neighbour.to.in_grid r.0 r.2 in
          let is = h.steps_is in
          let back : OpenStep m IsOpen (entry_of queue h.place).at p = subst (λ (q : Pos). OpenStep m IsOpen q p) (sym h.at_is) (OpenStep-turned m IsOpen p x l.0) in
          let w = f.closed h.place (before h.place h.inside (omega (arith, is, low, le))) h.inside p back in
          let near = w.1 in
          (w.0, omega (arith, near, is, low), w.2)

  module _ {V : Type 0} (how : Marking V) where
    -- a flood after a position was looked at, with what was noted before and the entry at its head
    pub record GoesOn (steps : List (Option ℕ)) (first : Reached) (head : ℕ) (at : Pos) (n : ℕ) (marks : List V) (places : List ℕ) : Type 0 where
      pub flooding : IsFlooding m IsOpen start how marks places head
      pub begun : head < length flooding.queue
      pub same : entry_of flooding.queue head ≡ first
      pub kept : (p : Pos) (j : ℕ) → InGrid m.size p → steps_at m.size steps p ≡ Some j → steps_at m.size flooding.steps p ≡ Some j
      pub found : IsOpen at → HasStepsWithin m flooding.steps at n

    -- the flood while the positions round the point at its head are looked at, step by step
    pub record IsRound (here : Pos) (n : ℕ) (marks : List V) (places : List ℕ) (head step : ℕ) : Type 0 where
      pub flooding : IsFlooding m IsOpen start how marks places head
      pub begun : head < length flooding.queue
      pub here_is : entry_of flooding.queue head ≡ record { at = here; steps = n }
      pub found : (q : Pos) → Neighbour m here q → IsBefore here step q → IsOpen q → HasStepsWithin m flooding.steps q (n + 1)

    -- there is no neighbour at a step
    round_past : (here : Pos) (n : ℕ) (marks : List V) (places : List ℕ) (head step : ℕ) → step < 9 → ((q : Pos) → Neighbour m here q → IsAtStep here step q → ⊥)
        → IsRound here n marks places head step → IsRound here n marks places head (step + 1)
    round_past here n marks places head step below none r = record {
      flooding = r.flooding;
      begun = r.begun;
      here_is = r.here_is;
      found = λ q near before is_open. elim (cases_lt (3 * q.y + q.x + 4) (3 * here.y + here.x + step)) [
        | inl less ↦ r.found q near less is_open
        | inr more ↦ absurd (none q near (at_step here q step below near before (λ less. omega (arith, less, more))))
      ];
    }

    -- the middle of the nine is the point itself
    pub IsRound-centre : (here : Pos) (n : ℕ) (marks : List V) (places : List ℕ) (head step : ℕ) → step ≡ 4 → IsRound here n marks places head step → IsRound here n marks places head (step + 1)
    IsRound-centre here n marks places head step centre =
        round_past here n marks places head step (omega (arith, centre)) (λ q near at.
        (let x = at.0 in let y = at.1 in near.different (same_pos here q (omega (arith, x, centre)) (omega (arith, y, centre)))))

    -- all steps were made
    pub IsRound-end : (here : Pos) (n : ℕ) (marks : List V) (places : List ℕ) (head step : ℕ) → 9 ≤ step → IsRound here n marks places head step → IsFlooding m IsOpen start how marks places (head + 1)
    IsRound-end here n marks places head step done r =
        let f = r.flooding.flood in
        let steps = r.flooding.steps in
        let queue = r.flooding.queue in
        record {
          steps = steps;
          queue = queue;
          whole = r.flooding.whole;
          read = r.flooding.read;
          places_are = r.flooding.places_are;
          flood = record {
            whole = f.whole;
            start_inside = f.start_inside;
            begun = f.begun;
            room = f.room;
            entries = f.entries;
            queued = f.queued;
            rising = f.rising;
            narrow = λ i h h'. (let low = f.narrow i h r.begun in let up = f.rising head (head + 1) (omega arith) h' in omega (arith, low, up));
            closed = λ i before h q s. elim (cases_lt i head) [
              | inl less ↦ f.closed i less h q s
              | inr last ↦
                  let e : head ≡ i = omega arith in
                  let is : entry_of queue i ≡ record { at = here; steps = n } = ap (entry_of queue) (sym e) ∙ r.here_is in
                  let near : Neighbour m here q = subst (λ (x : Reached). Neighbour m x.at q) is s.neighbour in
                  let x = near.columns.1 in
                  let y = near.rows.1 in
                  let w' : HasStepsWithin m steps q (n + 1) = r.found q near (omega (arith, x, y, done)) s.to in
                  subst (λ (x : Reached). HasStepsWithin m steps q (x.steps + 1)) (sym is) w'
            ];
          };
        }

    -- the queue of a flood by its indexes
    queue_long : (marks : List V) (places : List ℕ) (head : ℕ) (f : IsFlooding m IsOpen start how marks places head) → length places ≡ length f.queue
    queue_long marks places head f = ap length f.places_are ∙ length-map f.queue (λ (e : Reached). place_of m.size e.at)

    queue_read : (marks : List V) (places : List ℕ) (head : ℕ) (f : IsFlooding m IsOpen start how marks places head) → (k : ℕ) → k < length f.queue
        → get_or places k 0 ≡ place_of m.size (entry_of f.queue k).at
    queue_read marks places head f k inside = ap (λ (ps : List ℕ). get_or ps k 0) f.places_are ∙ get_or-map (λ (e : Reached). place_of m.size e.at) f.queue k no_entry 0 inside

    -- the entry at the head of a flood is of the point at the head of its queue
    head_entry : (marks : List V) (places : List ℕ) (head : ℕ) (f : IsFlooding m IsOpen start how marks places head) (here : Pos) → IsAtHead m.size places head here
        → (head < length f.queue) × ((entry_of f.queue head).at ≡ here)
    head_entry marks places head f here at =
        let begun : head < length f.queue = subst (λ (n : ℕ). head < n) (queue_long marks places head f) at.inside in
        (begun, same_place m.size (entry_of f.queue head).at here (f.flood.entries head begun).present.in_grid at.in_grid (sym (queue_read marks places head f head begun) ∙ at.place))

    -- the round begins
    pub IsRound-begin : (here : Pos) (marks : List V) (places : List ℕ) (head : ℕ) → IsFlooding m IsOpen start how marks places head → IsAtHead m.size places head here
        → (n : ℕ) × (how.after (mark_at how.blank m.size marks here) ≡ mark_in how (n + 1)) × IsRound here n marks places head 0
    IsRound-begin here marks places head f at =
        let first = head_entry marks places head f here at in
        let entry = entry_of f.queue head in
        let noted : steps_at m.size f.steps here ≡ Some entry.steps = subst (λ (p : Pos). steps_at m.size f.steps p ≡ Some entry.steps) first.1 (f.flood.entries head first.0).noted in
        let read = f.read here at.in_grid ∙ ap (marked how (mark_at how.blank m.size how.before here)) noted in (
          entry.steps,
          ap how.after read ∙ (let e : suc entry.steps ≡ entry.steps + 1 = omega arith in ap (mark_in how) e),
          record {
            flooding = f;
            begun = first.0;
            here_is = ap (λ (p : Pos). record { at = p; steps = entry.steps }) first.1;
            found = λ q near before. absurd (let x = near.columns.0 in let y = near.rows.0 in omega (arith, before, x, y));
          },
        )

    -- the start is marked and queued
    pub IsFlooding-begin : (marks : List V) → marks ≡ how.before → length marks ≡ cell_count m.size → Present m start → IsOpen start
        → IsFlooding m IsOpen start how (set marks (place_of m.size start) how.first) (place_of m.size start ∷ []) 0
    IsFlooding-begin marks same whole present is_open =
        let none : List (Option ℕ) = replicate (cell_count m.size) None in
        let unnoted : (p : Pos) → InGrid m.size p → steps_at m.size none p ≡ None = λ p there. get_or-replicate (cell_count m.size) (place_of m.size p) None None (place_inside m.size p there) in
        record {
          steps = set none (place_of m.size start) (Some 0);
          queue = record { at = start; steps = 0 } ∷ [];
          flood = flood_begin present is_open;
          whole = length-set marks (place_of m.size start) how.first ∙ whole;
          read = read_more how marks none start 0 whole (length-replicate (cell_count m.size) None) present.in_grid
              (λ p there. ap (λ ms. mark_at how.blank m.size ms p) same ∙ sym (ap (marked how (mark_at how.blank m.size how.before p)) (unnoted p there)));
          places_are = refl;
        }

    -- the marks, where all entries were at the head
    pub IsFlooding-end : (marks : List V) (places : List ℕ) (head : ℕ) → IsFlooding m IsOpen start how marks places head → length places ≤ head → (goal : Option Pos)
        → AreMarked m IsOpen start goal how marks
    IsFlooding-end marks places head f done goal =
        let long = queue_long marks places head f in
        record { steps = f.steps; are = flood_end f.steps f.queue head goal f.flood (λ n want k inside few. omega (arith, inside, done, long)); whole = f.whole; read = f.read }

    -- and where the goal is at the head
    pub IsFlooding-stop : (marks : List V) (places : List ℕ) (head : ℕ) → IsFlooding m IsOpen start how marks places head → (here : Pos) → IsAtHead m.size places head here
        → (goal : Option Pos) → goal ≡ Some here
        → AreMarked m IsOpen start goal how marks
    IsFlooding-stop marks places head f here at goal is =
        let first = head_entry marks places head f here at in
        let entry = entry_of f.queue head in
        let goal_is : goal ≡ Some entry.at = is ∙ ap Some (sym first.1) in
        record {
          steps = f.steps;
          are = flood_end f.steps f.queue head goal f.flood (λ n want k inside few. elim (cases_lt k head) [
            | inl less ↦ less
            | inr more ↦ absurd (let wanted : IsWanted m.size f.steps (Some entry.at) n = subst (λ (g : Option Pos). IsWanted m.size f.steps g n) goal_is want in
                let most = wanted entry.steps (f.flood.entries head first.0).noted in
                let up = f.flood.rising head k more inside in
                omega (arith, most, up, few))
          ]);
          whole = f.whole;
          read = f.read;
        }

    -- all points fit in the queue
    pub IsFlooding-room : (marks : List V) (places : List ℕ) (head : ℕ) → IsFlooding m IsOpen start how marks places head → length places ≤ cell_count m.size
    IsFlooding-room marks places head f = let long = queue_long marks places head f in let room = f.flood.room in omega (arith, long, room)

    -- each index in the queue is of a point
    pub IsFlooding-index : (marks : List V) (places : List ℕ) (head : ℕ) → IsFlooding m IsOpen start how marks places head → (k : ℕ) → k < length places → get_or places k 0 < cell_count m.size
    IsFlooding-index marks places head f k inside =
        let long = queue_long marks places head f in
        let inside' : k < length f.queue = omega (arith, inside, long) in
        rw (queue_read marks places head f k inside') (place_inside m.size (entry_of f.queue k).at (f.flood.entries k inside').present.in_grid)

    -- the index at the head of what is left is in the grid
    pub IsFlooding-next : (marks : List V) (passed left rest : List ℕ) (index : ℕ) → left ≡ index ∷ rest → IsFlooding m IsOpen start how marks (passed ++ left) (length passed)
        → index < cell_count m.size
    IsFlooding-next marks passed left rest index is f =
        let front : List ℕ = passed ++ index ∷ [] in
        let same : passed ++ left ≡ front ++ rest = ap (λ xs. passed ++ xs) is ∙ sym (append_assoc passed (index ∷ []) rest) in
        let within : length passed < length front = (let longer = length_push passed index in omega (arith, longer)) in
        let inside : length passed < length (front ++ rest) = (let more = length-append front rest in omega (arith, within, more)) in
        let below = IsFlooding-index marks (front ++ rest) (length passed) (subst (λ xs. IsFlooding m IsOpen start how marks xs (length passed)) same f) (length passed) inside in
        let read : get_or (front ++ rest) (length passed) 0 ≡ index = get_or_append_left front rest 0 (length passed) within ∙ get_or_push passed index 0 (length passed) refl in
        subst (λ n. n < cell_count m.size) read below

    -- the point at the head of what is left is passed
    pub IsFlooding-pass : (marks : List V) (here : Pos) (passed left rest : List ℕ) → left ≡ place_of m.size here ∷ rest → IsFlooding m IsOpen start how marks (passed ++ left) (length passed)
        → IsFlooding m IsOpen start how marks ((passed ++ place_of m.size here ∷ []) ++ rest) (length passed)
    IsFlooding-pass marks here passed left rest is f =
        subst (λ xs. IsFlooding m IsOpen start how marks xs (length passed)) (ap (λ xs. passed ++ xs) is ∙ sym (append_assoc passed (place_of m.size here ∷ []) rest)) f

  module _ {V : Type 0} (how : Marking V) (w : IsMarking m IsOpen start how) where
    -- the mark of some steps is no blank
    mark_none : (n : ℕ) → mark_in how n ≡ how.blank → ⊥
    mark_none zero e = w.begun e
    mark_none (suc n) e = mark_none n (w.marks (mark_in how n) e)

    -- what is reached, and has no mark of another flood, has steps
    free_at : (marks : List V) (places : List ℕ) (head : ℕ) (at : Pos) (f : IsFlooding m IsOpen start how marks places head) → InGrid m.size at
        → mark_at how.blank m.size marks at ≡ how.blank → steps_at m.size f.steps at ≡ None
    free_at marks places head at f there blank = elim (Option-some_or_none (steps_at m.size f.steps at)) [
      | inl some ↦ absurd (mark_none some.0 (sym (f.read at there ∙ ap (marked how (mark_at how.blank m.size how.before at)) some.1) ∙ blank))
      | inr none ↦ none
    ]

    -- a position that is closed, or reached
    goes_on_same : (marks : List V) (places : List ℕ) (head : ℕ) (at : Pos) (n : ℕ) (f : IsFlooding m IsOpen start how marks places head) → head < length f.queue → InGrid m.size at
        → (IsOpen at → steps_at m.size f.steps at ≡ None → Neighbour m (entry_of f.queue head).at at) → (entry_of f.queue head).steps + 1 ≡ n
        → (IsOpen at → ⊥) ⊎ (mark_at how.blank m.size marks at ≡ how.blank → ⊥) → GoesOn how f.steps (entry_of f.queue head) head at n marks places
    goes_on_same marks places head at n f begun inside beside count why = record {
      flooding = f;
      begun = begun;
      same = refl;
      kept = λ p j there noted. noted;
      found = λ is_open. elim (Option-some_or_none (steps_at m.size f.steps at)) [
        | inl some ↦
            let h = f.flood.queued at inside some.0 some.1 in
            let low = f.flood.narrow h.place h.inside begun in
            let is = h.steps_is in
            (some.0, omega (arith, low, is, count), some.1)
        | inr none ↦
            let first = f.flood.entries head begun in
            let step : OpenStep m IsOpen at (entry_of f.queue head).at = OpenStep-turned m IsOpen (entry_of f.queue head).at at
            (record { neighbour = beside is_open none; from = first.is_open; to = is_open }) in
            let before = w.free at ((entry_of f.queue head).at ∷ first.walk.0) (step, first.walk.1) in
            absurd (elim why [ inl closed ↦ closed is_open | inr reached ↦ reached (f.read at inside ∙ ap (marked how (mark_at how.blank m.size how.before at)) none ∙ before) ])
      ];
    }

    -- an open neighbour that has no steps
    goes_on_push : (marks : List V) (places : List ℕ) (head : ℕ) (at : Pos) (n : ℕ) (f : IsFlooding m IsOpen start how marks places head) → head < length f.queue
        → Neighbour m (entry_of f.queue head).at at → (entry_of f.queue head).steps + 1 ≡ n → IsOpen at → steps_at m.size f.steps at ≡ None
        → GoesOn how f.steps (entry_of f.queue head) head at n (set marks (place_of m.size at) (mark_in how n)) (places ++ place_of m.size at ∷ [])
    goes_on_push marks places head at n f begun near count is_open free =
        let steps = f.steps in
        let e : Reached = record { at = at; steps = n } in
        let inside : place_of m.size at < length steps = rw f.flood.whole (place_inside m.size at near.to.in_grid) in
        record {
          flooding = record {
            steps = set steps (place_of m.size at) (Some n);
            queue = f.queue ++ e ∷ [];
            flood = flood_push steps f.queue head at n f.flood begun near count is_open free;
            whole = length-set marks (place_of m.size at) (mark_in how n) ∙ f.whole;
            read = read_more how marks steps at n f.whole f.flood.whole near.to.in_grid f.read;
            places_are = ap (λ (ps : List ℕ). ps ++ place_of m.size at ∷ []) f.places_are ∙ sym (map-append (λ (r : Reached). place_of m.size r.at) f.queue (e ∷ []));
          };
          begun = rw (length_push f.queue e) (omega (arith, begun));
          same = get_or_append_left f.queue (e ∷ []) no_entry head begun;
          kept = λ p j there was. noted_more steps at p n j f.flood.whole near.to.in_grid there free was;
          found = λ _. (n, omega arith, get_or-set_same steps (place_of m.size at) (Some n) None inside);
        }

    goes_on : (marks : List V) (places : List ℕ) (head : ℕ) (at : Pos) (n : ℕ) (mark : V) (marks' : List V) (places' : List ℕ) (f : IsFlooding m IsOpen start how marks places head)
        → head < length f.queue → InGrid m.size at
        → (IsOpen at → steps_at m.size f.steps at ≡ None → Neighbour m (entry_of f.queue head).at at) → (entry_of f.queue head).steps + 1 ≡ n → mark ≡ mark_in how n
        → Reaches m.size IsOpen how.blank at mark marks places marks' places' → GoesOn how f.steps (entry_of f.queue head) head at n marks' places'
    goes_on marks places head at n mark marks' places' f begun there beside count mark_is reaches = elim reaches [
      | inl left ↦ rw (left.1, left.2) (goes_on_same marks places head at n f begun there beside count left.0)
      | inr new ↦
          let free = free_at marks places head at f there new.1 in
          rw (new.2, new.3, mark_is) (goes_on_push marks places head at n f begun (beside new.0 free) count new.0 free)
    ]

    pub IsRound-more : ((p : Pos) → IsOpen p → Present m p) → (here : Pos) (n : ℕ) (mark : V) {marks : List V} {places : List ℕ} {head : ℕ} (step : ℕ) (marks' : List V) (places' : List ℕ)
        → mark ≡ mark_in how (n + 1) → step < 9 → ReachesAt m IsOpen how.blank here (step % 3) (step / 3) mark marks places marks' places'
        → IsRound how here n marks places head step → IsRound how here n marks' places' head (step + 1)
    IsRound-more open_present here n mark {marks} {places} {head} step marks' places' mark_is below reaches r = elim reaches [
      | inl (p, x, y, there, beside, one) ↦
          let queue = r.flooding.queue in
          let at : IsAtStep here step p = (x, y) in
          let head_is : (entry_of queue head).at ≡ here = ap (λ (e : Reached). e.at) r.here_is in
          let at' : IsAtStep (entry_of queue head).at step p = subst (λ (q : Pos). IsAtStep q step p) (sym head_is) at in
          let beside' : AreBesideUnder m.adjacency (entry_of queue head).at p = subst (λ (q : Pos). AreBesideUnder m.adjacency q p) (sym head_is) beside in
          let g = goes_on marks places head p (n + 1) mark marks' places' r.flooding r.begun there
          (λ is_open free. beside_head open_present r.flooding.steps queue head p step below r.flooding.flood r.begun at' beside' is_open free)
          (ap (λ (e : Reached). e.steps + 1) r.here_is) mark_is one in
          record {
            flooding = g.flooding;
            begun = g.begun;
            here_is = g.same ∙ r.here_is;
            found = λ q near before is_open. elim (cases_lt (3 * q.y + q.x + 4) (3 * here.y + here.x + step)) [
              | inl less ↦ let w = r.found q near less is_open in (w.0, w.1, g.kept q w.0 near.to.in_grid w.2)
              | inr more ↦
                  let is = at_step here q step below near before (λ less. omega (arith, less, more)) in
                  let x' = is.0 in
                  let y' = is.1 in
                  let same : p ≡ q = same_pos p q (omega (arith, x', x)) (omega (arith, y', y)) in
                  subst (λ (o : Pos). IsOpen o → HasStepsWithin m g.flooding.steps o (n + 1)) same g.found is_open
            ];
          }
      | inr none ↦ rw (none.1, none.2) (round_past how here n marks places head step below (λ q near at. none.0 q at.0 at.1 near.to.in_grid near.beside) r)
    ]
