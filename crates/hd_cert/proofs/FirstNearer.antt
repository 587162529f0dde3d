-- The path that takes the first nearer point each time.
use Rattle.std.proofs.Common.{◌≡◌, ◌<◌, ◌≤◌, ◌+◌, ◌-◌, ℕ, Bool, true, false, nat_eq, ◌&&◌, List, [], ◌∷◌, ◌++◌, length, Option, Some, None, inl, inr, ap, ap₂, ◌∙◌, refl, sym, subst, arith}
use Rattle.std.specs.List.{Contains, AllPairs}
use Rattle.std.proofs.lemmas.Bool.{cases_lt, eq-eqb, false≢true}
use Rattle.std.proofs.lemmas.List.{get_or_append_left, get_or_push, length_push}
use Rattle.hd_map.specs.declared.types.Pos.{Pos}
use Rattle.hd_map.specs.Map.{Map, Present, cell_count, place_of}
use Rattle.hd_map.proofs.Points.{neighbour-sym}
use Rattle.hd_check.specs.Rules.{point_of}
use Rattle.hd_check.proofs.Searching.{Contains-place}
use Rattle.hd_cert.specs.FirstNearer.{GoesNearer, IsBesideWith, IsFirst, IsNearer, LeadsDown}
use Rattle.hd_cert.specs.declared.residue.Residue.{Residue}
use Rattle.hd_cert.specs.Residues.{residue_after, residue_of_steps, residue_at, residue_of}
use Rattle.hd_reach.specs.Steps.{steps_at}
use Rattle.hd_cert.proofs.Residues.{residue_of_steps-more, residue_of_steps-reached, residue_after-same, residue_of_steps-same}

-- positions that compare as different are different
pub Pos-different : (p q : Pos) (same : Bool) → same ≡ (nat_eq p.x q.x && nat_eq p.y q.y) → same ≡ false → p ≡ q → ⊥
Pos-different p q same is not e =
    let x : nat_eq p.x q.x ≡ true = eq-eqb p.x q.x (ap (λ (r : Pos). r.x) e) in
    let y : nat_eq p.y q.y ≡ true = eq-eqb p.y q.y (ap (λ (r : Pos). r.y) e) in
    false≢true (sym not ∙ is ∙ ap₂ (λ a b. a && b) x y)

-- the first of a rising list that has the property
pub place_of-first : (m : Map) (P : Pos → Type 0) (round : List Pos) → AllPairs (λ (a b : Pos). place_of m.size a < place_of m.size b) round → (k : ℕ) → ((i : ℕ) → i < k → P (point_of round i) → ⊥)
    → (r : Pos) → Contains round r → P r → place_of m.size (point_of round k) ≤ place_of m.size r
place_of-first m P round ordered k before r c h =
    let f = Contains-place round r c in
    let e : place_of m.size (point_of round f.0) ≡ place_of m.size r = ap (place_of m.size) f.2 in
    elim (cases_lt f.0 k) [
      | inl less ↦ absurd (before f.0 less (subst P (sym f.2) h))
      | inr more ↦ elim (cases_lt k f.0) [
        | inl less ↦ let up = ordered k f.0 (record { x = 0; y = 0 }) less f.1 in omega (arith, up, e)
        | inr more' ↦ let same : k ≡ f.0 = omega arith in let e' : place_of m.size (point_of round k)
            ≡ place_of m.size (point_of round f.0) = ap (λ i. place_of m.size (point_of round i)) same in omega (arith, e, e')
      ]
    ]

-- a path goes on by the first nearer point
pub GoesNearer-more : (m : Map) (steps : List (Option ℕ)) (from : Pos) (count gone : ℕ) (path : List Pos) (here next : Pos) → GoesNearer m steps from count path gone → point_of path gone ≡ here
    → IsFirst m (IsNearer m steps (count - (gone + 1)) here) next → GoesNearer m steps from count (path ++ next ∷ []) (gone + 1) × (point_of (path ++ next ∷ []) (gone + 1) ≡ next)
GoesNearer-more m steps from count gone path here next g is first =
    let long = g.long in
    let old : (k : ℕ) → k < length path → point_of (path ++ next ∷ []) k ≡ point_of path k = λ k h. get_or_append_left path (next ∷ []) (record { x = 0; y = 0 }) k h in
    let new : point_of (path ++ next ∷ []) (gone + 1) ≡ next = get_or_push path next (record { x = 0; y = 0 }) (gone + 1) long in (
      record {
        long = (let l = length_push path next in omega (arith, l, long));
        begins = old 0 (omega (arith, long)) ∙ g.begins;
        nearer = λ k h. elim (cases_lt k gone) [
          | inl less ↦ rw (old k (omega (arith, long)), old (k + 1) (omega (arith, long))) (g.nearer k less)
          | inr last ↦
              let e : gone ≡ k = omega arith in
              let here_is : point_of (path ++ next ∷ []) gone ≡ here = old gone (omega (arith, long)) ∙ is in
              let now : IsFirst m (IsNearer m steps (count - (gone + 1)) (point_of (path ++ next ∷ []) gone)) (point_of (path ++ next ∷ []) (gone + 1)) = rw (here_is, new) first in
              subst (λ (j : ℕ). IsFirst m (IsNearer m steps (count - (j + 1)) (point_of (path ++ next ∷ []) j)) (point_of (path ++ next ∷ []) (j + 1))) e now
        ];
      },
      new,
    )

-- a path down, as far as it has gone
pub record IsDown (m : Map) (from : Pos) (steps : List (Option ℕ)) (count : ℕ) (path : List Pos) (here : Pos) (gone : ℕ) : Type 0 where
  pub below : gone ≤ count
  pub goes : GoesNearer m steps from count path gone
  pub last : point_of path gone ≡ here
  pub noted : steps_at m.size steps here ≡ Some (count - gone)

pub IsDown-begin : (m : Map) (residues : List Residue) (from to : Pos) (steps : List (Option ℕ)) (count : ℕ) → LeadsDown m residues from to steps count → IsDown m from steps count (from ∷ []) from 0
IsDown-begin m residues from to steps count leads = record {
  below = omega arith;
  goes = record { long = refl; begins = refl; nearer = λ k h. absurd (omega (arith, h)) };
  last = refl;
  noted = leads.noted ∙ ap Some (let e : count ≡ count - 0 = omega arith in e);
}

-- what is noted with the residue of some steps has steps
steps_of : (o : Option ℕ) (n : ℕ) → residue_of o ≡ residue_of_steps n → (k : ℕ) × (o ≡ Some k) × (residue_of_steps k ≡ residue_of_steps n)
steps_of None n e = absurd (residue_of_steps-reached n (sym e))
steps_of (Some k) n e = (k, refl, e)

module _ (m : Map) (residues : List Residue) (from to : Pos) (steps : List (Option ℕ)) (count : ℕ) (leads : LeadsDown m residues from to steps count) where
  -- a neighbour has one step less where its residue is the one before
  nearer_by_residue : (here q : Pos) (n : ℕ) → steps_at m.size steps here ≡ Some (n + 1) → IsBesideWith m residues (residue_of_steps n) here q → IsNearer m steps n here q
  nearer_by_residue here q n noted beside =
      let there = beside.neighbour.to.in_grid in
      let k = steps_of (steps_at m.size steps q) n (sym (leads.read q there) ∙ beside.noted) in
      let up = leads.close here q beside.neighbour (n + 1) k.0 noted k.1 in
      let down = leads.close q here (neighbour-sym m here q beside.neighbour) k.0 (n + 1) k.1 noted in
      let same : k.0 ≡ n = residue_of_steps-same k.0 n (omega (arith, down)) (omega (arith, up)) k.2 in
      record { neighbour = beside.neighbour; noted = k.1 ∙ ap Some same }

  -- and the residue before where it has one step less
  beside_by_steps : (here q : Pos) (n : ℕ) → IsNearer m steps n here q → IsBesideWith m residues (residue_of_steps n) here q
  beside_by_steps here q n nearer = record { neighbour = nearer.neighbour; noted = leads.read q nearer.neighbour.to.in_grid ∙ ap residue_of nearer.noted }

  first_by_residue : (here next : Pos) (n : ℕ) → steps_at m.size steps here ≡ Some (n + 1) → IsFirst m (IsBesideWith m residues (residue_of_steps n) here) next
      → IsFirst m (IsNearer m steps n here) next
  first_by_residue here next n noted first = record {
    kind = nearer_by_residue here next n noted first.kind;
    first = λ r nearer. first.first r (beside_by_steps here r n nearer);
  }

  pub IsDown-more : (path : List Pos) (here next : Pos) (gone : ℕ) (residue : Residue) → Present m here → (here ≡ to → ⊥) → residue_after residue ≡ residue_at m.size residues here
      → ((q : Pos) → IsBesideWith m residues residue here q → IsFirst m (IsBesideWith m residues residue here) next) → IsDown m from steps count path here gone
      → IsDown m from steps count (path ++ next ∷ []) next (gone + 1)
  IsDown-more path here next gone residue present not_end residue_is first d =
      let below = d.below in
      let left : gone + 1 ≤ count = elim (cases_lt gone count) [
        | inl less ↦ omega (arith, less)
        | inr more ↦ absurd (let none : count - gone ≡ 0 = omega (arith, more) in not_end (leads.ends here present.in_grid (d.noted ∙ ap Some none)))
      ] in
      let n : ℕ = count - (gone + 1) in
      let one : count - gone ≡ n + 1 = omega (arith, left) in
      let noted : steps_at m.size steps here ≡ Some (n + 1) = d.noted ∙ ap Some one in
      let of_next : residue ≡ residue_of_steps n = residue_after-same residue (residue_of_steps n) (residue_is ∙ leads.read here present.in_grid ∙ ap residue_of noted ∙ residue_of_steps-more n) in
      let nearer = leads.falls here n (omega (arith, left)) present noted in
      let beside : IsBesideWith m residues residue here nearer.0 = subst (λ (r : Residue). IsBesideWith m residues r here nearer.0) (sym of_next) (beside_by_steps here nearer.0 n nearer.1) in
      let now : IsFirst m (IsNearer m steps n here) next = first_by_residue here next n noted
      (subst (λ (r : Residue). IsFirst m (IsBesideWith m residues r here) next) of_next (first nearer.0 beside)) in
      let more = GoesNearer-more m steps from count gone path here next d.goes d.last now in
      record { below = omega (arith, left); goes = more.0; last = more.1; noted = now.kind.noted }

  -- the path ends where the steps do
  pub IsDown-end : (path : List Pos) (here : Pos) (gone : ℕ) → here ≡ to → IsDown m from steps count path here gone → GoesNearer m steps from count path count
  IsDown-end path here gone is d =
      let below = d.below in
      let both : Some (count - gone) ≡ Some 0 = sym d.noted ∙ ap (steps_at m.size steps) is ∙ leads.begun in
      let none : count - gone ≡ 0 = cc in
      let e : gone ≡ count = omega (arith, below, none) in
      subst (λ (n : ℕ). GoesNearer m steps from count path n) e d.goes

  -- which is before it has gone over all points
  pub IsDown-past : (path : List Pos) (here : Pos) (gone : ℕ) → cell_count m.size ≤ gone → IsDown m from steps count path here gone → ⊥
  IsDown-past path here gone past d = let below = d.below in let few = leads.few in omega (arith, past, below, few)
