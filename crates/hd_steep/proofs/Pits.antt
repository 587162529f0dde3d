-- The pits of a map as they are listed, index by index.
use Rattle.std.proofs.Common.{◌≡◌, ◌<◌, ◌≤◌, ◌+◌, ◌++◌, ℕ, zero, suc, List, [], ◌∷◌, length, get_or, inl, inr, subst, arith}
use Rattle.std.specs.List.{Contains, AllPairs}
use Rattle.std.proofs.lemmas.Bool.{cases_lt}
use Rattle.std.proofs.lemmas.List.Elements.{Contains-push, Contains-push_cases, Contains-append_left, Contains-get_or}
use Rattle.std.proofs.lemmas.List.Quantifiers.{all_pairs_push}
use Rattle.hd_map.specs.declared.types.Rank.{Rank}
use Rattle.hd_map.specs.declared.types.SideName.{SideName}
use Rattle.hd_map.specs.Map.{Map, cell_count}
use Rattle.hd_map.specs.Pruning.{ArePits}
use Rattle.hd_map.specs.Region.{IsPit}
use Rattle.hd_map.proofs.Items.{Contains-none}
use Rattle.hd_map.proofs.Points.{same_index, point_inside}

-- ranks rise by index
abbrev pub AreRising : List Rank → Type 0
AreRising ranks = AllPairs (λ (a : Rank) (b : Rank). a.index < b.index) ranks

-- each has at least the index of its place
pub rising_past : (ranks : List Rank) → AreRising ranks → (i : ℕ) (d : Rank) → i < length ranks → i ≤ (get_or ranks i d).index
rising_past ranks rise zero d inside = omega arith
rising_past ranks rise (suc i) d inside =
    let before : i < length ranks = omega (arith, inside) in
    let past = rising_past ranks rise i d before in
    let less = rise i (suc i) d (omega arith) inside in
    omega (arith, past, less)

-- no two places have one index
pub rising_apart : (ranks : List Rank) → AreRising ranks → (i j : ℕ) (d : Rank) → i < length ranks → j < length ranks → (get_or ranks i d).index ≡ (get_or ranks j d).index → i ≡ j
rising_apart ranks rise i j d here there same = elim (cases_lt i j) [
  | inl before ↦ (let less = rise i j d before there in absurd (omega (arith, less, same)))
  | inr not ↦ elim (cases_lt j i) [
    | inl after ↦ (let less = rise j i d after here in absurd (omega (arith, less, same)))
    | inr nor ↦ omega (arith, not, nor)
  ]
]

-- so there are no more of them than indexes
pub rising_few : (ranks : List Rank) (n : ℕ) → AreRising ranks → ((r : Rank) → Contains ranks r → r.index < n) → length ranks ≤ n
rising_few [] n rise below = omega arith
rising_few (r ∷ rs) n rise below =
    let last : length rs < length (r ∷ rs) = omega arith in
    let past = rising_past (r ∷ rs) rise (length rs) r last in
    let less = below (get_or (r ∷ rs) (length rs) r) (Contains-get_or (r ∷ rs) (length rs) r last) in
    omega (arith, past, less)

-- these are the pits of lesser index
pub record ArePitsBefore (m : Map) (side : SideName) (k : ℕ) (pits : List Rank) : Type 0 where
  pub each : (p : Rank) → Contains pits p → IsPit m side p × (p.index < k)
  pub all : (p : Rank) → IsPit m side p → p.index < k → Contains pits p
  pub in_order : AreRising pits

module _ (m : Map) (side : SideName) where
  -- none before the first index
  pub pits_none : ArePitsBefore m side 0 []
  pits_none = record {
    each = λ p there. absurd (Contains-none p there);
    all = λ p pit below. absurd (omega arith);
    in_order = λ i j d less below. absurd (omega arith);
  }

  -- one more pit
  pub pits_push : (k : ℕ) (pits : List Rank) (r : Rank) → IsPit m side r → r.index ≡ k → ArePitsBefore m side k pits → ArePitsBefore m side (k + 1) (pits ++ r ∷ [])
  pits_push k pits r pit e before = record {
    each = λ p h. elim (Contains-push_cases pits r p h) [
      | inl old ↦ let is = before.each p old in (is.0, omega (arith, is.1))
      | inr same ↦ subst (λ (q : Rank). IsPit m side q × (q.index < k + 1)) same (pit, omega (arith, e))
    ];
    all = λ p is_pit less. elim (cases_lt p.index k) [
      | inl old ↦ Contains-append_left pits (r ∷ []) p (before.all p is_pit old)
      | inr not ↦
          let same : r ≡ p = same_index m r p pit.point is_pit.point (omega (arith, not, less, e)) in
          subst (λ (q : Rank). Contains (pits ++ r ∷ []) q) same (Contains-push pits r)
    ];
    in_order = all_pairs_push (λ (a : Rank) (b : Rank). a.index < b.index) pits r before.in_order (λ i d inside.
        let less = (before.each (get_or pits i d) (Contains-get_or pits i d inside)).1 in omega (arith, less, e));
  }

  -- no pit has this index
  pub pits_pass : (k : ℕ) (pits : List Rank) → ((p : Rank) → IsPit m side p → p.index ≡ k → ⊥) → ArePitsBefore m side k pits → ArePitsBefore m side (k + 1) pits
  pits_pass k pits none before = record {
    each = λ p h. let is = before.each p h in (is.0, omega (arith, is.1));
    all = λ p is_pit less. elim (cases_lt p.index k) [
      | inl old ↦ before.all p is_pit old
      | inr not ↦ absurd (none p is_pit (omega (arith, not, less)))
    ];
    in_order = before.in_order;
  }

  -- after the last index they are the pits of the map
  pub pits_all : (k : ℕ) (pits : List Rank) → cell_count m.size ≤ k → ArePitsBefore m side k pits → ArePits m side pits
  pits_all k pits last before = record {
    exactly = λ p. (
      λ h. (before.each p h).0,
      λ pit. before.all p pit (let inside = point_inside m p pit.point in omega (arith, inside, last)),
    );
    in_order = before.in_order;
  }

  -- there are no more pits than cells
  pub pits_few : (pits : List Rank) → ArePits m side pits → length pits ≤ cell_count m.size
  pits_few pits are = rising_few pits (cell_count m.size) are.in_order (λ r there. point_inside m r ((are.exactly r).0 there).point)
