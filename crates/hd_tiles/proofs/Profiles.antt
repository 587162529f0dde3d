-- The tiles round the points of a profile that become others.
use Rattle.std.proofs.Common.{◌≡◌, ◌<◌, ◌≤◌, ◌+◌, ◌-◌, ◌*◌, ◌/◌, ◌||◌, ◌⊎◌, ℕ, ℤ, Bool, true, false, List, Option, inl, inr, sym, ◌∙◌, ap, subst, arith}
use Rattle.std.specs.Prelude.{min}
use Rattle.std.specs.Bool.{OnFalse, OnTrue}
use Rattle.std.proofs.Math.Nat.{mul-le-mul_left}
use Rattle.std.proofs.lemmas.Bool.{OnFalse_from, OnTrue_from, cases_lt}
use Rattle.hd_map.specs.declared.types.Pos.{Pos}
use Rattle.hd_map.specs.declared.types.Size.{Size}
use Rattle.hd_map.specs.Map.{Map}
use Rattle.hd_tiles.specs.Profile.{AllStay, IsFirstChange, IsLastChange, IsRoundChange, SomeChanges}
use Rattle.hd_tiles.specs.Stamps.{AreStamped}
use Rattle.hd_tiles.specs.Tile.{IsRound, tiles_across, tiles_along}
use Rattle.hd_tiles.proofs.Stamping.{AreStamped-as, AreStamped-none, AreStamped-onward}
use Rattle.hd_tiles.proofs.TilesAlong.{part-is}

-- of three columns in a part, the tiles round the one between are round the first or the last
round_of_ends : (s : Size) (t k tile y first x last : ℕ) → k * t ≤ first → first ≤ x → x ≤ last → last < k * t + t → last < s.points → IsRound s t tile (record { x = x; y = y })
    → IsRound s t tile (record { x = first; y = y }) ⊎ IsRound s t tile (record { x = last; y = y })
round_of_ends s t k tile y first x last from after before below inside round =
    let q : Pos = round.from in
    let near = round.columns in
    elim (cases_lt q.x (k * t)) [
      | inl left ↦ inl (let same : x ≡ first = omega (arith, left, near.0, near.1, from, after) in subst (λ (j : ℕ). IsRound s t tile (record { x = j; y = y })) same round)
      | inr not_left ↦ elim (cases_lt q.x (k * t + t)) [
        | inr right ↦ inr (let same : x ≡ last = omega (arith, right, near.0, near.1, before, below) in subst (λ (j : ℕ). IsRound s t tile (record { x = j; y = y })) same round)
        | inl here ↦ inl (
            let parts : first / t ≡ q.x / t =
            part-is first k t (first - k * t) (omega (arith, from, after, before, below)) (omega (arith, from))
            ∙ sym (part-is q.x k t (q.x - k * t) (omega (arith, not_left, here)) (omega (arith, not_left))) in
            record {
              from = record { x = first; y = q.y };
              in_grid = record { column = omega (arith, after, before, inside); profile = round.in_grid.profile };
              in_tile = ap (λ (part : ℕ). q.y / t * tiles_across s t + part) parts ∙ round.in_tile;
              columns = (omega arith, omega arith);
              rows = round.rows;
            })
      ]
    ]

module _ (m : Map) (y : ℕ) (heights : List (Option ℤ)) (t : ℕ) where
  abbrev Round : ℕ → ℕ → ℕ → Type 0
  Round from to tile = IsRoundChange m y heights t from to tile

  abbrev Here : ℕ → ℕ → Type 0
  Here x tile = IsRound m.size t tile (record { x = x; y = y })

  -- no tile holds a point that becomes another where none does
  pub AllStay-none_round : (from to tile : ℕ) → AllStay m y heights from to → Round from to tile → ⊥
  AllStay-none_round from to tile stay round = round.changes (stay round.column round.not_before round.below)

  -- in a part the tiles are those round the first and the last point that becomes another
  module _ (k to first last : ℕ) (part : to ≤ k * t + t) (inside : to ≤ m.size.points) (is_first : IsFirstChange m y heights (k * t) to first) (is_last : IsLastChange m y heights first to last) where
    at_ends : (tile : ℕ) → Round (k * t) to tile → Here first tile ⊎ Here last tile
    at_ends tile round =
        let x : ℕ = round.column in
        let after : first ≤ x = elim (cases_lt x first) [
          | inl earlier ↦ absurd (round.changes (is_first.before x round.not_before earlier))
          | inr not_earlier ↦ not_earlier
        ] in
        let before : x ≤ last = elim (cases_lt last x) [
          | inl later ↦ absurd (round.changes (is_last.after x (omega (arith, later)) round.below))
          | inr not_later ↦ not_later
        ] in
        round_of_ends m.size t k tile y first x last is_first.not_before after before (omega (arith, is_last.below, part)) (omega (arith, is_last.below, inside)) round.round

    from_ends : (tile : ℕ) → Here first tile ⊎ Here last tile → Round (k * t) to tile
    from_ends tile (inl here) = record { column = first; not_before = is_first.not_before; below = is_first.below; changes = is_first.changes; round = here }
    from_ends tile (inr here) = record {
      column = last;
      not_before = (let low = is_first.not_before in let more = is_last.not_before in omega
          (arith, low, more));
      below = is_last.below;
      changes = is_last.changes;
      round = here;
    }

    -- stamped one after the other
    pub AreStamped-part : (stamp : ℕ) (xs ys zs : List ℕ) → AreStamped (Here first) stamp xs ys → AreStamped (Here last) stamp ys zs → AreStamped (Round (k * t) to) stamp xs zs
    AreStamped-part stamp xs ys zs one other =
        AreStamped-as stamp (λ tile. Here first tile ⊎ Here last tile) xs zs (AreStamped-onward stamp (Here first) (Here last) xs ys zs one other) (Round (k * t) to)
        (λ tile within. at_ends tile) from_ends

  -- the tiles of the columns before, and those of a part, are those of both
  pub AreStamped-parts : (middle to stamp : ℕ) (xs ys zs : List ℕ) → middle ≤ to → AreStamped (Round 0 middle) stamp xs ys → AreStamped (Round middle to) stamp ys zs
      → AreStamped (Round 0 to) stamp xs zs
  AreStamped-parts middle to stamp xs ys zs up before part =
      AreStamped-as stamp (λ tile. Round 0 middle tile ⊎ Round middle to tile) xs zs (AreStamped-onward stamp (Round 0 middle) (Round middle to) xs ys zs before part) (Round 0 to)
      (λ tile within round. elim (cases_lt round.column middle) [
        | inl early ↦ inl (record { column = round.column; not_before = omega arith; below = early; changes = round.changes; round = round.round })
        | inr late ↦ inr (record { column = round.column; not_before = late; below = round.below; changes = round.changes; round = round.round })
      ])
      (λ tile either. elim either [
        | inl round ↦ record { column = round.column; not_before = omega arith; below = (let low = round.below in omega (arith, low, up)); changes = round.changes; round = round.round }
        | inr round ↦ record { column = round.column; not_before = omega arith; below = round.below; changes = round.changes; round = round.round }
      ])

  -- where the cells of both stay, all do
  pub AllStay-all : (middle to : ℕ) → AllStay m y heights 0 middle → AllStay m y heights middle to → AllStay m y heights 0 to
  AllStay-all middle to before part = λ x from below. elim (cases_lt x middle) [ inl early ↦ before x from early | inr late ↦ part x late below ]

  -- the tiles round the first and the last point of a part, as they are found
  pub AreStamped-ends : (s : Size) (k from to first last : ℕ) → s ≡ m.size → from ≡ k * t → to ≡ min s.points (k * t + t) → IsFirstChange m y heights from to first
      → IsLastChange m y heights first to last
      → (stamp : ℕ) (xs ys zs : List ℕ) → AreStamped (λ tile. IsRound s t tile (record { x = first; y = y })) stamp xs ys
      → AreStamped (λ tile. IsRound s t tile (record { x = last; y = y })) stamp ys zs
      → AreStamped (Round (k * t) (min s.points (k * t + t))) stamp xs zs
  AreStamped-ends s k from to first last same from_is to_is is_first is_last stamp xs ys zs one other =
      let long : s.points ≡ m.size.points = ap (λ (z : Size). z.points) same in
      subst (λ (j : ℕ). AreStamped (Round (k * t) j) stamp xs zs) to_is (AreStamped-part k to first last (omega (arith, to_is)) (omega (arith, to_is, long))
      (subst (λ (j : ℕ). IsFirstChange m y heights j to first) from_is is_first) is_last stamp xs ys zs
      (subst (λ (z : Size). AreStamped (λ tile. IsRound z t tile (record { x = first; y = y })) stamp xs ys) same one)
      (subst (λ (z : Size). AreStamped (λ tile. IsRound z t tile (record { x = last; y = y })) stamp ys zs) same other))

  some_found : (points : ℕ) (some more : Bool) → OnTrue more (SomeChanges m y heights points) → (some ≡ true → SomeChanges m y heights points) → (more || some) ≡ true → SomeChanges m y heights points
  some_found points some true found before e = found
  some_found points some false found before e = before e

  none_found : (middle to : ℕ) (some more : Bool) → OnFalse more (AllStay m y heights middle to) → (some ≡ false → AllStay m y heights 0 middle) → (more || some) ≡ false → AllStay m y heights 0 to
  none_found middle to some true none before e = absurd (cc e)
  none_found middle to some false none before e = AllStay-all middle to (before e) none

  module _ (points stamp : ℕ) (xs : List ℕ) where
    -- the first parts of the profile are stamped, and whether a point of them becomes another is told
    pub record AreToldTo (k : ℕ) (some : Bool) (ys : List ℕ) : Type 0 where
      pub stamped : AreStamped (Round 0 (min points (k * t))) stamp xs ys
      pub found : some ≡ true → SomeChanges m y heights points
      pub none : some ≡ false → AllStay m y heights 0 (min points (k * t))

    -- no part yet
    pub AreToldTo-none : AreToldTo 0 false xs
    AreToldTo-none = record {
      stamped = AreStamped-as stamp (λ tile. ⊥) xs xs (AreStamped-none stamp xs) (Round 0 (min points (0 * t))) (λ tile within round. (let low = round.below in omega (arith, low)))
          (λ tile no. absurd no);
      found = λ e. absurd (cc e);
      none = λ e x from below. absurd (omega (arith, below));
    }

    -- one part more
    pub AreToldTo-more : (k : ℕ) (some more : Bool) (ys zs : List ℕ) → k * t < points → AreStamped (Round (k * t) (min points (k * t + t))) stamp ys zs
        → OnTrue more (SomeChanges m y heights points) → OnFalse more (AllStay m y heights (k * t) (min points (k * t + t))) → AreToldTo k some ys → AreToldTo (k + 1) (more || some) zs
    AreToldTo-more k some more ys zs inside part found none before =
        let middle : min points (k * t) ≡ k * t = omega (arith, inside) in
        let next : min points (k * t + t) ≡ min points ((k + 1) * t) = omega arith in
        let up : k * t ≤ min points ((k + 1) * t) = omega (arith, inside) in
        record {
          stamped = AreStamped-parts (k * t) (min points ((k + 1) * t)) stamp xs ys zs up (subst (λ (j : ℕ). AreStamped (Round 0 j) stamp xs ys) middle before.stamped)
              (subst (λ (j : ℕ). AreStamped (Round (k * t) j) stamp ys zs) next part);
          found = some_found points some more found before.found;
          none = none_found (k * t) (min points ((k + 1) * t)) some more (subst (λ (j : ℕ). OnFalse more (AllStay m y heights (k * t) j)) next none)
              (λ e. subst (AllStay m y heights 0) middle (before.none e));
        }

    -- all parts
    pub AreToldTo-all : (k : ℕ) (some : Bool) (ys : List ℕ) → 1 ≤ t → tiles_along points t ≤ k → AreToldTo k some ys
        → AreStamped (Round 0 points) stamp xs ys × OnTrue some (SomeChanges m y heights points) × OnFalse some (AllStay m y heights 0 points)
    AreToldTo-all k some ys wide done told =
        let all : min points (k * t) ≡ points = omega (arith, wide, mul-le-mul_left t done) in (
          subst (λ (j : ℕ). AreStamped (Round 0 j) stamp xs ys) all told.stamped,
          OnTrue_from some (SomeChanges m y heights points) told.found,
          OnFalse_from some (AllStay m y heights 0 points) (λ e. subst (AllStay m y heights 0) all (told.none e)),
        )
