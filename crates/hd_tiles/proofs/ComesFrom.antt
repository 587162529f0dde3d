-- What a change of a map in tiles leaves.
use Rattle.std.proofs.Common.{◌≡◌, ◌≢◌, ◌<◌, ℕ, ℤ, ◌+◌, ◌⊎◌, inl, inr, Bool, false, List, Option, Some, None, get_or, set, refl, sym, ◌∙◌, ap, subst, arith}
use Rattle.std.proofs.lemmas.Bool.{cases_eq}
use Rattle.std.proofs.lemmas.Int.{by_lt_z, ints}
use Rattle.std.proofs.lemmas.List.{get_or-set_same, get_or-set_other, set-get_or}
use Rattle.std.proofs.lemmas.Option.{same_Some}
use Rattle.hd_map.specs.declared.types.Adjacency.{Adjacency}
use Rattle.hd_map.specs.declared.types.Pos.{Pos}
use Rattle.hd_map.specs.declared.types.Size.{Size}
use Rattle.hd_map.specs.declared.types.Cell.{Cell}
use Rattle.hd_map.specs.declared.types.Cell.TheVariants.{Height, Bad}
use Rattle.hd_map.specs.Map.{Map, IsMap, IsCellOf, InGrid, cell_at, mask_at, place_of}
use Rattle.hd_map.specs.Sets.{cell_with, cell_with_heights, with_cell, with_heights, with_mask, under}
use Rattle.hd_map.proofs.Points.{same_place, place_inside}
use Rattle.hd_map.proofs.Sets.{cell_at_heights, cell_in_profile, cell_off_profile, heights_same}
use Rattle.hd_tiles.specs.Profile.{AllStay, Changes, IsRoundChange, SomeChanges}
use Rattle.hd_tiles.specs.Tile.{IsRound, Agree}
use Rattle.hd_tiles.specs.Stamps.{ComesFrom, AreUpTo, Rise, Touches, TouchesRound, TouchesProfile, TouchesAll, AreStamped}
use Rattle.hd_tiles.proofs.Stamping.{AreStamped-as}

-- a map in a tile that neither holds the position nor one round it is left by a change at the position
module _ (m : Map) (t tile : ℕ) (p : Pos) (inside : InGrid m.size p) (far : IsRound m.size t tile p → ⊥) where
  other_place : (q : Pos) → InGrid m.size q → IsRound m.size t tile q → place_of m.size q ≢ place_of m.size p
  other_place q within round e = far (let same : q ≡ p = same_place m.size q p within inside e in rw (← same) round)

  pub with_cell-leaves : (c : Cell) → Agree m (with_cell m p c) t tile
  with_cell-leaves c = record {
    size = refl;
    adjacency = refl;
    cells = λ q within round. sym (get_or-set_other m.cells (place_of m.size p) (place_of m.size q) c Bad (other_place q within round));
    masks = λ q within round. refl;
  }

  pub with_mask-leaves : (b : Bool) → Agree m (with_mask m p b) t tile
  with_mask-leaves b = record {
    size = refl;
    adjacency = refl;
    cells = λ q within round. refl;
    masks = λ q within round. sym (get_or-set_other m.masks (place_of m.size p) (place_of m.size q) b false (other_place q within round));
  }

-- to set what stands there leaves the map
pub with_cell-stands : (m : Map) (p : Pos) (c : Cell) → IsMap m → InGrid m.size p → c ≡ cell_at m p → InGrid m.size p × IsCellOf m.data_type c × (m ≡ with_cell m p c)
with_cell-stands m p c whole inside same =
    let place = place_of m.size p in
    let below = place_inside m.size p inside in
    let cells : set m.cells place c ≡ m.cells = ap (λ (x : Cell). set m.cells place x) same ∙ set-get_or m.cells place Bad in
    (inside, subst (IsCellOf m.data_type) (sym same) (whole.heights place (rw whole.cells below)), ap (λ (xs : List Cell). record m { cells = xs }) (sym cells))

pub with_mask-stands : (m : Map) (p : Pos) (b : Bool) → InGrid m.size p → b ≡ mask_at m p → InGrid m.size p × (m ≡ with_mask m p b)
with_mask-stands m p b inside same =
    let place = place_of m.size p in
    let masks : set m.masks place b ≡ m.masks = ap (λ (x : Bool). set m.masks place x) same ∙ set-get_or m.masks place false in
    (inside, ap (λ (xs : List Bool). record m { masks = xs }) (sym masks))

-- whether a cell becomes another by a new height
cases_stay : (new : Option ℤ) (old : Cell) → (cell_with new old ≡ old) ⊎ (cell_with new old ≡ old → ⊥)
cases_stay None old = inl refl
cases_stay (Some z) Bad = inr (λ e. absurd (cc e))
cases_stay (Some z) (Height h) = by_lt_z z h
    (λ below. inr (λ e. let same : z ≡ h = cc in omega (arith, ints, below, same)))
    (λ not_below. by_lt_z h z
    (λ above. inr (λ e. let same : z ≡ h = cc in omega (arith, ints, above, same)))
    (λ not_above. inl (ap Height (omega (arith, ints, not_below, not_above)))))

-- heights by which no cell of the profile becomes another leave the map
pub with_heights-stands : (m : Map) (y : ℕ) (heights : List (Option ℤ)) (points : ℕ) → IsMap m → points ≡ m.size.points → AllStay m y heights 0 points → m ≡ with_heights m y heights
with_heights-stands m y heights points whole same stay = sym (heights_same m y whole heights (λ x below. stay x (omega arith) (rw same below)))

-- the stamps of touched tiles were not above the count, and are one above it now
module _ (Touched : ℕ → Type 0) (count : ℕ) (before after : List ℕ) (low : AreUpTo count before) (stamped : AreStamped Touched (count + 1) before after) where
  pub AreUpTo-changes : AreUpTo (count + 1) after
  AreUpTo-changes tile stamp read = elim (stamped.either tile) [
    | inl new ↦ (let e = same_Some stamp (count + 1) (sym read ∙ new) in omega (arith, e))
    | inr old ↦ (let below = low tile stamp (sym old ∙ read) in omega (arith, below))
  ]

  rise : Rise Touched (count + 1) before after
  rise = record {
    whole = stamped.whole;
    above = λ tile was here had. (let below = low tile was had in omega (arith, below));
    touched = stamped.touched;
    others = stamped.others;
  }

  -- a change of the map touches them
  pub Touches-changed : (old new : Map) → (new ≡ old → ⊥) → Touches Touched old new count (count + 1) before after
  Touches-changed old new differs = record { same = λ e. absurd (differs e); counted = λ _. refl; changed = λ _. rise }

  -- it comes from the map before where the tiles that are not touched are left
  pub ComesFrom-changed : (old new : Map) (t : ℕ) → old.size ≡ new.size → ((tile : ℕ) → (Touched tile → ⊥) → Agree old new t tile) → ComesFrom old t before new t after
  ComesFrom-changed old new t size leaves = record {
    size = size;
    same_side = refl;
    not_less = λ tile was now had has. (
        let below = low tile was had in
        elim (stamped.either tile) [
          | inl new ↦ (let e = same_Some now (count + 1) (sym has ∙ new) in omega (arith, e, below))
          | inr same ↦ (let e = same_Some now was (sym has ∙ same ∙ had) in omega (arith, e))
        ]);
    stays = λ tile stamp had has. leaves tile (λ here. (
        let e = stamped.touched tile stamp here has in
        let below = low tile stamp had in
        absurd (omega (arith, e, below))));
  }

-- a cell or a mask is set to another one, or the setting, and the tiles that this touches are stamped
module _ (old new : Map) (t count : ℕ) (before after : List ℕ) (low : AreUpTo count before) where
  module _ (s : Size) (p : Pos) (same : s ≡ old.size) (whole : IsMap old) (inside : InGrid old.size p) (stamped : AreStamped (λ tile. IsRound s t tile p) (count + 1) before after) where
    abbrev Here : ℕ → Type 0
    Here tile = IsRound old.size t tile p

    here : AreStamped Here (count + 1) before after
    here = subst (λ (z : Size). AreStamped (λ tile. IsRound z t tile p) (count + 1) before after) same stamped

    module _ (c : Cell) (is : new ≡ with_cell old p c) (other : c ≡ cell_at old p → ⊥) where
      cell_differs : new ≡ old → ⊥
      cell_differs e =
          let there : cell_at (with_cell old p c) p ≡ c = get_or-set_same old.cells (place_of old.size p) c Bad (rw whole.cells (place_inside old.size p inside)) in
          other (sym there ∙ ap (λ (m : Map). cell_at m p) (sym is ∙ e))

      pub ComesFrom-cell : ComesFrom old t before new t after
      ComesFrom-cell = ComesFrom-changed Here count before after low here old new t (ap (λ (m : Map). m.size) (sym is))
          (λ tile far. subst (λ (m : Map). Agree old m t tile) (sym is) (with_cell-leaves old t tile p inside far c))

      pub TouchesRound-cell : TouchesRound t p old new count (count + 1) before after
      TouchesRound-cell = Touches-changed Here count before after low here old new cell_differs

    module _ (b : Bool) (is : new ≡ with_mask old p b) (other : b ≡ mask_at old p → ⊥) where
      mask_differs : new ≡ old → ⊥
      mask_differs e =
          let there : mask_at (with_mask old p b) p ≡ b = get_or-set_same old.masks (place_of old.size p) b false (rw whole.masks (place_inside old.size p inside)) in
          other (sym there ∙ ap (λ (m : Map). mask_at m p) (sym is ∙ e))

      pub ComesFrom-mask : ComesFrom old t before new t after
      ComesFrom-mask = ComesFrom-changed Here count before after low here old new t (ap (λ (m : Map). m.size) (sym is))
          (λ tile far. subst (λ (m : Map). Agree old m t tile) (sym is) (with_mask-leaves old t tile p inside far b))

      pub TouchesRound-mask : TouchesRound t p old new count (count + 1) before after
      TouchesRound-mask = Touches-changed Here count before after low here old new mask_differs

  module _ (whole : IsMap old) (y : ℕ) (heights : List (Option ℤ)) (points : ℕ) (same : points ≡ old.size.points) (is : new ≡ with_heights old y heights)
      (stamped : AreStamped (IsRoundChange old y heights t 0 points) (count + 1) before after) where
    -- the new cell at a column of the profile
    cell_new : (x : ℕ) → InGrid old.size (record { x = x; y = y }) → cell_at new (record { x = x; y = y }) ≡ cell_with (get_or heights x None) (cell_at old (record { x = x; y = y }))
    cell_new x inside = ap (λ (m : Map). cell_at m (record { x = x; y = y })) is ∙ cell_at_heights old y heights (record { x = x; y = y }) inside
        ∙ cell_in_profile old y heights (record { x = x; y = y }) refl

    -- the cells in a tile that is not touched stay
    cell_stays : (tile : ℕ) → (IsRoundChange old y heights t 0 points tile → ⊥) → (q : Pos) → InGrid old.size q → IsRound old.size t tile q → cell_with_heights old y heights q ≡ cell_at old q
    cell_stays tile far q within round = elim (cases_eq q.y y) [
      | inr other ↦ cell_off_profile old y heights q other
      | inl row ↦ cell_in_profile old y heights q row ∙ elim (cases_stay (get_or heights q.x None) (cell_at old q)) [
        | inl stays ↦ stays
        | inr changes ↦ absurd (far (record {
          column = q.x;
          not_before = omega arith;
          below = rw same within.column;
          changes = subst (λ (j : ℕ). Changes old j heights q.x) row changes;
          round = subst (λ (j : ℕ). IsRound old.size t tile (record { x = q.x; y = j })) row round;
        }))
      ]
    ]

    profile_leaves : (tile : ℕ) → (IsRoundChange old y heights t 0 points tile → ⊥) → Agree old (with_heights old y heights) t tile
    profile_leaves tile far = record {
      size = refl;
      adjacency = refl;
      cells = λ q within round. sym (cell_at_heights old y heights q within ∙ cell_stays tile far q within round);
      masks = λ q within round. refl;
    }

    pub ComesFrom-profile : ComesFrom old t before new t after
    ComesFrom-profile =
        ComesFrom-changed (IsRoundChange old y heights t 0 points) count before after low stamped old new t (ap (λ (m : Map). m.size) (sym is))
        (λ tile far. subst (λ (m : Map). Agree old m t tile) (sym is) (profile_leaves tile far))

    abbrev AtProfile : ℕ → Type 0
    AtProfile tile = (p : Pos) × InGrid old.size p × (p.y ≡ y) × (cell_at new p ≢ cell_at old p) × IsRound old.size t tile p

    module _ (row : y < old.size.profiles) where
      in_row : (x : ℕ) → x < points → InGrid old.size (record { x = x; y = y })
      in_row x below = record { column = rw (← same) below; profile = row }

      at_profile : (tile : ℕ) → IsRoundChange old y heights t 0 points tile → AtProfile tile
      at_profile tile r = (record { x = r.column; y = y }, in_row r.column r.below, refl, (λ e. r.changes (sym (cell_new r.column (in_row r.column r.below)) ∙ e)), r.round)

      from_profile : (tile : ℕ) → AtProfile tile → IsRoundChange old y heights t 0 points tile
      from_profile tile at =
          let p : Pos = at.0 in
          let here : record { x = p.x; y = y } ≡ p = ap (λ (j : ℕ). record { x = p.x; y = j }) (sym at.2) in
          let below : p.x < points = rw same at.1.column in
          record {
            column = p.x;
            not_before = omega arith;
            below = below;
            changes = λ stays. at.3 (subst (λ (q : Pos). cell_at new q ≡ cell_at old q) here (cell_new p.x (in_row p.x below) ∙ stays));
            round = subst (λ (q : Pos). IsRound old.size t tile q) (sym here) at.4;
          }

      -- the map becomes another where a cell does
      pub SomeChanges-differs : SomeChanges old y heights points → new ≡ old → ⊥
      SomeChanges-differs some e =
          some.changes (sym (cell_new some.column (in_row some.column some.below)) ∙ ap (λ (m : Map). cell_at m (record { x = some.column; y = y })) e)

      pub TouchesProfile-profile : SomeChanges old y heights points → TouchesProfile t y old new count (count + 1) before after
      TouchesProfile-profile some =
          Touches-changed AtProfile count before after low (AreStamped-as (count + 1) (IsRoundChange old y heights t 0 points) before after stamped AtProfile
          (λ tile within. from_profile tile) at_profile) old new (SomeChanges-differs some)

  module _ (stamped : AreStamped (λ tile. Unit {0}) (count + 1) before after) (a : Adjacency) (is : new ≡ under a old) (other : a ≡ old.adjacency → ⊥) where
    setting_differs : new ≡ old → ⊥
    setting_differs e = other (ap (λ (m : Map). m.adjacency) (sym is ∙ e))

    pub ComesFrom-setting : ComesFrom old t before new t after
    ComesFrom-setting = ComesFrom-changed (λ tile. Unit {0}) count before after low stamped old new t (ap (λ (m : Map). m.size) (sym is)) (λ tile far. absurd (far tt))

    pub TouchesAll-setting : TouchesAll old new count (count + 1) before after
    TouchesAll-setting = Touches-changed (λ tile. Unit {0}) count before after low stamped old new setting_differs
