-- The descents from all points of a profile are those from the points of the columns that are listed.
use Rattle.std.proofs.Common.{◌≡◌, ◌<◌, ◌+◌, ◌⊎◌, ℕ, Bool, true, false, List, [], length, inl, inr, ap, sym, subst, refl, arith}
use Rattle.std.specs.Prelude.{Contains}
use Rattle.std.proofs.lemmas.Bool.{OnFalse_at, cases_Bool}
use Rattle.hd_map.specs.declared.types.Pos.{Pos}
use Rattle.hd_map.specs.declared.types.Rank.{Rank}
use Rattle.hd_map.specs.declared.types.SideName.{SideName}
use Rattle.hd_map.specs.Encoding.{Encoding}
use Rattle.hd_map.specs.Map.{Map, IsMap, Present}
use Rattle.hd_map.specs.Rank.{rank}
use Rattle.hd_map.specs.Region.{LowerNeighbour}
use Rattle.hd_steep.specs.declared.descent.Descent.{Descent}
use Rattle.hd_steep.specs.declared.lower_places.LowerPlaces.{LowerPlaces}
use Rattle.hd_steep.specs.declared.rolling.Rows.{Rows}
use Rattle.hd_steep.specs.Descended.{Descends}
use Rattle.hd_steep.specs.Descents.{IsReached}
use Rattle.hd_steep.specs.KeyRows.{AreRowsRound}
use Rattle.hd_steep.specs.LowerPlaces.{AreListedBefore, AreLowerPlaces, AreSeveral, lower_round}
use Rattle.hd_steep.specs.Ring.{is_marked}
use Rattle.hd_steep.proofs.Descended.{descends_join, descends_none, descends_same, reached_at}
use Rattle.hd_steep.proofs.ShownKeys.{present_shown, shown_present}

module _ (m : Map) (side : SideName) (whole : IsMap m) {L : Type 0} (code : Encoding L) (y : ℕ) (profile : y < m.size.profiles) (rows : Rows L) (round : AreRowsRound code side m y rows)
    (places : LowerPlaces) (lower : AreLowerPlaces code side m.size.points rows places) (several : List Bool) (sized : length several ≡ m.size.points)
    (tells : AreSeveral m.adjacency places several) (columns : List ℕ) (listed : AreListedBefore code rows.level.keys.items several (length several) columns) where
  -- at each of the columns a point is present
  pub listed_present : (x : ℕ) → Contains columns x → Present m (record { x = x; y = y })
  listed_present x held =
      let inside = listed.inside x held in
      let at : Pos = record { x = x; y = y } in
      shown_present m side whole code (y + 1) rows.level round.level at (record { column = omega (arith, inside, sized); profile = profile }) refl (listed.shown x held)

  module _ (u : Pos) (same : u.y ≡ y) (here : Present m u) where
    -- a marked point is listed
    marked_listed : is_marked several u.x ≡ true → Contains columns u.x
    marked_listed marked =
        let column = here.in_grid.column in
        listed.all u.x (omega (arith, column, sized)) marked (present_shown m side whole code (y + 1) rows.level round.level u here.in_grid (ap (λ i. i + 1) same) here)

    -- all lower neighbours of one that is not are reached
    reached_alone : (list : List Descent) → is_marked several u.x ≡ false → (z : Rank) → LowerNeighbour m side (rank m u) z → IsReached m side list (rank m u) z
    reached_alone list not =
        let column = here.in_grid.column in
        let around : AreRowsRound code side m u.y rows = subst (λ i. AreRowsRound code side m i rows) (sym same) round in
        reached_at m side whole code rows u here around (lower_round places u.x) (lower.each u.x column) list (OnFalse_at not (tells u.x (omega (arith, column, sized)))) u refl here

  -- so the descents from the columns are those from all points
  pub descends_all : (new : List Descent) → Descends m side (λ u. (u.y ≡ y) × Contains columns u.x) [] new → Descends m side (λ u. u.y ≡ y) [] new
  descends_all new descends =
      let Listed : Pos → Type 0 = λ u. (u.y ≡ y) × Contains columns u.x in
      let Alone : Pos → Type 0 = λ u. (u.y ≡ y) × (is_marked several u.x ≡ false) in
      descends_same m side (λ u. Listed u ⊎ Alone u) (λ u. u.y ≡ y) [] new
      (λ u here chosen. elim chosen [ inl one ↦ one.0 | inr other ↦ other.0 ])
      (λ u here same. elim (cases_Bool (is_marked several u.x)) [
        | inl marked ↦ inl (same, marked_listed u same here marked)
        | inr not ↦ inr (same, not)
      ])
      (descends_join m side Listed Alone [] new new descends (descends_none m side Alone new (λ u chosen here. reached_alone u chosen.0 here new chosen.1)))
