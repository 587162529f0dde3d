-- By column which of the eight places round it are lower than the point there.
use Rattle.std.proofs.Common.{◌≡◌, ◌<◌, ◌≤◌, ◌+◌, ◌-◌, ◌++◌, ◌&&◌, ℕ, Bool, true, false, List, [], ◌∷◌, length, get_or, set, take, drop, inl, inr, ◌∙◌, sym, ap, subst, refl, length-append, arith}
use Rattle.std.specs.Prelude.{Contains, is_some, if◌then◌else◌}
use Rattle.std.proofs.lemmas.Bool.{and_from, and_parts, both_ways, cases_eq}
use Rattle.std.proofs.lemmas.List.Elements.{Contains-push, Contains-push_cases, Contains-append_left}
use Rattle.std.proofs.lemmas.List.{get_or_default, get_or-take, get_or-drop}
use Rattle.hd_map.specs.declared.types.Rank.{Rank}
use Rattle.hd_map.specs.declared.types.SideName.{SideName}
use Rattle.hd_map.specs.Encoding.{Encoding, number_in}
use Rattle.hd_map.proofs.Items.{Contains-none}
use Rattle.hd_steep.specs.declared.lower_places.LowerPlaces.{LowerPlaces}
use Rattle.hd_steep.specs.declared.rolling.Rows.{Rows}
use Rattle.hd_steep.specs.declared.row.Row.{Row}
use Rattle.hd_steep.specs.KeyRows.{ranks_of}
use Rattle.hd_steep.specs.Keys.{IsKey, rank_of}
use Rattle.hd_steep.specs.LowerPlaces.{AreEarlierBelow, AreLaterBelow, AreListedBefore, AreLowerPlaces, AreTested, AreWide, HasColumns, IsWide}
use Rattle.hd_steep.specs.Lowest.{earlier_below, later_below}
use Rattle.hd_steep.specs.Ring.{is_marked}
use Rattle.hd_steep.specs.Rows.{rank_in}
use Rattle.hd_steep.proofs.Keys.{rank_at_key}
use Rattle.hd_steep.proofs.Marks.{marks_more}

module _ {L : Type 0} (code : Encoding L) (keys : List L) (shift width : ℕ) (room : shift + width ≤ length keys) where
  -- what is read in a part of a row is a key of the row
  part_at : (x : ℕ) (key : L) → x < width → key ≡ get_or (take (shift + width - shift) (drop shift keys)) x key → key ≡ number_in code keys (x + shift)
  part_at x key inside read =
      read ∙ get_or-take (shift + width - shift) (drop shift keys) x key (omega (arith, inside)) ∙ get_or-drop shift keys x key
      ∙ get_or_default keys (shift + x) key code.missing (omega (arith, inside, room)) ∙ ap (number_in code keys) (omega arith)

-- so it is where the row is wide enough, and is a key then
pub wide_at : {L : Type 0} → (code : Encoding L) (columns shift : ℕ) (keys : List L) → IsWide code columns keys → shift ≤ 2 → (x : ℕ) (key : L) → x < columns
    → key ≡ get_or (take (shift + columns - shift) (drop shift keys)) x key → (key ≡ number_in code keys (x + shift)) × IsKey code key
wide_at code columns shift keys wide near x key inside read =
    let long = wide.whole in
    let is : key ≡ number_in code keys (x + shift) = part_at code keys shift columns (omega (arith, long, near)) x key inside read in
    (is, subst (IsKey code) (sym is) (wide.each (x + shift)))

-- one more column is tested
pub tested_more : {L : Type 0} → (code : Encoding L) (side : SideName) (below : Rank → Rank → Bool) (keys : List L) (shift : ℕ) (level : List L) (marks : List Bool) (x : ℕ)
    (key own : L) (mark : Bool) → x < length marks
    → key ≡ number_in code keys (x + shift) → own ≡ number_in code level (x + 1) → ((i j : ℕ) → mark ≡ below (rank_of code side i key) (rank_of code side j own))
    → AreTested code side below keys shift level x marks → AreTested code side below keys shift level (x + 1) (set marks x mark)
tested_more code side below keys shift level marks x key own mark inside key_is own_is told before =
    marks_more (λ k b. (i j : ℕ) → b ≡ below (rank_of code side i (number_in code keys (k + shift))) (rank_of code side j (number_in code level (k + 1)))) marks x mark inside before
    (λ i j. rw (← key_is, ← own_is) (told i j))

module _ {L : Type 0} (code : Encoding L) (side : SideName) (columns : ℕ) (rows : Rows L) (wide : AreWide code columns rows) (x : ℕ) (inside : x < columns) where
  -- the rank in the middle
  own : rank_in (ranks_of code side rows.level) (x + 1) ≡ rank_of code side (rows.level.first + (x + 1) - 1) (number_in code rows.level.keys.items (x + 1))
  own = rank_at_key code side rows.level.first rows.level.keys.items (x + 1) (let w = wide.level.whole in omega (arith, inside, w))

  module _ (row : Row L) (shift : ℕ) (lower : List Bool) (long : length row.keys.items ≡ columns + 2) (near : shift ≤ 2) (whole : length lower ≡ columns) where
    -- the rank so much further on
    other : rank_in (ranks_of code side row) (x + shift) ≡ rank_of code side (row.first + (x + shift) - 1) (number_in code row.keys.items (x + shift))
    other = rank_at_key code side row.first row.keys.items (x + shift) (omega (arith, inside, long, near))

    -- what is told of the keys is told of the ranks
    pub earlier_told : AreEarlierBelow code side row.keys.items shift rows.level.keys.items lower
        → is_marked lower x ≡ earlier_below side (rank_in (ranks_of code side row) (x + shift)) (rank_in (ranks_of code side rows.level) (x + 1))
    earlier_told told = rw (other, own) (told x (omega (arith, inside, whole)) (row.first + (x + shift) - 1) (rows.level.first + (x + 1) - 1))

    pub later_told : AreLaterBelow code side row.keys.items shift rows.level.keys.items lower
        → is_marked lower x ≡ later_below side (rank_in (ranks_of code side row) (x + shift)) (rank_in (ranks_of code side rows.level) (x + 1))
    later_told told = rw (other, own) (told x (omega (arith, inside, whole)) (row.first + (x + shift) - 1) (rows.level.first + (x + 1) - 1))

module _ {L : Type 0} (code : Encoding L) (side : SideName) (columns : ℕ) (rows : Rows L) where
  -- what is told of the keys at each of the eight places
  pub record AreTold (places : LowerPlaces) : Type 0 where
    pub north : AreEarlierBelow code side rows.above.keys.items 1 rows.level.keys.items places.north.items
    pub north_east : AreEarlierBelow code side rows.above.keys.items 2 rows.level.keys.items places.north_east.items
    pub east : AreLaterBelow code side rows.level.keys.items 2 rows.level.keys.items places.east.items
    pub south_east : AreLaterBelow code side rows.below.keys.items 2 rows.level.keys.items places.south_east.items
    pub south : AreLaterBelow code side rows.below.keys.items 1 rows.level.keys.items places.south.items
    pub south_west : AreLaterBelow code side rows.below.keys.items 0 rows.level.keys.items places.south_west.items
    pub west : AreEarlierBelow code side rows.level.keys.items 0 rows.level.keys.items places.west.items
    pub north_west : AreEarlierBelow code side rows.above.keys.items 0 rows.level.keys.items places.north_west.items

  -- tells it of the ranks round each column
  pub all_told : (places : LowerPlaces) → AreWide code columns rows → HasColumns columns places → AreTold places → AreLowerPlaces code side columns rows places
  all_told places wide sized told = record {
    sized = sized;
    each = λ x inside.
        let earlier = earlier_told code side columns rows wide x inside in
        let later = later_told code side columns rows wide x inside in
        let zero : x + 0 ≡ x = omega arith in
        let above = wide.above.whole in
        let level = wide.level.whole in
        let below = wide.below.whole in
        rw (
          earlier rows.above 1 places.north.items above (omega arith) sized.north told.north,
          earlier rows.above 2 places.north_east.items above (omega arith) sized.north_east told.north_east,
          later rows.level 2 places.east.items level (omega arith) sized.east told.east,
          later rows.below 2 places.south_east.items below (omega arith) sized.south_east told.south_east,
          later rows.below 1 places.south.items below (omega arith) sized.south told.south,
          rw zero at (later rows.below 0 places.south_west.items below (omega arith) sized.south_west told.south_west),
          rw zero at (earlier rows.level 0 places.west.items level (omega arith) sized.west told.west),
          rw zero at (earlier rows.above 0 places.north_west.items above (omega arith) sized.north_west told.north_west),
        ) refl;
  }

module _ {L : Type 0} (code : Encoding L) (level : List L) (marks : List Bool) where
  -- whether the key of a column is shown
  abbrev is_shown : ℕ → Bool
  is_shown x = is_some (code.shown (number_in code level (x + 1)))

  -- no column is listed before the first
  pub listed_none : AreListedBefore code level marks 0 []
  listed_none = record { inside = λ x h. absurd (Contains-none x h); shown = λ x h. absurd (Contains-none x h); all = λ x below. absurd (omega (arith, below)); few = omega arith }

  -- and one column more
  pub listed_more : (n : ℕ) (columns : List ℕ) (listed : Bool) → listed ≡ is_marked marks n && is_shown n → AreListedBefore code level marks n columns
      → AreListedBefore code level marks (n + 1) (if listed then columns ++ n ∷ [] else columns)
  listed_more n columns true is before =
      let here = and_parts (is_marked marks n) (is_shown n) (sym is) in
      record {
        inside = λ x h. elim (Contains-push_cases columns n x h) [
          | inl old ↦ let less = before.inside x old in omega (arith, less)
          | inr same ↦ omega (arith, same)
        ];
        shown = λ x h. elim (Contains-push_cases columns n x h) [
          | inl old ↦ before.shown x old
          | inr same ↦ subst (λ i. is_shown i ≡ true) same here.1
        ];
        all = λ x below marked shown. elim (cases_eq x n) [
          | inl same ↦ subst (Contains (columns ++ n ∷ [])) (sym same) (Contains-push columns n)
          | inr other ↦ Contains-append_left columns (n ∷ []) x (before.all x (omega (arith, below, other)) marked shown)
        ];
        few = (let few = before.few in let one = length-append columns (n ∷ []) in omega (arith, few, one));
      }
  listed_more n columns false is before = record {
    inside = λ x h. (let less = before.inside x h in omega (arith, less));
    shown = before.shown;
    all = λ x below marked shown. elim (cases_eq x n) [
      | inl same ↦
          let both = and_from (is_marked marks n) (is_shown n) (subst (λ i. is_marked marks i ≡ true) same marked) (subst (λ i. is_shown i ≡ true) same shown) in
          absurd (both_ways (is_marked marks n && is_shown n) (sym is) both)
      | inr other ↦ before.all x (omega (arith, below, other)) marked shown
    ];
    few = (let few = before.few in omega (arith, few));
  }
