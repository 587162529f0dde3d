-- A parse takes words that have their form, and finds what they give.
use Rattle.std.proofs.Common.{◌≡◌, ◌∙◌, ◌<◌, ◌≤◌, ◌+◌, ◌&&◌, ◌||◌, ℕ, Bool, true, false, suc, get_or, refl, sym, ap, subst, arith, List, [], ◌∷◌, ◌++◌}
use Rattle.std.proofs.Common.{length, drop, length-append, min, Option, Some, None, append-nil, append_assoc, codes, nat_eq}
use Rattle.std.specs.Prelude.{⊤, slice_get}
use Rattle.std.specs.Option.{option_map}
use Rattle.std.specs.List.{fold, starts_with}
use Rattle.std.specs.Str.{bytes_eq}
use Rattle.std.proofs.lemmas.Slice.Eq.{bytes_eq-Decides, starts_is}
use Rattle.std.proofs.lemmas.Option.{slice_get-get_or, slice_get_within}
use Rattle.std.proofs.Math.Bool.{and-false, or-false}
use Rattle.clap.specs.Lexer.{long_of, short_of, usize_max}
use Rattle.clap.specs.Simple.{Shape, new_shape}
use Rattle.clap.specs.Takes.{settle_passes, step_passes, turn_passes, use_passes, walk_passes}
use Rattle.clap.specs.Walk.{Held, Row, Rule, Text, Walk, arg_by_id, arg_by_index, arg_by_long, has_row, idle, is_pending, more_values, nothing_held}
use Rattle.clap.specs.Walk.{option as waits_for, reacted, settled, to_positional, used, value as is_value, walk_from, walked, without}
use Rattle.hd_words.specs.GivenWords.{Given, given_of, with_name, with_tile, with_save, begins_with_dash}
use Rattle.hd_words.specs.WordSteps.{both_given, followed_by}
use Rattle.hd_words.specs.declared.found.Stage.{Stage}
use Rattle.hd_words.specs.declared.found.Stage.TheVariants.{Options, TileValue, SaveValue, Names}
use Rattle.hd_words.proofs.StartsWith.{nat_eq-decides}
use Rattle.hd_words.proofs.WordSteps.{with_name-one}
use Rattle.hd_words.proofs.ParsedRows.{row_at, at_row-joined, has_row-none}
use Rattle.hd_words.proofs.ParsedKeys.{Adds, AreDifferent, HasRows, Key, Adds-name, Adds-save, Adds-tile, id_of, Name, HasRows-added, said, Save, taken, Tile}

-- a command that is built, with neither help nor version
abbrev pub built_shape : Text → List Rule → Shape
built_shape name rules = record (new_shape name) {
  rules = rules;
  disable_help_flag = true;
  disable_version_flag = true;
  disable_help_subcommand = true;
  is_built = true;
}

-- the arguments are these names, and as many of `--tile` and of `--save` as are said
pub record Reads (rules : List Rule) (ids : List Text) (tiles saves : ℕ) : Type 0 where
  pub differ : AreDifferent ids
  pub named : (i : ℕ) (id : Text) → slice_get ids i ≡ Some id
      → (arg_by_index rules (suc i) ≡ Some (taken id None (Some (suc i)))) × (arg_by_id rules id ≡ Some (taken id None (Some (suc i))))
  pub tile_found : 0 < tiles
      → (arg_by_long rules (codes "tile") ≡ Some (taken (codes "tile") (Some (codes "tile")) None))
      × (arg_by_id rules (codes "tile") ≡ Some (taken (codes "tile") (Some (codes "tile")) None))
  pub save_found : 0 < saves
      → (arg_by_long rules (codes "save") ≡ Some (taken (codes "save") (Some (codes "save")) None))
      × (arg_by_id rules (codes "save") ≡ Some (taken (codes "save") (Some (codes "save")) None))
  pub few_names : length ids ≤ 4
  pub few_tiles : tiles ≤ 1
  pub few_saves : saves ≤ 1

-- no text begins with `-`
abbrev pub ArePlain : List Text → Type 0
ArePlain [] = ⊤
ArePlain (text ∷ texts) = (begins_with_dash text ≡ false) × ArePlain texts

-- no more is given than there are arguments, and no value is an option
pub record Fits (ids : List Text) (tiles saves : ℕ) (g : Given) : Type 0 where
  pub names : length g.names ≤ length ids
  pub tile_count : length g.tiles ≤ tiles
  pub save_count : length g.saves ≤ saves
  pub tile_values : ArePlain g.tiles
  pub save_values : ArePlain g.saves

plain_long : (word : Text) → begins_with_dash word ≡ false → (long_of word ≡ None) × (short_of word ≡ None)
plain_long [] plain = (refl, refl)
plain_long (byte ∷ bytes) plain = rw plain (refl, refl)

plain_ends : (word : Text) → begins_with_dash word ≡ false → bytes_eq word (codes "--") ≡ false
plain_ends [] plain = refl
plain_ends (byte ∷ bytes) plain = rw plain refl

one_tile : (before : Given) (text : List ℕ) (later : Option Given) → followed_by before (with_tile text later)
    ≡ followed_by (record { names = before.names; tiles = before.tiles ++ (text ∷ []); saves = before.saves }) later
one_tile before text None = refl
one_tile before text (Some g) = rw (append_assoc before.tiles (text ∷ []) g.tiles) refl

one_save : (before : Given) (text : List ℕ) (later : Option Given) → followed_by before (with_save text later)
    ≡ followed_by (record { names = before.names; tiles = before.tiles; saves = before.saves ++ (text ∷ []) }) later
one_save before text None = refl
one_save before text (Some g) = rw (append_assoc before.saves (text ∷ []) g.saves) refl

abbrev more_names : Given → Text → Given
more_names g text = record { names = g.names ++ (text ∷ []); tiles = g.tiles; saves = g.saves }

abbrev more_tiles : Given → Text → Given
more_tiles g text = record { names = g.names; tiles = g.tiles ++ (text ∷ []); saves = g.saves }

abbrev more_saves : Given → Text → Given
more_saves g text = record { names = g.names; tiles = g.tiles; saves = g.saves ++ (text ∷ []) }

-- what was given before stands at the front of all
split_total : (before total : Given) (later : Option Given) → followed_by before later ≡ Some total → (rest : Given) × (total ≡ both_given before rest)
split_total before total None is = absurd (cc)
split_total before total (Some rest) is =
    let same : total ≡ both_given before rest = cc in
    (rest, same)

plain_left : (xs ys : List Text) → ArePlain (xs ++ ys) → ArePlain xs
plain_left [] ys all = tt
plain_left (x ∷ xs) ys all = (all.0, plain_left xs ys all.1)

plain_last : (xs : List Text) (x : Text) → ArePlain (xs ++ (x ∷ [])) → begins_with_dash x ≡ false
plain_last [] x all = all.0
plain_last (y ∷ xs) x all = plain_last xs x all.1

-- nothing more is given
ends_all : (before total : Given) → followed_by before (Some (record { names = []; tiles = []; saves = [] })) ≡ Some total → before ≡ total
ends_all before total is =
    let same : both_given before (record { names = []; tiles = []; saves = [] }) ≡ total = cc in
    rw (append-nil before.names, append-nil before.tiles, append-nil before.saves) at same

-- no more is given before than in all
fits_before : (ids : List Text) (tiles saves : ℕ) (before total : Given) (later : Option Given) → followed_by before later ≡ Some total → Fits ids tiles saves total → Fits ids tiles saves before
fits_before ids tiles saves before total later is fits =
    let (rest, same) = split_total before total later is in
    record {
      names = omega (arith, fits.names, ap (λ (g : Given). length g.names) same ∙ length-append before.names rest.names);
      tile_count = omega (arith, fits.tile_count, ap (λ (g : Given). length g.tiles) same ∙ length-append before.tiles rest.tiles);
      save_count = omega (arith, fits.save_count, ap (λ (g : Given). length g.saves) same ∙ length-append before.saves rest.saves);
      tile_values = plain_left before.tiles rest.tiles (subst (λ (g : Given). ArePlain g.tiles) same fits.tile_values);
      save_values = plain_left before.saves rest.saves (subst (λ (g : Given). ArePlain g.saves) same fits.save_values);
    }

-- a word that begins with this text is the text and what follows it
begins : (word front : Text) → starts_with nat_eq word front ≡ true → word ≡ front ++ drop (length front) word
begins word front is = (starts_is nat_eq-decides word front (starts_with nat_eq word front) refl).0 is

module _ (command : Text) (rules : List Rule) (ids : List Text) (tiles saves : ℕ) (reads : Reads rules ids tiles saves) where
  -- the shape of the command
  abbrev pub s : Shape
  s = built_shape command rules

  -- what is held once all that is pending is used
  pub record HoldsAll (h : Held) (g : Given) : Type 0 where
    pub passes : settle_passes rules false h ≡ true
    pub rows : HasRows ids (settled rules h).rows g

  first_use : (id text : Text) (long : Option Text) (index : Option ℕ) (rows : List Row) → row_at id rows ≡ None
      → (use_passes false (taken id long index) (text ∷ []) rows ≡ true) × (used (taken id long index) (text ∷ []) rows ≡ rows ++ (said id text ∷ []))
  first_use id text long index rows none =
      let one : without id rows ≡ rows = at_row-joined id (λ _. []) [] rows none ∙ append-nil rows in
      let lacking : has_row id rows ≡ false = has_row-none id rows none in
      (rw lacking refl, rw one (at_row-joined id (more_values _ (text ∷ [])) _ rows none))

  -- where the walk stands before a name or an option
  abbrev stands : Bool → Held → ℕ → Walk
  stands trailing h given = record { held = h; waiting = idle; position = suc given; is_trailing = trailing; stopped = None }

  -- where the walk stands before the value of an option
  abbrev waits : Text → List Row → ℕ → ℕ → Walk
  waits id rows skip given = record { held = record { rows = rows; pending = Some (id, []); skip = skip }; waiting = waits_for id; position = suc given; is_trailing = false; stopped = None }

  -- what is held once a text is given to an argument
  abbrev pends : Text → Text → List Row → ℕ → Held
  pends id text rows skip = record { rows = rows; pending = Some (id, text ∷ []); skip = skip }

  -- a text that is given for the first time is held
  holds_one : (g next : Given) (k : Key) (id text : Text) (long : Option Text) (index : Option ℕ) (rows : List Row) (skip : ℕ) → id_of ids k ≡ Some id → arg_by_id rules id ≡ Some (taken id long index)
      → Adds k text g next → HasRows ids rows g → HoldsAll (pends id text rows skip) next
  holds_one g next k id text long index rows skip is found adds holds =
      let none : row_at id rows ≡ None = holds k id is ∙ ap (option_map (said id)) adds.before in
      let first = first_use id text long index rows none in
      record {
        passes = rw found first.0;
        rows = subst (λ (rs : List Row). HasRows ids rs next) (sym (rw found first.1)) (HasRows-added ids reads.differ rows g next k id text is adds holds);
      }

  -- the argument of the next name takes the word
  name_taken : (trailing : Bool) (h : Held) (given : ℕ) (word id : Text) → slice_get ids given ≡ Some id → settle_passes rules false h ≡ true
      → (step_passes s (suc given) h is_value ≡ true) × (to_positional rules (arg_by_index rules (suc given)) word (stands trailing h given) h
      ≡ stands trailing (pends id word (settled rules h).rows h.skip) (suc given))
  name_taken trailing h given word id at passes =
      let here : given < length ids = slice_get_within ids given id at in
      let next : min (suc given + 1) usize_max ≡ suc (suc given) = omega (arith, here, reads.few_names) in
      let alone : (is_pending (taken id None (Some (suc given))) h.pending && false) ≡ false = and-false _ in
      let trails : (trailing || false) ≡ trailing = or-false trailing in
      let found = (reads.named given id at).0 in
      (rw (found, alone) passes, rw (found, alone, next, trails) refl)

  -- a word that is a name
  name_walked : (trailing : Bool) (h : Held) (given : ℕ) (word id : Text) → (trailing ≡ false → (bytes_eq word (codes "--") ≡ false) × (begins_with_dash word ≡ false))
      → slice_get ids given ≡ Some id → settle_passes rules false h ≡ true
      → (turn_passes s [] (stands trailing h given) word ≡ true) × (walked rules [] (stands trailing h given) word ≡ stands trailing (pends id word (settled rules h).rows h.skip) (suc given))
  unfolding walked
  name_walked true h given word id plain at passes = name_taken true h given word id at passes
  name_walked false h given word id plain at passes =
      let long = (plain_long word (plain refl).1).0 in
      let short = (plain_long word (plain refl).1).1 in
      let ends = (plain refl).0 in
      let taken_so = name_taken false h given word id at passes in
      (rw (ends, long, short) taken_so.0, rw (ends, long, short) taken_so.1)

  -- the word that ends the options
  ends_walked : (h : Held) (given : ℕ) → (turn_passes s [] (stands false h given) (codes "--") ≡ true) × (walked rules [] (stands false h given) (codes "--") ≡ stands true h given)
  unfolding walked
  ends_walked h given = (refl, refl)

  -- an option alone
  tile_walked : (h : Held) (given : ℕ) → 0 < tiles → settle_passes rules false h ≡ true
      → (turn_passes s [] (stands false h given) (codes "--tile") ≡ true) × (walked rules [] (stands false h given) (codes "--tile") ≡ waits (codes "tile") (settled rules h).rows h.skip given)
  unfolding walked
  tile_walked h given some passes =
      let found = (reads.tile_found some).0 in
      (rw found (rw passes refl), rw found refl)

  save_walked : (h : Held) (given : ℕ) → 0 < saves → settle_passes rules false h ≡ true
      → (turn_passes s [] (stands false h given) (codes "--save") ≡ true) × (walked rules [] (stands false h given) (codes "--save") ≡ waits (codes "save") (settled rules h).rows h.skip given)
  unfolding walked
  save_walked h given some passes =
      let found = (reads.save_found some).0 in
      (rw found (rw passes refl), rw found refl)

  -- the value of an option that waits
  value_walked : (id text : Text) (long : Option Text) (index : Option ℕ) (rows : List Row) (skip given : ℕ) → arg_by_id rules id ≡ Some (taken id long index) → begins_with_dash text ≡ false
      → (turn_passes s [] (waits id rows skip given) text ≡ true) × (walked rules [] (waits id rows skip given) text ≡ stands false (pends id text rows skip) given)
  unfolding walked
  value_walked id text long index rows skip given found plain =
      let outer = plain_long text plain in
      let ends = plain_ends text plain in
      let same : bytes_eq id id ≡ true = (bytes_eq-Decides id id).1 refl in
      (rw (ends, outer.0, outer.1) refl, rw (ends, outer.0, outer.1, found, same) refl)

  -- an option with its value
  joined_tile_walked : (h : Held) (given : ℕ) (text : Text) → 0 < tiles → settle_passes rules false h ≡ true → row_at (codes "tile") (settled rules h).rows ≡ None
      → (turn_passes s [] (stands false h given) (codes "--tile=" ++ text) ≡ true)
      × (walked rules [] (stands false h given) (codes "--tile=" ++ text) ≡ stands false (reacted rules (taken (codes "tile") (Some (codes "tile")) None) (text ∷ []) h) given)
  unfolding walked
  joined_tile_walked h given text some passes none =
      let found = (reads.tile_found some).0 in
      let first = first_use (codes "tile") text (Some (codes "tile")) None (settled rules h).rows none in
      (rw found (rw (passes, first.0) refl), rw found refl)

  joined_save_walked : (h : Held) (given : ℕ) (text : Text) → 0 < saves → settle_passes rules false h ≡ true → row_at (codes "save") (settled rules h).rows ≡ None
      → (turn_passes s [] (stands false h given) (codes "--save=" ++ text) ≡ true)
      × (walked rules [] (stands false h given) (codes "--save=" ++ text) ≡ stands false (reacted rules (taken (codes "save") (Some (codes "save")) None) (text ∷ []) h) given)
  unfolding walked
  joined_save_walked h given text some passes none =
      let found = (reads.save_found some).0 in
      let first = first_use (codes "save") text (Some (codes "save")) None (settled rules h).rows none in
      (rw found (rw (passes, first.0) refl), rw found refl)

  -- the walk passes all the words, and ends with all that is given
  pub record Goes (w : Walk) (words : List Text) (total : Given) : Type 0 where
    pub passes : walk_passes s [] w words ≡ true
    pub stopped : (fold (walked rules []) w words).stopped ≡ None
    pub holds : HoldsAll (fold (walked rules []) w words).held total

  one_word : (w next : Walk) (word : Text) (words : List Text) (total : Given) → (turn_passes s [] w word ≡ true) × (walked rules [] w word ≡ next) → Goes next words total
      → Goes w (word ∷ words) total
  unfolding walk_passes
  one_word w next word words total (turn, is) goes = record {
    passes = rw (turn, is) goes.passes;
    stopped = subst (λ (v : Walk). (fold (walked rules []) v words).stopped ≡ None) (sym is) goes.stopped;
    holds = subst (λ (v : Walk). HoldsAll (fold (walked rules []) v words).held total) (sym is) goes.holds;
  }

  -- where the walk stands, by the stage of the reading and by what is given
  abbrev At : Stage → Given → Walk → Type 0
  At Options g w = (h : Held) × (w ≡ stands false h (length g.names)) × HoldsAll h g
  At Names g w = (h : Held) × (w ≡ stands true h (length g.names)) × HoldsAll h g
  At TileValue g w = (rows : List Row) × (skip : ℕ) × (w ≡ waits (codes "tile") rows skip (length g.names)) × HasRows ids rows g × (0 < tiles)
  At SaveValue g w = (rows : List Row) × (skip : ℕ) × (w ≡ waits (codes "save") rows skip (length g.names)) × HasRows ids rows g × (0 < saves)

  -- from here on the walk goes on with these words
  abbrev GoesFrom : List Text → Type 0
  GoesFrom words = (stage : Stage) (g total : Given) (w : Walk) → At stage g w → followed_by g (given_of stage words) ≡ Some total → Fits ids tiles saves total → Goes w words total

  -- no word is left
  goes_end : (g total : Given) (trailing : Bool) (h : Held) (w : Walk) → w ≡ stands trailing h (length g.names) → HoldsAll h g
      → followed_by g (Some (record { names = []; tiles = []; saves = [] })) ≡ Some total → Goes w [] total
  unfolding walk_passes
  goes_end g total trailing h w at holds is =
      let all : g ≡ total = ends_all g total is in
      record {
        passes = refl;
        stopped = rw at refl;
        holds = subst (λ (v : Walk). HoldsAll v.held total) (sym at) (subst (HoldsAll h) all holds);
      }

  goes_none : GoesFrom []
  goes_none Options g total w (h, at, holds) is fits = goes_end g total false h w at holds is
  goes_none Names g total w (h, at, holds) is fits = goes_end g total true h w at holds is
  goes_none TileValue g total w at is fits = absurd (cc)
  goes_none SaveValue g total w at is fits = absurd (cc)

  -- a name goes to the argument of its place
  goes_name : (trailing : Bool) (g total : Given) (h : Held) (w : Walk) (word : Text) (words : List Text) → (trailing ≡ false → (bytes_eq word (codes "--") ≡ false) × (begins_with_dash word ≡ false))
      → w ≡ stands trailing h (length g.names) → HoldsAll h g → Fits ids tiles saves (more_names g word)
      → ((next : Held) → HoldsAll next (more_names g word) → Goes (stands trailing next (length (more_names g word).names)) words total) → Goes w (word ∷ words) total
  goes_name trailing g total h w word words plain at holds fits more =
      let given = length g.names in
      let longer : length (g.names ++ (word ∷ [])) ≡ suc given = omega (arith, length-append g.names (word ∷ [])) in
      let id = get_or ids given [] in
      let is : slice_get ids given ≡ Some id = slice_get-get_or ids given [] (omega (arith, longer, fits.names)) in
      let next = pends id word (settled rules h).rows h.skip in
      let held : HoldsAll next (more_names g word) = holds_one g (more_names g word) (Name given) id word None (Some (suc given)) _ _ is (reads.named given id is).1 (Adds-name g word) holds.rows in
      let step = name_walked trailing h given word id plain is holds.passes in
      one_word w (stands trailing next (suc given)) word words total (rw at step) (subst (λ (n : ℕ). Goes (stands trailing next n) words total) longer (more next held))

  -- the value of an option that waits goes to it
  goes_tile : (g total : Given) (w : Walk) (rows : List Row) (skip : ℕ) (text : Text) (words : List Text) → w ≡ waits (codes "tile") rows skip (length g.names) → HasRows ids rows g → 0 < tiles
      → Fits ids tiles saves (more_tiles g text) → ((next : Held) → HoldsAll next (more_tiles g text) → Goes (stands false next (length g.names)) words total) → Goes w (text ∷ words) total
  goes_tile g total w rows skip text words at holds some fits more =
      let first : length g.tiles ≤ 0 = omega (arith, length-append g.tiles (text ∷ []), fits.tile_count, reads.few_tiles) in
      let next = pends (codes "tile") text rows skip in
      let found = (reads.tile_found some).1 in
      let held : HoldsAll next (more_tiles g text) = holds_one g (more_tiles g text) Tile (codes "tile") text _ _ rows skip refl found (Adds-tile g.names g.tiles g.saves text first) holds in
      let step = value_walked (codes "tile") text _ _ rows skip (length g.names) found (plain_last g.tiles text fits.tile_values) in
      one_word w (stands false next (length g.names)) text words total (rw at step) (more next held)

  goes_save : (g total : Given) (w : Walk) (rows : List Row) (skip : ℕ) (text : Text) (words : List Text) → w ≡ waits (codes "save") rows skip (length g.names) → HasRows ids rows g → 0 < saves
      → Fits ids tiles saves (more_saves g text) → ((next : Held) → HoldsAll next (more_saves g text) → Goes (stands false next (length g.names)) words total) → Goes w (text ∷ words) total
  goes_save g total w rows skip text words at holds some fits more =
      let first : length g.saves ≤ 0 = omega (arith, length-append g.saves (text ∷ []), fits.save_count, reads.few_saves) in
      let next = pends (codes "save") text rows skip in
      let found = (reads.save_found some).1 in
      let held : HoldsAll next (more_saves g text) = holds_one g (more_saves g text) Save (codes "save") text _ _ rows skip refl found (Adds-save g.names g.tiles g.saves text first) holds in
      let step = value_walked (codes "save") text _ _ rows skip (length g.names) found (plain_last g.saves text fits.save_values) in
      one_word w (stands false next (length g.names)) text words total (rw at step) (more next held)

  -- an option with its value
  holds_used : (g next : Given) (k : Key) (id text : Text) (long : Option Text) (index : Option ℕ) (h : Held) → id_of ids k ≡ Some id → Adds k text g next → HoldsAll h g
      → HoldsAll (reacted rules (taken id long index) (text ∷ []) h) next
  holds_used g next k id text long index h is adds holds =
      let none : row_at id (settled rules h).rows ≡ None = holds.rows k id is ∙ ap (option_map (said id)) adds.before in
      record {
        passes = refl;
        rows = subst (λ (rs : List Row). HasRows ids rs next) (sym (first_use id text long index (settled rules h).rows none).1)
            (HasRows-added ids reads.differ (settled rules h).rows g next k id text is adds holds.rows);
      }

  goes_joined_tile : (g total : Given) (w : Walk) (h : Held) (text : Text) (words : List Text) → w ≡ stands false h (length g.names) → HoldsAll h g
      → Fits ids tiles saves (more_tiles g text) → ((next : Held) → HoldsAll next (more_tiles g text) → Goes (stands false next (length g.names)) words total)
      → Goes w ((codes "--tile=" ++ text) ∷ words) total
  goes_joined_tile g total w h text words at holds fits more =
      let first : length g.tiles ≤ 0 = omega (arith, length-append g.tiles (text ∷ []), fits.tile_count, reads.few_tiles) in
      let some : 0 < tiles = omega (arith, length-append g.tiles (text ∷ []), fits.tile_count) in
      let adds = Adds-tile g.names g.tiles g.saves text first in
      let none : row_at (codes "tile") (settled rules h).rows ≡ None = holds.rows Tile (codes "tile") refl ∙ ap (option_map (said (codes "tile"))) adds.before in
      let step = joined_tile_walked h (length g.names) text some holds.passes none in
      one_word w (stands false (reacted rules (taken (codes "tile") (Some (codes "tile")) None) (text ∷ []) h) (length g.names)) (codes "--tile=" ++ text) words total (rw at step)
      (more _ (holds_used g (more_tiles g text) Tile (codes "tile") text (Some (codes "tile")) None h refl adds holds))

  goes_joined_save : (g total : Given) (w : Walk) (h : Held) (text : Text) (words : List Text) → w ≡ stands false h (length g.names) → HoldsAll h g
      → Fits ids tiles saves (more_saves g text) → ((next : Held) → HoldsAll next (more_saves g text) → Goes (stands false next (length g.names)) words total)
      → Goes w ((codes "--save=" ++ text) ∷ words) total
  goes_joined_save g total w h text words at holds fits more =
      let first : length g.saves ≤ 0 = omega (arith, length-append g.saves (text ∷ []), fits.save_count, reads.few_saves) in
      let some : 0 < saves = omega (arith, length-append g.saves (text ∷ []), fits.save_count) in
      let adds = Adds-save g.names g.tiles g.saves text first in
      let none : row_at (codes "save") (settled rules h).rows ≡ None = holds.rows Save (codes "save") refl ∙ ap (option_map (said (codes "save"))) adds.before in
      let step = joined_save_walked h (length g.names) text some holds.passes none in
      one_word w (stands false (reacted rules (taken (codes "save") (Some (codes "save")) None) (text ∷ []) h) (length g.names)) (codes "--save=" ++ text) words total (rw at step)
      (more _ (holds_used g (more_saves g text) Save (codes "save") text (Some (codes "save")) None h refl adds holds))

  -- with a value of the option given, there is the option
  module _ (words : List Text) (more : GoesFrom words) (g total : Given) (w : Walk) (fits : Fits ids tiles saves total) where
    from_tile : (text : Text) (rows : List Row) (skip : ℕ) → w ≡ waits (codes "tile") rows skip (length g.names) → HasRows ids rows g → 0 < tiles
        → followed_by g (with_tile text (given_of Options words)) ≡ Some total → Goes w (text ∷ words) total
    from_tile text rows skip at holds some is =
        let on = sym (one_tile g text (given_of Options words)) ∙ is in
        goes_tile g total w rows skip text words at holds some (fits_before ids tiles saves (more_tiles g text) total _ on fits)
        (λ next held. more Options (more_tiles g text) total _ (next, refl, held) on fits)

    from_save : (text : Text) (rows : List Row) (skip : ℕ) → w ≡ waits (codes "save") rows skip (length g.names) → HasRows ids rows g → 0 < saves
        → followed_by g (with_save text (given_of Options words)) ≡ Some total → Goes w (text ∷ words) total
    from_save text rows skip at holds some is =
        let on = sym (one_save g text (given_of Options words)) ∙ is in
        goes_save g total w rows skip text words at holds some (fits_before ids tiles saves (more_saves g text) total _ on fits)
        (λ next held. more Options (more_saves g text) total _ (next, refl, held) on fits)

    -- a name, with the stage that it leads to
    from_name : (stage : Stage) (trailing : Bool) (word : Text) (h : Held) → (trailing ≡ false → (bytes_eq word (codes "--") ≡ false) × (begins_with_dash word ≡ false))
        → ((next : Held) → HoldsAll next (more_names g word) → At stage (more_names g word) (stands trailing next (length (more_names g word).names)))
        → w ≡ stands trailing h (length g.names) → HoldsAll h g → followed_by g (with_name word (given_of stage words)) ≡ Some total → Goes w (word ∷ words) total
    from_name stage trailing word h plain stays at holds is =
        let on = sym (with_name-one g word (given_of stage words)) ∙ is in
        goes_name trailing g total h w word words plain at holds (fits_before ids tiles saves (more_names g word) total _ on fits)
        (λ next held. more stage (more_names g word) total _ (stays next held) on fits)

    module _ (h : Held) (at : w ≡ stands false h (length g.names)) (holds : HoldsAll h g) where
      on_ends : followed_by g (given_of Options (codes "--" ∷ words)) ≡ Some total → Goes w (codes "--" ∷ words) total
      on_ends is = one_word w (stands true h (length g.names)) (codes "--") words total (rw at (ends_walked h (length g.names))) (more Names g total _ (h, refl, holds) is fits)

      on_tile : followed_by g (given_of Options (codes "--tile" ∷ words)) ≡ Some total → Goes w (codes "--tile" ∷ words) total
      on_tile is =
          let some : 0 < tiles = option_there words is in
          one_word w (waits (codes "tile") (settled rules h).rows h.skip (length g.names)) (codes "--tile") words total (rw at (tile_walked h (length g.names) some holds.passes))
          (more TileValue g total _ ((settled rules h).rows, h.skip, refl, holds.rows, some) is fits)
        where
          option_there : (ws : List Text) → followed_by g (given_of TileValue ws) ≡ Some total → 0 < tiles
          option_there [] none = absurd (cc)
          option_there (text ∷ ws) is =
              let all = fits_before ids tiles saves (more_tiles g text) total _ (sym (one_tile g text (given_of Options ws)) ∙ is) fits in
              omega (arith, length-append g.tiles (text ∷ []), all.tile_count)

      on_save : followed_by g (given_of Options (codes "--save" ∷ words)) ≡ Some total → Goes w (codes "--save" ∷ words) total
      on_save is =
          let some : 0 < saves = option_there words is in
          one_word w (waits (codes "save") (settled rules h).rows h.skip (length g.names)) (codes "--save") words total (rw at (save_walked h (length g.names) some holds.passes))
          (more SaveValue g total _ ((settled rules h).rows, h.skip, refl, holds.rows, some) is fits)
        where
          option_there : (ws : List Text) → followed_by g (given_of SaveValue ws) ≡ Some total → 0 < saves
          option_there [] none = absurd (cc)
          option_there (text ∷ ws) is =
              let all = fits_before ids tiles saves (more_saves g text) total _ (sym (one_save g text (given_of Options ws)) ∙ is) fits in
              omega (arith, length-append g.saves (text ∷ []), all.save_count)

      on_joined_tile : (text : Text) → followed_by g (given_of Options ((codes "--tile=" ++ text) ∷ words)) ≡ Some total → Goes w ((codes "--tile=" ++ text) ∷ words) total
      on_joined_tile text is =
          let on = sym (one_tile g text (given_of Options words)) ∙ is in
          goes_joined_tile g total w h text words at holds (fits_before ids tiles saves (more_tiles g text) total _ on fits)
          (λ next held. more Options (more_tiles g text) total _ (next, refl, held) on fits)

      on_joined_save : (text : Text) → followed_by g (given_of Options ((codes "--save=" ++ text) ∷ words)) ≡ Some total → Goes w ((codes "--save=" ++ text) ∷ words) total
      on_joined_save text is =
          let on = sym (one_save g text (given_of Options words)) ∙ is in
          goes_joined_save g total w h text words at holds (fits_before ids tiles saves (more_saves g text) total _ on fits)
          (λ next held. more Options (more_saves g text) total _ (next, refl, held) on fits)

      -- a word, by what it is
      module _ (word : Text) (is : followed_by g (given_of Options (word ∷ words)) ≡ Some total) where
        by_dash : (dash : Bool) → begins_with_dash word ≡ dash → bytes_eq word (codes "--") ≡ false → bytes_eq word (codes "--tile") ≡ false → bytes_eq word (codes "--save") ≡ false
            → starts_with nat_eq word (codes "--tile=") ≡ false → starts_with nat_eq word (codes "--save=") ≡ false → Goes w (word ∷ words) total
        by_dash true dashed ends tile save tile_value save_value = let none = rw (ends, tile, save, tile_value, save_value, dashed) at is in absurd (cc)
        by_dash false plain ends tile save tile_value save_value =
            from_name Options false word h (λ _. (ends, plain)) (λ next held. (next, refl, held)) at holds (rw (ends, tile, save, tile_value, save_value, plain) at is)

        by_save_value : (starts : Bool) → starts_with nat_eq word (codes "--save=") ≡ starts → bytes_eq word (codes "--") ≡ false → bytes_eq word (codes "--tile") ≡ false
            → bytes_eq word (codes "--save") ≡ false
            → starts_with nat_eq word (codes "--tile=") ≡ false → Goes w (word ∷ words) total
        by_save_value false other ends tile save tile_value = by_dash (begins_with_dash word) refl ends tile save tile_value other
        by_save_value true starts ends tile save tile_value =
            let word_is = begins word (codes "--save=") starts in
            subst (λ (x : Text). Goes w (x ∷ words) total) (sym word_is) (on_joined_save (drop 7 word) (subst (λ (x : Text). followed_by g (given_of Options (x ∷ words)) ≡ Some total) word_is is))

        by_tile_value : (starts : Bool) → starts_with nat_eq word (codes "--tile=") ≡ starts → bytes_eq word (codes "--") ≡ false → bytes_eq word (codes "--tile") ≡ false
            → bytes_eq word (codes "--save") ≡ false → Goes w (word ∷ words) total
        by_tile_value false other ends tile save = by_save_value (starts_with nat_eq word (codes "--save=")) refl ends tile save other
        by_tile_value true starts ends tile save =
            let word_is = begins word (codes "--tile=") starts in
            subst (λ (x : Text). Goes w (x ∷ words) total) (sym word_is) (on_joined_tile (drop 7 word) (subst (λ (x : Text). followed_by g (given_of Options (x ∷ words)) ≡ Some total) word_is is))

        by_save : (same : Bool) → bytes_eq word (codes "--save") ≡ same → bytes_eq word (codes "--") ≡ false → bytes_eq word (codes "--tile") ≡ false → Goes w (word ∷ words) total
        by_save false other ends tile = by_tile_value (starts_with nat_eq word (codes "--tile=")) refl ends tile other
        by_save true same ends tile =
            let word_is = (bytes_eq-Decides word (codes "--save")).0 same in
            subst (λ (x : Text). Goes w (x ∷ words) total) (sym word_is) (on_save (subst (λ (x : Text). followed_by g (given_of Options (x ∷ words)) ≡ Some total) word_is is))

        by_tile : (same : Bool) → bytes_eq word (codes "--tile") ≡ same → bytes_eq word (codes "--") ≡ false → Goes w (word ∷ words) total
        by_tile false other ends = by_save (bytes_eq word (codes "--save")) refl ends other
        by_tile true same ends =
            let word_is = (bytes_eq-Decides word (codes "--tile")).0 same in
            subst (λ (x : Text). Goes w (x ∷ words) total) (sym word_is) (on_tile (subst (λ (x : Text). followed_by g (given_of Options (x ∷ words)) ≡ Some total) word_is is))

        by_ends : (same : Bool) → bytes_eq word (codes "--") ≡ same → Goes w (word ∷ words) total
        by_ends false other = by_tile (bytes_eq word (codes "--tile")) refl other
        by_ends true same =
            let word_is = (bytes_eq-Decides word (codes "--")).0 same in
            subst (λ (x : Text). Goes w (x ∷ words) total) (sym word_is) (on_ends (subst (λ (x : Text). followed_by g (given_of Options (x ∷ words)) ≡ Some total) word_is is))

  goes_more : (word : Text) (words : List Text) → GoesFrom words → GoesFrom (word ∷ words)
  goes_more word words more Options g total w (h, at, holds) is fits = by_ends words more g total w fits h at holds word is (bytes_eq word (codes "--")) refl
  goes_more word words more Names g total w (h, at, holds) is fits = from_name words more g total w fits Names true word h (λ wrong. absurd (cc)) (λ next held. (next, refl, held)) at holds is
  goes_more word words more TileValue g total w (rows, skip, at, holds, some) is fits = from_tile words more g total w fits word rows skip at holds some is
  goes_more word words more SaveValue g total w (rows, skip, at, holds, some) is fits = from_save words more g total w fits word rows skip at holds some is

  goes_all : (words : List Text) → GoesFrom words
  goes_all [] = goes_none
  goes_all (word ∷ words) = goes_more word words (goes_all words)

  -- the walk passes all words that give what fits, and has the row of each name and value
  pub Goes-all : (words : List Text) (total : Given) → given_of Options words ≡ Some total → Fits ids tiles saves total → Goes (walk_from nothing_held) words total
  Goes-all words total is fits =
      let none : Given = record { names = []; tiles = []; saves = [] } in
      goes_all words Options none total (walk_from nothing_held) (nothing_held, refl, record { passes = refl; rows = nothing_given }) (rw is refl) fits
    where
      nothing_given : HasRows ids [] (record { names = []; tiles = []; saves = [] })
      nothing_given (Name i) id is = refl
      nothing_given Tile id is = refl
      nothing_given Save id is = refl
