-- Decimals that are cut anywhere, one after another.
use Rattle.std.proofs.Common.{◌≡◌, ◌+◌, ◌-◌, ◌<◌, ◌≤◌, ℕ, zero, suc, true, false, List, [], ◌∷◌, ◌++◌, length, Ok, Err, inl, inr, refl, sym, ap, ap₂, subst, arith, ◌∙◌, length-append}
use Rattle.std.specs.List.{list_any}
use Rattle.std.proofs.lemmas.Bool.{ne_eqb}
use Rattle.std.proofs.lemmas.List.{length-map}
use Rattle.std.specs.Prelude.{Result}
use Rattle.hd_map.specs.declared.types.Cell.{Cell}
use Rattle.hd_sdf_read.specs.declared.body.Body.{Body}
use Rattle.hd_sdf_read.specs.BodyOn.{DecimalsGoOn, FeedsBody, body_on}
use Rattle.hd_map.specs.declared.types.DataType.{DataType}
use Rattle.hd_map.specs.declared.types.Size.{Size}
use Rattle.hd_map.specs.Cells.{wide_cells_in}
use Rattle.hd_map.specs.Map.{cell_count}
use Rattle.hd_num.specs.Lines.{without_start}
use Rattle.hd_sdf_read.specs.declared.error.SdfError.{SdfError}
use Rattle.hd_sdf_read.specs.declared.error.SdfError.TheVariants.{Memory, TooFewData}
use Rattle.hd_sdf_read.specs.declared.scaled.Datum.{Datum}
use Rattle.hd_sdf_read.specs.declared.scaled.Scaled.{Scaled}
use Rattle.hd_sdf_read.specs.Bodies.{decimal_in, surveyed, trailed}
use Rattle.hd_sdf_read.specs.Decimals.{datum_for, cells_at, data_with, datum_of, decimals_from, most_places_in, ranged}
use Rattle.hd_sdf_read.specs.DecimalCut.{DecimalsOn, TakesDatum}
use Rattle.hd_sdf_read.specs.Scaling.{data_of, Pushes, IsScaled}
use Rattle.hd_sdf_read.specs.Tokens.{is_gap, after_token, is_absent, is_star, token_of}
use Rattle.hd_sdf_read.specs.Grammar.{decimal_map, map_with, mapped}
use Rattle.hd_sdf_read.specs.Keys.{has_decimals, with_places}
use Rattle.hd_sdf_read.specs.Reads.{◌>>=◌}
use Rattle.hd_sdf_read.specs.DecimalTokens.{IsNextDatum}
use Rattle.hd_sdf_read.specs.TokenPieces.{Ends}
use Rattle.hd_sdf_read.proofs.AreAlike.{decimal_in-alike, IsScaled-kept_again, AreAlike-kept}
use Rattle.hd_sdf_read.proofs.Bodies.{after_token-same, token_of-same, trailed-same}
use Rattle.hd_sdf_read.proofs.TokenCuts.{after_token-here, after_token-stays, token_of-here, token_of-stays}
use Rattle.hd_sdf_read.proofs.DecimalTokens.{decimals_from-done, decimals_from-more, decimals_from-out, decimals_from-stop, data_with-token}

module _ (size : Size) (t : DataType) (ds : List Datum) where
  pub decimal_in-step : (text rest : List ℕ) (d : Datum) → length ds < cell_count size → IsNextDatum (length ds) text d → rest ≡ after_token text → ranged (ds ++ d ∷ []) ≡ Ok (ds ++ d ∷ [])
      → decimal_in size t ds text ≡ decimal_in size t (ds ++ d ∷ []) rest
  unfolding decimal_in
  decimal_in-step text rest d more next is fits =
      let step = decimals_from-more ds (length ds) (cell_count size) text rest refl more d next is fits in
      let count : length ds + 1 ≡ length (ds ++ d ∷ []) = sym (length-append ds (d ∷ [])) in
      ap (λ r. (r >>= decimal_map size t) >>= trailed size) (step ∙ ap (λ n. decimals_from (ds ++ d ∷ []) (cell_count size - n) rest) count)

  pub decimal_in-wrong : (text : List ℕ) (d : Datum) (e : SdfError) → length ds < cell_count size → IsNextDatum (length ds) text d → ranged (ds ++ d ∷ []) ≡ Err e → decimal_in size t ds text ≡ Err e
  unfolding decimal_in
  decimal_in-wrong text d e more next wrong = ap (λ r. (r >>= decimal_map size t) >>= trailed size) (decimals_from-out ds (length ds) (cell_count size) text text refl more d e next wrong)

  pub decimal_in-stop : (text : List ℕ) (e : SdfError) → length ds < cell_count size → data_with ds (token_of text) ≡ Err e → decimal_in size t ds text ≡ Err e
  unfolding decimal_in
  decimal_in-stop text e more wrong = ap (λ r. (r >>= decimal_map size t) >>= trailed size) (decimals_from-stop ds (length ds) (cell_count size) text text refl more e wrong)

  pub decimal_in-done : (text : List ℕ) → length ds ≡ cell_count size
      → decimal_in size t ds text ≡ trailed size (record { map = map_with size (with_places t (most_places_in ds)) (cells_at (most_places_in ds) ds); rest = text })
  unfolding decimal_in
  decimal_in-done text all = ap (λ r. (r >>= decimal_map size t) >>= trailed size) (decimals_from-done ds (length ds) (cell_count size) text (omega (arith, all)))

  pub decimal_in-nothing : length ds < cell_count size → decimal_in size t ds [] ≡ Err (TooFewData (length ds))
  unfolding data_with token_of
  decimal_in-nothing more = decimal_in-stop [] (TooFewData (length ds)) more refl

-- the gaps at the front of a text say nothing of its data
decimals_same : (size : Size) (t : DataType) (ds : List Datum) (missing : ℕ) (a b : List ℕ) → without_start is_gap a ≡ without_start is_gap b
    → ((decimals_from ds missing a >>= decimal_map size t) >>= trailed size) ≡ ((decimals_from ds missing b >>= decimal_map size t) >>= trailed size)
unfolding decimals_from
decimals_same size t ds zero a b same = trailed-same size (map_with size (with_places t (most_places_in ds)) (cells_at (most_places_in ds) ds)) a b same
decimals_same size t ds (suc missing) a b same = rw (token_of-same a b same, after_token-same a b same) refl

pub decimal_in-same : (size : Size) (t : DataType) (ds : List Datum) (a b : List ℕ) → without_start is_gap a ≡ without_start is_gap b → decimal_in size t ds a ≡ decimal_in size t ds b
unfolding decimal_in
decimal_in-same size t ds a b same = decimals_same size t ds (cell_count size - length ds) a b same

pub decimal_in-first : (size : Size) (t : DataType) (text : List ℕ) → has_decimals t ≡ true → surveyed size t text ≡ decimal_in size t [] text
unfolding surveyed decimal_in mapped
decimal_in-first size t text type =
    let all : cell_count size - 0 ≡ cell_count size = omega arith in
    rw type (ap (λ n. (decimals_from [] n text >>= decimal_map size t) >>= trailed size) (sym all))

-- how many data are kept
pub data_of-count : (s : Scaled) → length (data_of s) ≡ length (wide_cells_in s.cells)
data_of-count s = length-map (wide_cells_in s.cells) (datum_for s.places)

-- one more datum is kept
pub Pushes-scaled : (old new : Scaled) (t : DataType) (number : ℕ) (d : Datum) → IsScaled old t (data_of old) → Pushes old new number d (Ok tt) → IsScaled new t (data_of new)
Pushes-scaled old new t number d kept pushes = IsScaled-kept_again new t (data_of old ++ d ∷ []) (pushes t (data_of old) kept).1

pub Pushes-count : (old new : Scaled) (t : DataType) (number : ℕ) (d : Datum) → IsScaled old t (data_of old) → Pushes old new number d (Ok tt)
    → length (wide_cells_in new.cells) ≡ length (wide_cells_in old.cells) + 1
Pushes-count old new t number d kept pushes =
    let both = (pushes t (data_of old) kept).1 in
    sym (data_of-count new) ∙ sym (AreAlike-kept new t (data_of old ++ d ∷ []) both).count ∙ length-append (data_of old) (d ∷ []) ∙ ap (λ n. n + 1) (data_of-count old)

pub decimal_in-pushed : (size : Size) (old new : Scaled) (t : DataType) (number : ℕ) (d : Datum) (text rest : List ℕ) → IsScaled old t (data_of old)
    → Pushes old new number d (Ok tt) → length (wide_cells_in old.cells) < cell_count size
    → IsNextDatum (length (wide_cells_in old.cells)) text d → rest ≡ after_token text → decimal_in size t (data_of old) text ≡ decimal_in size t (data_of new) rest
decimal_in-pushed size old new t number d text rest kept pushes more next is =
    let both = pushes t (data_of old) kept in
    let count = data_of-count old in
    decimal_in-step size t (data_of old) text rest d (omega (arith, count, more)) (subst (λ n. IsNextDatum n text d) (sym count) next) is both.0
    ∙ decimal_in-alike size t rest (data_of old ++ d ∷ []) (data_of new) (AreAlike-kept new t (data_of old ++ d ∷ []) both.1)

-- the next datum, whatever follows the text
module _ (read : ℕ) (text after : List ℕ) (after_is : after ≡ after_token text) (cut : 0 < length after) (more : List ℕ) where
  left : 0 < length (after_token text)
  left = subst (λ (t : List ℕ). 0 < length t) after_is cut

  pub IsNextDatum-cut : (d : Datum) → IsNextDatum read text d → IsNextDatum read (text ++ more) d × (after ++ more ≡ after_token (text ++ more))
  IsNextDatum-cut d next =
      let token = token_of-stays text more left in (
        record { some = ap is_absent token ∙ next.some; other = ap is_star token ∙ next.other; datum = ap (datum_of (read + 1)) token ∙ next.datum; small = next.small },
        ap (λ (t : List ℕ). t ++ more) after_is ∙ sym (after_token-stays text more left),
      )

  pub data_with-cut : (before : List Datum) (e : SdfError) → data_with before (token_of text) ≡ Err e → data_with before (token_of (text ++ more)) ≡ Err e
  data_with-cut before e wrong = ap (data_with before) (token_of-stays text more left) ∙ wrong

-- so many data are read, and what can still become stays
pub record HasDecimalsOn (size : Size) (t : DataType) (old : Scaled) (text : List ℕ) (new : Scaled) (rest : List ℕ) (read : ℕ) : Type 0 where
  pub same : (more : List ℕ) → decimal_in size t (data_of old) (text ++ more) ≡ decimal_in size t (data_of new) (rest ++ more)
  pub kept : IsScaled new t (data_of new)
  pub count : length (wide_cells_in new.cells) ≡ read

pub HasDecimalsOn-some : (size : Size) (t : DataType) (old : Scaled) (text : List ℕ) (read : ℕ) → IsScaled old t (data_of old) → length (wide_cells_in old.cells) ≡ read
    → HasDecimalsOn size t old text old text read
HasDecimalsOn-some size t old text read kept count = record { same = λ more. refl; kept = kept; count = count }

module _ (size : Size) (t : DataType) (old : Scaled) (text : List ℕ) (new : Scaled) (rest : List ℕ) (read : ℕ) (has : HasDecimalsOn size t old text new rest read) where
  module _ (inside : read < cell_count size) (next : Scaled) (d : Datum) (after : List ℕ) (given : (more : List ℕ) → IsNextDatum read (rest ++ more) d
      × (after ++ more ≡ after_token (rest ++ more))) where
    pub HasDecimalsOn-another : Pushes new next (read + 1) d (Ok tt) → HasDecimalsOn size t old text next after (read + 1)
    HasDecimalsOn-another pushes =
        let count = has.count in
        record {
          same = λ more.
              has.same more ∙ decimal_in-pushed size new next t (read + 1) d (rest ++ more) (after ++ more) has.kept pushes (omega (arith, count, inside))
              (subst (λ n. IsNextDatum n (rest ++ more) d) (sym count) (given more).0) (given more).1;
          kept = Pushes-scaled new next t (read + 1) d has.kept pushes;
          count = Pushes-count new next t (read + 1) d has.kept pushes ∙ ap (λ n. n + 1) count;
        }

    pub HasDecimalsOn-wrong : (e : SdfError) → Pushes new next (read + 1) d (Err e) → (e ≡ Memory → ⊥) → (more : List ℕ) → decimal_in size t (data_of old) (text ++ more) ≡ Err e
    HasDecimalsOn-wrong e pushes refused more =
        let count = has.count in
        let size_is = data_of-count new in
        let place : length (data_of new) ≡ read = size_is ∙ count in
        has.same more ∙ decimal_in-wrong size t (data_of new) (rest ++ more) d e (omega (arith, place, inside)) (subst (λ n. IsNextDatum n (rest ++ more) d) (sym place) (given more).0)
        (pushes t (data_of new) has.kept (ap (λ n. n + 1) (sym place)) refused)

  pub HasDecimalsOn-stop : read < cell_count size → (e : SdfError) → ((before : List Datum) → length before ≡ read → (more : List ℕ) → data_with before (token_of (rest ++ more)) ≡ Err e)
      → (more : List ℕ) → decimal_in size t (data_of old) (text ++ more) ≡ Err e
  HasDecimalsOn-stop inside e wrong more =
      let place : length (data_of new) ≡ read = data_of-count new ∙ has.count in
      has.same more ∙ decimal_in-stop size t (data_of new) (rest ++ more) e (omega (arith, place, inside)) (wrong (data_of new) place more)

  pub DecimalsOn-open : read ≤ cell_count size → after_token rest ≡ [] → DecimalsOn size t old text new rest
  DecimalsOn-open few unended = record { same = has.same; kept = has.kept; few = (let count = has.count in omega (arith, count, few)); ends = inr unended }

  pub DecimalsOn-whole : read ≡ cell_count size → DecimalsOn size t old text new rest
  DecimalsOn-whole all = record { same = has.same; kept = has.kept; few = (let count = has.count in omega (arith, count, all)); ends = inl (has.count ∙ all) }

-- a whole token is one more decimal
module _ (size : Size) (t : DataType) (old : Scaled) (word : List ℕ) (kept : IsScaled old t (data_of old)) (some : 0 < length word) (gapless : list_any is_gap word ≡ false)
    (missing : length (wide_cells_in old.cells) < cell_count size) where
  place : length (data_of old) ≡ length (wide_cells_in old.cells)
  place = data_of-count old

  filled_word : is_absent word ≡ false
  filled_word = ne_eqb (length word) 0 (λ none. omega (arith, none, some))

  pub decimal_in-star : is_star word ≡ true → (rest : List ℕ) → Ends rest → decimal_in size t (data_of old) (word ++ rest) ≡ Err (TooFewData (length (wide_cells_in old.cells)))
  unfolding data_with
  decimal_in-star star rest ends =
      let token = token_of-here word rest some gapless ends in
      decimal_in-stop size t (data_of old) (word ++ rest) (TooFewData (length (wide_cells_in old.cells))) (omega (arith, place, missing)) (rw (token, filled_word, star, place) refl)

  module _ (other : is_star word ≡ false) where
    word_next : (d : Datum) (rest : List ℕ) → Ends rest → datum_of (length (wide_cells_in old.cells) + 1) word ≡ Ok d → Rattle.hd_sdf_read.specs.Decimals.IsSmall d
        → IsNextDatum (length (wide_cells_in old.cells)) (word ++ rest) d
    word_next d rest ends is small =
        let token = token_of-here word rest some gapless ends in
        record { some = ap is_absent token ∙ filled_word; other = ap is_star token ∙ other; datum = ap (datum_of (length (wide_cells_in old.cells) + 1)) token ∙ is; small = small }

    pub TakesDatum-pushed : (new : Scaled) (number : ℕ) (d : Datum) → datum_of (length (wide_cells_in old.cells) + 1) word ≡ Ok d → Rattle.hd_sdf_read.specs.Decimals.IsSmall d
        → Pushes old new number d (Ok tt) → TakesDatum size t old word new
    TakesDatum-pushed new number d is small pushes = record {
      same = λ rest ends.
          decimal_in-pushed size old new t number d (word ++ rest) rest kept pushes missing (word_next d rest ends is small) (sym (after_token-here word rest some gapless ends));
      kept = Pushes-scaled old new t number d kept pushes;
      count = Pushes-count old new t number d kept pushes;
    }

    pub decimal_in-wrong_datum : (new : Scaled) (number : ℕ) (d : Datum) (e : SdfError) → number ≡ length (wide_cells_in old.cells) + 1
        → datum_of (length (wide_cells_in old.cells) + 1) word ≡ Ok d → Rattle.hd_sdf_read.specs.Decimals.IsSmall d
        → Pushes old new number d (Err e) → (e ≡ Memory → ⊥) → (rest : List ℕ) → Ends rest → decimal_in size t (data_of old) (word ++ rest) ≡ Err e
    decimal_in-wrong_datum new number d e number_is is small pushes refused rest ends =
        decimal_in-wrong size t (data_of old) (word ++ rest) d e (omega (arith, place, missing)) (subst (λ n. IsNextDatum n (word ++ rest) d) (sym place) (word_next d rest ends is small))
        (pushes t (data_of old) kept (number_is ∙ ap (λ n. n + 1) (sym place)) refused)

    pub decimal_in-stop_datum : (number : ℕ) (e : SdfError) → number ≡ length (wide_cells_in old.cells) + 1
        → ((before : List Datum) → number ≡ length before + 1 → (datum_of number word >>= (λ datum. ranged (before ++ datum ∷ []))) ≡ Err e) → (rest : List ℕ) → Ends rest
        → decimal_in size t (data_of old) (word ++ rest) ≡ Err e
    decimal_in-stop_datum number e number_is wrong rest ends =
        let token = token_of-here word rest some gapless ends in
        let here : number ≡ length (data_of old) + 1 = number_is ∙ ap (λ n. n + 1) (sym place) in
        decimal_in-stop size t (data_of old) (word ++ rest) e (omega (arith, place, missing))
        (ap (data_with (data_of old)) token ∙ data_with-token (data_of old) word filled_word other
        ∙ ap (λ n. datum_of n word >>= (λ datum. ranged (data_of old ++ datum ∷ []))) (sym here) ∙ wrong (data_of old) here)

-- all data are kept as the cells of a map
pub decimal_in-whole : (size : Size) (t : DataType) (s : Scaled) (text : List ℕ) → IsScaled s t (data_of s) → length (wide_cells_in s.cells) ≡ cell_count size
    → decimal_in size t (data_of s) text ≡ trailed size (record { map = map_with size s.cells.data_type (wide_cells_in s.cells); rest = text })
decimal_in-whole size t s text kept all =
    decimal_in-done size t (data_of s) text (data_of-count s ∙ all)
    ∙ ap (λ q. trailed size (record { map = map_with size (with_places t q) (cells_at q (data_of s)); rest = text })) (sym kept.places)
    ∙ ap₂ (λ (x : DataType) (cs : List Cell). trailed size (record { map = map_with size x cs; rest = text })) (sym kept.data_type) (sym kept.cells)

-- nothing follows, where data are missing
pub decimal_in-none : (size : Size) (t : DataType) (s : Scaled) → length (wide_cells_in s.cells) < cell_count size
    → decimal_in size t (data_of s) [] ≡ Err (TooFewData (length (wide_cells_in s.cells)))
decimal_in-none size t s missing =
    let count = data_of-count s in
    decimal_in-nothing size t (data_of s) (omega (arith, count, missing)) ∙ ap (λ n. Err (TooFewData n)) count

pub surveyed-decimal_in : (size : Size) (t : DataType) (s : Scaled) (text : List ℕ) → has_decimals t ≡ true → IsScaled s t [] → surveyed size t text ≡ decimal_in size t (data_of s) text
surveyed-decimal_in size t s text type kept = decimal_in-first size t text type ∙ decimal_in-alike size t text [] (data_of s) (AreAlike-kept s t [] kept)

-- what is read on is what is read on from a later place
pub DecimalsGoOn-from_mid : (size : Size) (t : DataType) (s : Scaled) (mid : Body) (text rest : List ℕ) (result : Result Body SdfError)
    → ((more : List ℕ) → decimal_in size t (data_of s) (text ++ more) ≡ body_on mid (rest ++ more)) → FeedsBody mid rest result → DecimalsGoOn size t s text result
DecimalsGoOn-from_mid size t s mid text rest (Ok new) same fed = λ more. same more ∙ fed more
DecimalsGoOn-from_mid size t s mid text rest (Err e) same fed = λ refused more. same more ∙ fed refused more

pub FeedsBody-decimals : (size : Size) (t : DataType) (s : Scaled) (old : Body) (text rest : List ℕ) (result : Result Body SdfError)
    → ((more : List ℕ) → body_on old (text ++ more) ≡ decimal_in size t (data_of s) (rest ++ more)) → DecimalsGoOn size t s rest result → FeedsBody old text result
FeedsBody-decimals size t s old text rest (Ok new) same on = λ more. same more ∙ on more
FeedsBody-decimals size t s old text rest (Err e) same on = λ refused more. same more ∙ on refused more
