-- Data that are read many at once.
use Rattle.std.proofs.Common.{◌≡◌, ◌+◌, ◌-◌, ◌<◌, ◌≤◌, ℕ, ℤ, zero, suc, Bool, true, false, not, eqb, List, [], ◌∷◌, ◌++◌, length, map, replicate, set}
use Rattle.std.proofs.Common.{take, drop, get_or, Ok, inl, inr, refl, sym, ap, ap₂, subst, arith, ◌∙◌, append-nil, append_assoc, length-append}
use Rattle.std.proofs.Common.{length-drop}
use Rattle.std.specs.Prelude.{codes}
use Rattle.std.specs.List.{list_all, position_or_len}
use Rattle.std.proofs.lemmas.Bool.{cases_Bool, not-false}
use Rattle.std.proofs.lemmas.List.{get_or-drop, length-take-le, map-append, replicate_more, take_more_set}
use Rattle.std.proofs.lemmas.List.Sums.{prefix_len_stops}
use Rattle.std.proofs.lemmas.Simd.{length-zip2}
use Rattle.hd_map.specs.declared.cells.Cells as packed
use Rattle.hd_map.specs.declared.types.Cell.{Cell}
use Rattle.hd_map.specs.declared.types.Cell.TheVariants.{Bad}
use Rattle.hd_map.specs.declared.mark.Mark.{Mark}
use Rattle.hd_map.specs.declared.types.DataType.{DataType}
use Rattle.hd_map.specs.declared.types.Size.{Size}
use Rattle.hd_map.specs.Cells.{cells_in}
use Rattle.hd_map.specs.Packing.{cell_from, kept_cells, masks}
use Rattle.hd_map.proofs.PackedPoints.{cells_push}
use Rattle.hd_map.specs.Map.{AreCellsOf, cell_count, greatest_height, least_height}
use Rattle.hd_num.specs.Lines.{without_start}
use Rattle.hd_sdf_read.specs.Bodies.{whole_in}
use Rattle.hd_sdf_read.specs.Tokens.{is_gap, after_token, token_of}
use Rattle.hd_sdf_read.specs.Grammar.{cell_of, datum_at}
use Rattle.hd_sdf_read.specs.WholeTokens.{TakesCell, TakesHeight}
use Rattle.hd_sdf_read.specs.ShortWords.{AreData, IsDatum, ReadsShort, TakesBatch}
use Rattle.hd_sdf_read.proofs.Bodies.{after_token-same, datum_at-same, whole_in-step}
use Rattle.hd_sdf_read.proofs.DatumAt.{datum_at-by_token, datum_at-fits}
use Rattle.hd_sdf_read.proofs.TextFronts.{after_token-front, without_start-front, token_of-front}
use Rattle.hd_sdf_read.proofs.TokenCuts.{without_start-twice}
use Rattle.hd_sdf_read.proofs.WholeCuts.{HasOn, after_token-more, datum_at-stays}
use Rattle.hd_sdf_read.proofs.WholeFronts.{TakesCell-given}

-- a number begins with no gap
no_gap : (byte : ℕ) (bytes rest : List ℕ) (height : ℤ) → TakesHeight (byte ∷ bytes) rest height → is_gap byte ≡ false
no_gap byte bytes rest height takes = elim (cases_Bool (is_gap byte)) [
  | inl gap ↦
      let none : position_or_len is_gap (byte ∷ bytes) ≡ 0 = rw gap refl in
      let wrong : eqb (length takes.token) 0 ≡ true = ap (λ (t : List ℕ). eqb (length t) 0) (sym takes.place ∙ ap (λ n. take n (byte ∷ bytes)) none) in
      let right = takes.filled in
      cc
  | inr other ↦ other
]

number_front : (word rest : List ℕ) (height : ℤ) → TakesHeight word rest height → word ≡ without_start is_gap word
number_front [] rest height takes = refl
number_front (byte ∷ bytes) rest height takes = rw (no_gap byte bytes rest height takes) refl

ends_at_gap : (word rest : List ℕ) (height : ℤ) → TakesHeight word rest height → 0 < length rest → is_gap (get_or rest 0 0) ≡ true
ends_at_gap word rest height takes left =
    let end : ℕ = position_or_len is_gap word in
    let size : length rest ≡ length word - end = ap length (sym takes.after) ∙ length-drop end word in
    let here : is_gap (get_or word end 0) ≡ true = not-false (is_gap (get_or word end 0)) (prefix_len_stops (λ byte. not (is_gap byte)) word 0 (omega (arith, size, left))) in
    let place : end + 0 ≡ end = omega arith in
    ap (λ (t : List ℕ). is_gap (get_or t 0 0)) (sym takes.after) ∙ ap is_gap (get_or-drop end word 0 0 ∙ ap (λ k. get_or word k 0) place) ∙ here

module _ (least greatest : ℤ) where
  -- a height in the range is a datum
  pub IsDatum-height : (word rest : List ℕ) (cell : Cell) → TakesCell least greatest word rest cell → 0 < length rest → IsDatum least greatest word rest cell
  IsDatum-height word rest cell takes left = record {
    given = λ read more. (
        let given = TakesCell-given least greatest read word word rest cell (number_front word rest takes.height takes.takes) takes in
        (datum_at-stays least greatest read word rest given.1 left more ∙ given.0, after_token-more least greatest read word rest given.1 left more));
    left = left;
    begins = ends_at_gap word rest takes.height takes.takes left;
  }

  -- so is `BAD`
  pub IsDatum-bad : (word rest : List ℕ) → word ≡ codes "BAD" ++ rest → 0 < length rest → is_gap (get_or rest 0 0) ≡ true → IsDatum least greatest word rest Bad
  IsDatum-bad word [] is left begins = absurd (omega arith)
  IsDatum-bad word (gap ∷ rest) is left begins = record {
    given = λ read more. (
        let token : token_of (codes "BAD" ++ gap ∷ (rest ++ more)) ≡ codes "BAD" = token_of-front [] (codes "BAD") gap (rest ++ more) refl (omega arith) refl begins in
        let after : after_token (codes "BAD" ++ gap ∷ (rest ++ more)) ≡ gap ∷ (rest ++ more) = after_token-front [] (codes "BAD") gap (rest ++ more) refl (omega arith) refl begins in
        let bad : cell_of least greatest (read + 1) (codes "BAD") ≡ Ok Bad = refl in
        rw is (datum_at-by_token least greatest read (codes "BAD" ++ gap ∷ (rest ++ more)) (codes "BAD") (sym token) refl refl ∙ bad, sym after));
    left = left;
    begins = begins;
  }

  -- the gaps before a datum say nothing
  pub IsDatum-behind : (text word rest : List ℕ) (cell : Cell) → ((more : List ℕ) → without_start is_gap (text ++ more) ≡ without_start is_gap (word ++ more))
      → IsDatum least greatest word rest cell → IsDatum least greatest text rest cell
  IsDatum-behind text word rest cell same datum = record {
    given = λ read more. (
        let given = datum.given read more in
        (datum_at-same least greatest read (text ++ more) (word ++ more) (same more) ∙ given.0, given.1 ∙ sym (after_token-same (text ++ more) (word ++ more) (same more))));
    left = datum.left;
    begins = datum.begins;
  }

  -- one more
  pub AreData-more : (text middle rest : List ℕ) (cells : List Cell) (cell : Cell) → AreData least greatest text middle cells → IsDatum least greatest middle rest cell
      → AreData least greatest text rest (cells ++ cell ∷ [])
  AreData-more text middle rest [] cell same datum = (rest, subst (λ (t : List ℕ). IsDatum least greatest t rest cell) same datum, refl)
  AreData-more text middle rest (c ∷ cs) cell read_on datum = (read_on.0, read_on.1, AreData-more read_on.0 middle rest cs cell read_on.2 datum)

  -- it is put into lists
  pub AreData-filled : (height : ℕ → ℤ) (text middle rest : List ℕ) (overs : List ℕ) (marks : List Mark) (place over : ℕ) (mark : Mark) → place < length overs → place < length marks
      → AreData least greatest text middle (kept_cells height (take place overs) (take place marks)) → IsDatum least greatest middle rest (cell_from height over mark)
      → AreData least greatest text rest (kept_cells height (take (place + 1) (set overs place over)) (take (place + 1) (set marks place mark)))
  AreData-filled height text middle rest overs marks place over mark inside within read_on datum =
      let paired : length (take place overs) ≡ length (take place marks) = length-take-le place overs (omega (arith, inside)) ∙ sym (length-take-le place marks (omega (arith, within))) in
      rw (take_more_set overs place over inside, take_more_set marks place mark within, cells_push height (take place overs) (take place marks) paired over mark)
      (AreData-more text middle rest (kept_cells height (take place overs) (take place marks)) (cell_from height over mark) read_on datum)

  -- a gap begins what follows them
  pub AreData-begin : (text rest : List ℕ) (cells : List Cell) → AreData least greatest text rest cells → 0 < length text → is_gap (get_or text 0 0) ≡ true → (0 < length rest)
      × (is_gap (get_or rest 0 0) ≡ true)
  AreData-begin text rest [] same some begins = rw same (some, begins)
  AreData-begin text rest (c ∷ cs) read_on some begins = AreData-begin read_on.0 rest cs read_on.2 read_on.1.left read_on.1.begins

  module _ (t : DataType) (low : least ≡ least_height t) (high : greatest ≡ greatest_height t) where
    -- their cells are of the data type
    pub AreData-fit : (text rest : List ℕ) (cells : List Cell) → AreData least greatest text rest cells → AreCellsOf t cells
    AreData-fit text rest [] read_on k inside = absurd (omega arith)
    AreData-fit text rest (c ∷ cs) read_on zero inside = datum_at-fits t least greatest 0 (text ++ []) c low high (read_on.1.given 0 []).0
    AreData-fit text rest (c ∷ cs) read_on (suc k) inside = AreData-fit read_on.0 rest cs read_on.2 k (omega arith)

    -- they are read on
    pub whole_in-data : (size : Size) (front : List Cell) (text rest : List ℕ) (cells : List Cell) → AreData least greatest text rest cells → length front + length cells ≤ cell_count size
        → (more : List ℕ) → whole_in size t front (text ++ more) ≡ whole_in size t (front ++ cells) (rest ++ more)
    whole_in-data size front text rest [] same few more = ap₂ (λ (cs : List Cell) (xs : List ℕ). whole_in size t cs (xs ++ more)) (sym (append-nil front)) (sym same)
    whole_in-data size front text rest (c ∷ cs) read_on few more =
        let given = read_on.1.given (length front) more in
        let here : datum_at (least_height t) (greatest_height t) (length front) (text ++ more) ≡ Ok c = rw (low, high) at given.0 in
        whole_in-step size t front (text ++ more) (read_on.0 ++ more) c (omega (arith, few)) here given.1
        ∙ whole_in-data size (front ++ c ∷ []) read_on.0 rest cs read_on.2 (omega (arith, few, length-append front (c ∷ []))) more
        ∙ ap (λ (all : List Cell). whole_in size t all (rest ++ more)) (append_assoc front (c ∷ []) cs)

-- a mark without a mask is put into a list
pub masks-filled : (marks : List Mark) (place : ℕ) (mark : Mark) → place < length marks → map masks (take place marks) ≡ replicate place false → masks mark ≡ false
    → map masks (take (place + 1) (set marks place mark)) ≡ replicate (place + 1) false
masks-filled marks place mark inside before clear =
    ap (map masks) (take_more_set marks place mark inside) ∙ map-append masks (take place marks) (mark ∷ [])
    ∙ ap₂ (λ (ms : List Bool) (m : Bool). ms ++ m ∷ []) before clear ∙ replicate_more place false

-- so many numbers and marks are so many cells
pub kept_cells-count : (height : ℕ → ℤ) (overs : List ℕ) (marks : List Mark) (count : ℕ) → count ≤ length overs → count ≤ length marks
    → length (kept_cells height (take count overs) (take count marks)) ≡ count
kept_cells-count height overs marks count inside within =
    let size = length-take-le count overs inside in
    length-zip2 (cell_from height) (take count overs) (take count marks) (size ∙ sym (length-take-le count marks within)) ∙ size

-- the gap at the front of a text
pub without_start-behind_gap : (text : List ℕ) → 0 < length text → is_gap (get_or text 0 0) ≡ true → (more : List ℕ) → without_start is_gap (text ++ more) ≡ without_start is_gap (drop 1 text ++ more)
without_start-behind_gap [] some begins more = absurd (omega arith)
without_start-behind_gap (gap ∷ word) some begins more = let all : list_all is_gap (gap ∷ []) ≡ true = rw begins refl in without_start-front is_gap (gap ∷ []) (word ++ more) all

-- and those behind it
pub without_start-behind_gaps : (text word : List ℕ) → 0 < length text → is_gap (get_or text 0 0) ≡ true → word ≡ without_start is_gap (drop 1 text) → (more : List ℕ)
    → without_start is_gap (text ++ more) ≡ without_start is_gap (word ++ more)
without_start-behind_gaps text word some begins is more = without_start-behind_gap text some begins more ∙ without_start-twice (drop 1 text) more
    ∙ ap (λ (t : List ℕ). without_start is_gap (t ++ more)) (sym is)

-- nothing is read yet
pub ReadsShort-none : (size : Size) (old : packed.Cells) (text : List ℕ) → length (cells_in old) ≤ cell_count size → ReadsShort size old text old text
ReadsShort-none size old text few = record { same = λ more. refl; data_type = refl; onward = omega arith; few = few }

-- a batch is read on
pub ReadsShort-batch : (size : Size) (old : packed.Cells) (text : List ℕ) (mid : packed.Cells) (middle : List ℕ) (new : packed.Cells) (rest : List ℕ) (least greatest : ℤ) (room count : ℕ)
    → ReadsShort size old text mid middle → least ≡ least_height mid.data_type → greatest ≡ greatest_height mid.data_type → TakesBatch least greatest room mid middle new rest count
    → room + length (cells_in mid) ≤ cell_count size → ReadsShort size old text new rest × (length (cells_in new) ≡ length (cells_in mid) + count)
ReadsShort-batch size old text mid middle new rest least greatest room count reads low high batch fits =
    let onward = reads.onward in
    let few = batch.few in
    let more_is = batch.count_is in
    let size_is : length (cells_in new) ≡ length (cells_in mid) + count = ap length batch.cells ∙ length-append (cells_in mid) batch.more ∙ ap (λ n. length (cells_in mid) + n) more_is in (
      record {
        same = λ more.
            reads.same more ∙ whole_in-data least greatest mid.data_type low high size (cells_in mid) middle rest batch.more batch.reads (omega (arith, fits, few, more_is)) more
            ∙ ap₂ (λ (t : DataType) (cs : List Cell). whole_in size t cs (rest ++ more)) (sym batch.data_type) (sym batch.cells);
        data_type = batch.data_type ∙ reads.data_type;
        onward = omega (arith, onward, size_is);
        few = omega (arith, fits, few, size_is);
      },
      size_is,
    )

-- some more
pub HasOn-short : (size : Size) (old : packed.Cells) (text : List ℕ) (mid : packed.Cells) (middle : List ℕ) (read : ℕ) (new : packed.Cells) (rest : List ℕ) (count : ℕ)
    → HasOn size old text mid middle read → ReadsShort size mid middle new rest
    → count ≡ length (cells_in new) → HasOn size old text new rest count
HasOn-short size old text mid middle read new rest count has reads is = record {
  same = λ more.
      has.same more ∙ ap (λ (t : DataType). whole_in size t (cells_in mid) (middle ++ more)) (sym has.data_type) ∙ reads.same more
      ∙ ap (λ (t : DataType). whole_in size t (cells_in new) (rest ++ more)) (reads.data_type ∙ has.data_type);
  data_type = reads.data_type ∙ has.data_type;
  count = sym is;
}

pub HasOn-again : (size : Size) (old : packed.Cells) (text : List ℕ) (new : packed.Cells) (rest : List ℕ) (read : ℕ) → HasOn size old text new rest read → read ≤ cell_count size
    → HasOn size old text new rest (length (cells_in new)) × (length (cells_in new) ≤ cell_count size)
HasOn-again size old text new rest read has few =
    let count = has.count in
    (record { same = has.same; data_type = has.data_type; count = refl }, omega (arith, count, few))
