-- The canonical text of a file is read as this file.
use Rattle.std.proofs.Common.{◌≡◌, ◌+◌, ◌-◌, ◌*◌, ℕ, zero, suc, false, List, [], ◌∷◌, ◌++◌, take, drop, Option, Some, Ok, inl, inr, refl, sym, ap, ap₂}
use Rattle.std.proofs.Common.{◌∙◌, append_assoc, append-nil, true, length, eqb, ltb, cond, subst, arith, ne_eqb}
use Rattle.std.specs.Prelude.{codes, ok_or, bytes_eq}
use Rattle.std.specs.Fmt.{decimal}
use Rattle.std.specs.List.{flat_map, list_any, list_all}
use Rattle.std.proofs.lemmas.Bool.{cases_Bool, or_from, or_parts, and_parts, le-ltb, leb-true}
use Rattle.std.proofs.lemmas.List.Concat.{flat_map-append, flat_map-cons}
use Rattle.std.proofs.lemmas.Slice.Eq.{bytes_eq-Decides}
use Rattle.hd_map.specs.declared.types.DataType.{DataType}
use Rattle.hd_map.specs.declared.types.DataType.TheVariants.{U8, U16, U32, I8, I16, I32, Single, Double}
use Rattle.hd_map.specs.declared.types.Cell.{Cell}
use Rattle.hd_map.specs.declared.types.Cell.TheVariants.{Bad, Height}
use Rattle.hd_map.specs.Map.{IsMap, Map, code_of, places_of}
use Rattle.hd_map.specs.Unmasked.{unmasked}
use Rattle.hd_num.specs.Lines.{after_line, is_line_feed, lines_of, trimmed_by}
use Rattle.hd_sdf_read.specs.declared.error.SdfError.TheVariants.{BadVersion}
use Rattle.hd_sdf_read.specs.declared.file.Extra.{Extra}
use Rattle.hd_sdf_read.specs.declared.file.Version.{Version}
use Rattle.hd_sdf_read.specs.declared.file.Version.TheVariants.{Bcr, Iso}
use Rattle.hd_sdf_read.specs.Entries.{header_from}
use Rattle.hd_sdf_read.specs.File.{File, HasForms, is_trailer}
use Rattle.hd_sdf_read.specs.Tokens.{is_gap, after_token, token_of}
use Rattle.hd_sdf_read.specs.Grammar.{after_lines, file_in, file_with, map_with, mapped, version_of, version_of_line, trailer_of}
use Rattle.hd_sdf_read.specs.Keys.{has_decimals, with_places}
use Rattle.hd_sdf_read.proofs.Grammar.{mapped-decimals, body_in-whole_body, file_in-whole_header, mapped-whole_numbers}
use Rattle.hd_sdf_write.specs.Canonical.{as_read, canonical, cell_text, encoding_lines, end_lines, entry_line, extra_lines, is_height, line, name_lines}
use Rattle.hd_sdf_write.specs.Canonical.{profile, profile_lines, scale_lines, spaced, type_read, typed, version_text}
use Rattle.hd_sdf_read.proofs.TextFronts.{after_line-front, lines_of-front, after_token-front, token_of-front, trimmed_by-around}
use Rattle.hd_sdf_read.proofs.Trims.{IsTrimmed, IsTrimmed-trimmed_by}
use Rattle.hd_sdf_write.proofs.HeaderText.{HeaderReads-extra_lines}
use Rattle.hd_sdf_write.proofs.KnownEntries.{entries_of, extra_entries-entries_of, required_keys_for, required_keys_of-entries_of, known, resolution_of-entries_of}
use Rattle.hd_sdf_write.proofs.EntriesFollow.{AllFollow-entries_of}
use Rattle.hd_sdf_write.proofs.DataReadBack.{gaps_after-are_gaps, gaps_after, cells_from-profile_lines}
use Rattle.hd_sdf_write.proofs.DecimalsReadBack.{cells_at-most_places, data_for, decimals_from-profile_lines, type_read-with_places}

-- the lines of the known entries
known_group : (a b c d e f g h i j k l : List ℕ) → ((a ++ b ++ c ++ d ++ e) ++ (f ++ g ++ h ++ i)) ++ (j ++ k ++ l) ≡ a
    ++ (b ++ (c ++ (d ++ (e ++ (f ++ (g ++ (h ++ (i ++ (j ++ (k ++ (l ++ [])))))))))))
known_group a b c d e f g h i j k l = simp (append_assoc, append-nil) refl

known_lines : (f : File) → name_lines f ++ scale_lines f ++ encoding_lines f ≡ extra_lines (known f)
unfolding name_lines scale_lines encoding_lines
known_lines f = known_group
    (entry_line (codes "ManufacID") f.manufac_id) (entry_line (codes "CreateDate") f.create_date) (entry_line (codes "ModDate") f.mod_date)
    (entry_line (codes "NumPoints") (decimal f.map.size.points)) (entry_line (codes "NumProfiles") (decimal f.map.size.profiles))
    (entry_line (codes "Xscale") f.x_scale.literal) (entry_line (codes "Yscale") f.y_scale.literal) (entry_line (codes "Zscale") f.z_scale.literal)
    (entry_line (codes "Zresolution") f.z_resolution.literal) (entry_line (codes "Compression") (codes "0"))
    (entry_line (codes "DataType") (decimal (code_of f.map.data_type))) (entry_line (codes "CheckType") (codes "0"))

-- the parts of the text
parts_group : (a n s e x l p t : List ℕ) → a ++ n ++ s ++ e ++ x ++ l ++ p ++ t ≡ a ++ ((n ++ s ++ e ++ x) ++ (l ++ (p ++ t)))
parts_group a n s e x l p t = simp append_assoc refl

-- the data of a file, and what follows them
abbrev data_text : File → List ℕ
data_text f = profile_lines f.map f.map.size.profiles ++ end_lines f.trailer

-- the text from line 2 on
abbrev header_text : File → List ℕ
header_text f = extra_lines (entries_of f) ++ (line (codes "*") ++ data_text f)

canonical_is : (f : File) → canonical f ≡ version_text f.version ++ 10 ∷ header_text f
unfolding canonical
canonical_is f =
    let entries : name_lines f ++ scale_lines f ++ encoding_lines f ++ extra_lines f.extra ≡ extra_lines (entries_of f) =
    ap (λ (t : List ℕ). t ++ extra_lines f.extra) (known_lines f) ∙ sym (flat_map-append (λ (e : Extra). entry_line e.key e.value) (known f) f.extra) in
    parts_group (line (version_text f.version)) (name_lines f) (scale_lines f) (encoding_lines f) (extra_lines f.extra) (line (codes "*")) (profile_lines f.map f.map.size.profiles)
    (end_lines f.trailer)
    ∙ ap (λ (t : List ℕ). line (version_text f.version) ++ (t ++ (line (codes "*") ++ data_text f))) entries
    ∙ append_assoc (version_text f.version) (10 ∷ []) (header_text f)

-- a version is read from its line
version_reads : (v : Version) → version_of_line (version_text v) ≡ Some v
unfolding version_of_line
version_reads Bcr = refl
version_reads Iso = refl

version_one : (v : Version) → list_any is_line_feed (version_text v) ≡ false
version_one Bcr = refl
version_one Iso = refl

-- the lines of the text, and the version that it names
canonical_lines : (f : File) → lines_of (canonical f) ≡ version_text f.version ∷ lines_of (header_text f)
canonical_lines f = ap lines_of (canonical_is f) ∙ lines_of-front (version_text f.version) (header_text f) (version_one f.version)

version_found : (f : File) → version_of (lines_of (canonical f)) ≡ Ok f.version
version_found f = ap version_of (canonical_lines f) ∙ ap (λ (o : Option Version). ok_or o BadVersion) (version_reads f.version)

-- a trailer between LFs
trailer_trims : (trailer : List ℕ) → bytes_eq (trimmed_by is_gap trailer) trailer ≡ true → trimmed_by is_gap (10 ∷ cond (eqb (length trailer) 0) [] (line trailer)) ≡ trailer
trailer_trims [] good = refl
trailer_trims (x ∷ xs) good =
    let trims : IsTrimmed is_gap (x ∷ xs) = subst (IsTrimmed is_gap) ((bytes_eq-Decides (trimmed_by is_gap (x ∷ xs)) (x ∷ xs)).0 good) (IsTrimmed-trimmed_by is_gap (x ∷ xs)) in
    ap (λ b. trimmed_by is_gap (10 ∷ cond b [] (line (x ∷ xs)))) (ne_eqb (length (x ∷ xs)) 0 (λ none. omega (arith, none)))
    ∙ trimmed_by-around is_gap (10 ∷ []) (x ∷ xs) (10 ∷ []) refl refl trims

-- the end of the data and the trailer are read back
pub trailer_of-end_lines : (count : ℕ) (front trailer : List ℕ) → list_all is_gap front ≡ true → is_trailer trailer ≡ true → trailer_of count (front ++ end_lines trailer) ≡ Ok trailer
unfolding trailer_of end_lines
trailer_of-end_lines count front trailer gaps good =
    let more : List ℕ = cond (eqb (length trailer) 0) [] (line trailer) in
    let parts = and_parts _ (bytes_eq (trimmed_by is_gap trailer) trailer) good in
    let short = leb-true (length trailer) 65536 parts.0 in
    let token : token_of (front ++ end_lines trailer) ≡ codes "*" = token_of-front front (codes "*") 10 more gaps (omega arith) refl refl in
    let after : after_token (front ++ end_lines trailer) ≡ 10 ∷ more = after_token-front front (codes "*") 10 more gaps (omega arith) refl refl in
    let text : trimmed_by is_gap (after_token (front ++ end_lines trailer)) ≡ trailer = ap (trimmed_by is_gap) after ∙ trailer_trims trailer parts.1 in
    let fits : ltb 65536 (length trailer) ≡ false = le-ltb 65536 (length trailer) short in
    rw (token, text, fits) refl

-- the parts make the file
parts_are : (f : File) → HasForms f → file_with f.version (entries_of f) (required_keys_for f) (map_with f.map.size (type_read f.map) f.map.cells) f.trailer ≡ as_read f
parts_are f forms = rw (resolution_of-entries_of f forms, extra_entries-entries_of f forms) refl

-- a type of whole numbers has no places
whole_type : (t : DataType) → has_decimals t ≡ false → with_places t 0 ≡ t
whole_type U8 whole = refl
whole_type U16 whole = refl
whole_type U32 whole = refl
whole_type I8 whole = refl
whole_type I16 whole = refl
whole_type I32 whole = refl
whole_type (Single places) whole = cc
whole_type (Double places) whole = cc

same_kind : (t : DataType) → has_decimals (with_places t 0) ≡ has_decimals t
same_kind U8 = refl
same_kind U16 = refl
same_kind U32 = refl
same_kind I8 = refl
same_kind I16 = refl
same_kind I32 = refl
same_kind (Single places) = refl
same_kind (Double places) = refl

whole_type_read : (m : Map) → has_decimals m.data_type ≡ false → m.data_type ≡ type_read m
whole_type_read m whole = elim (cases_Bool (list_any is_height m.cells)) [
  | inl some ↦ rw some refl
  | inr none ↦ rw none (sym (whole_type m.data_type whole))
]

-- the map of a file is read from its lines
map_reads : (f : File) → IsMap f.map
    → mapped f.map.size (with_places f.map.data_type 0) (data_text f) ≡ Ok (record
    { map = map_with f.map.size (type_read f.map) f.map.cells; rest = gaps_after f.map.size.profiles ++ end_lines f.trailer })
map_reads f whole = elim (cases_Bool (has_decimals f.map.data_type)) [
  | inl type ↦
      let m : Map = f.map in
      let p : ℕ = places_of m.data_type in
      mapped-decimals m.size (with_places m.data_type 0) (data_text f) (record { items = data_for p m.cells; rest = gaps_after m.size.profiles ++ end_lines f.trailer })
      (same_kind m.data_type ∙ type) (decimals_from-profile_lines m (end_lines f.trailer) whole type)
      ∙ ap₂ (λ (t : DataType) (cells : List Cell). Ok (record { map = map_with m.size t cells; rest = gaps_after m.size.profiles ++ end_lines f.trailer }))
      (type_read-with_places m type) (cells_at-most_places m)
  | inr type ↦
      let m : Map = f.map in
      ap (λ (t : DataType). mapped m.size t (data_text f)) (whole_type m.data_type type)
      ∙ mapped-whole_numbers m.size m.data_type (data_text f) (record { cells = m.cells; rest = gaps_after m.size.profiles ++ end_lines f.trailer }) type
      (cells_from-profile_lines m (end_lines f.trailer) whole type)
      ∙ ap (λ (t : DataType). Ok (record { map = map_with m.size t m.cells; rest = gaps_after m.size.profiles ++ end_lines f.trailer })) (whole_type_read m type)
]

pub file_in-canonical : (f : File) → IsMap f.map → HasForms f → file_in (canonical f) ≡ Ok (as_read f)
file_in-canonical f whole forms =
    let is = canonical_is f in
    let one = version_one f.version in
    let lines = canonical_lines f in
    let version = version_found f in
    let second : after_lines 1 (canonical f) ≡ header_text f = ap after_line is ∙ after_line-front (version_text f.version) (header_text f) one in
    let reads = HeaderReads-extra_lines (entries_of f) [] 2 1 (canonical f) (header_text f) (data_text f) refl refl second (AllFollow-entries_of f whole forms) in
    let header : header_from 2 [] (drop 1 (lines_of (canonical f))) ≡ Ok (record { entries = entries_of f; last = reads.last }) =
    ap (λ (ls : List (List ℕ)). header_from 2 [] (drop 1 ls)) lines ∙ reads.header in
    let trailer = trailer_of-end_lines (f.map.size.profiles * f.map.size.points) (gaps_after f.map.size.profiles) f.trailer (gaps_after-are_gaps f.map.size.profiles) forms.trailer in
    file_in-whole_header (canonical f) f.version (record { entries = entries_of f; last = reads.last }) (data_text f) version header reads.rest_is
    ∙ body_in-whole_body f.version (entries_of f) (data_text f) (required_keys_for f)
    (record { map = map_with f.map.size (type_read f.map) f.map.cells; rest = gaps_after f.map.size.profiles ++ end_lines f.trailer }) f.trailer
    (required_keys_of-entries_of f whole forms) (map_reads f whole) trailer
    ∙ ap (λ (x : File). Ok x) (parts_are f forms)

-- the code of a type does not tell its places
same_code : (t : DataType) → code_of (with_places t 0) ≡ code_of t
same_code U8 = refl
same_code U16 = refl
same_code U32 = refl
same_code I8 = refl
same_code I16 = refl
same_code I32 = refl
same_code (Single places) = refl
same_code (Double places) = refl

-- a part of cells none of which was measured
none_in_drop : (n : ℕ) (cells : List Cell) → list_any is_height cells ≡ false → list_any is_height (drop n cells) ≡ false
none_in_drop zero cells none = none
none_in_drop (suc n) [] none = refl
none_in_drop (suc n) (cell ∷ cells) none = none_in_drop n cells (or_parts (is_height cell) (list_any is_height cells) none).1

none_in_take : (n : ℕ) (cells : List Cell) → list_any is_height cells ≡ false → list_any is_height (take n cells) ≡ false
none_in_take zero cells none = refl
none_in_take (suc n) [] none = refl
none_in_take (suc n) (cell ∷ cells) none =
    let parts = or_parts (is_height cell) (list_any is_height cells) none in
    or_from _ _ parts.0 (none_in_take n cells parts.1)

-- `BAD` is written alike for each type
bad_text : (t u : DataType) (cell : Cell) → is_height cell ≡ false → cell_text t cell ≡ cell_text u cell
bad_text t u Bad none = refl
bad_text t u (Height h) none = cc

bad_rest : (t u : DataType) (cells : List Cell) → list_any is_height cells ≡ false → flat_map (λ c. 32 ∷ cell_text t c) cells ≡ flat_map (λ c. 32 ∷ cell_text u c) cells
bad_rest t u [] none = refl
bad_rest t u (cell ∷ cells) none =
    let parts = or_parts (is_height cell) (list_any is_height cells) none in
    flat_map-cons (λ (c : Cell). 32 ∷ cell_text t c) cell cells
    ∙ ap₂ (λ (a b : List ℕ). 32 ∷ a ++ b) (bad_text t u cell parts.0) (bad_rest t u cells parts.1)
    ∙ sym (flat_map-cons (λ (c : Cell). 32 ∷ cell_text u c) cell cells)

bad_spaced : (t u : DataType) (cells : List Cell) → list_any is_height cells ≡ false → spaced t cells ≡ spaced u cells
bad_spaced t u [] none = refl
bad_spaced t u (cell ∷ cells) none =
    let parts = or_parts (is_height cell) (list_any is_height cells) none in
    ap₂ (λ (a b : List ℕ). a ++ b) (bad_text t u cell parts.0) (bad_rest t u cells parts.1)

bad_lines : (m : Map) (t : DataType) (y : ℕ) → list_any is_height m.cells ≡ false → profile_lines (typed t m) y ≡ profile_lines m y
unfolding profile_lines
bad_lines m t zero none = refl
bad_lines m t (suc y) none =
    let start : ℕ = y * m.size.points in
    ap₂ (λ (a b : List ℕ). a ++ line b) (bad_lines m t y none)
    (bad_spaced t m.data_type (profile m y) (none_in_take (start + m.size.points - start) (drop start m.cells) (none_in_drop start m.cells none)))

-- masks are not written
unmasked_lines : (m : Map) (y : ℕ) → profile_lines (unmasked m) y ≡ profile_lines m y
unfolding profile_lines
unmasked_lines m y = refl

pub canonical-unmasked : (f : File) → canonical (record f { map = unmasked f.map }) ≡ canonical f
unfolding canonical name_lines scale_lines encoding_lines profile_lines
canonical-unmasked f = refl

-- nor are the places of a type without heights
lines_stay : (m : Map) (y : ℕ) → profile_lines (typed (type_read m) (unmasked m)) y ≡ profile_lines m y
lines_stay m y = elim (cases_Bool (list_any is_height m.cells)) [
  | inl some ↦
      let type : type_read m ≡ m.data_type = rw some refl in
      ap (λ (t : DataType). profile_lines (typed t (unmasked m)) y) type ∙ unmasked_lines m y
  | inr none ↦ bad_lines (unmasked m) (type_read m) y none ∙ unmasked_lines m y
]

code_stays : (m : Map) → code_of (type_read m) ≡ code_of m.data_type
code_stays m = elim (cases_Bool (list_any is_height m.cells)) [
  | inl some ↦ rw some refl
  | inr none ↦ rw none (same_code m.data_type)
]

same_text : (f : File) → canonical (as_read f) ≡ canonical f
unfolding canonical name_lines scale_lines encoding_lines
same_text f = ap₂ (λ (code : ℕ) (rows : List ℕ). line (version_text f.version)
    ++ name_lines f
    ++ scale_lines f
    ++ (entry_line (codes "Compression") (codes "0") ++ entry_line (codes "DataType") (decimal code) ++ entry_line (codes "CheckType") (codes "0"))
    ++ extra_lines f.extra
    ++ line (codes "*")
    ++ rows
    ++ end_lines f.trailer)
    (code_stays f.map) (lines_stay f.map f.map.size.profiles)

-- a file that is saved, read and saved again
pub canonical-stays : (f again : File) → IsMap f.map → HasForms f → file_in (canonical f) ≡ Ok again → canonical again ≡ canonical f
canonical-stays f again whole forms read =
    let both : Ok (as_read f) ≡ Ok again = sym (file_in-canonical f whole forms) ∙ read in
    let same : as_read f ≡ again = cc in
    ap canonical (sym same) ∙ same_text f
