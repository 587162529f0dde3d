-- The text of a pruning certificate is read as this certificate.
use Rattle.std.proofs.Common.{◌≡◌, ◌≢◌, ◌<◌, ◌≤◌, ◌+◌, ◌/◌, ◌%◌, ◌^◌, ◌&&◌, ◌==◌, ℕ, zero, suc, List, [], ◌∷◌, ◌++◌, length, length-append, map, take}
use Rattle.std.proofs.Common.{get_or, Bool, true, false, Option, Some, None, Ok, refl, ap, ap₂, ◌∙◌, arith, ne_eqb, if◌then◌else◌}
use Rattle.std.specs.Prelude.{IfSome, codes, decimal}
use Rattle.std.specs.List.{list_all}
use Rattle.std.specs.Str.{bytes_eq}
use Rattle.hd_map.specs.declared.types.Adjacency.{Adjacency}
use Rattle.hd_map.specs.declared.types.Adjacency.TheVariants.{Four, Six, Eight}
use Rattle.hd_map.specs.declared.types.SideName.{SideName}
use Rattle.hd_map.specs.declared.types.SideName.TheVariants.{Dales, Hills}
use Rattle.hd_num.specs.declared.percent.Percent.{Percent}
use Rattle.std.proofs.lemmas.Bool.{and_from, and_parts}
use Rattle.std.proofs.lemmas.Bool.Decides.{nat_tests}
use Rattle.std.proofs.lemmas.Fmt.{decimal_nonempty}
use Rattle.std.proofs.lemmas.List.Folds.{list_all-append}
use Rattle.hd_num.specs.Percent.{digits_left, fraction_text, percent_text, three_digits}
use Rattle.hd_num.proofs.PercentReadsBack.{percent_of-percent_text}
use Rattle.hd_num.proofs.WholeReadsBack.{count_of-decimal, decimal-first}
use Rattle.hd_check.specs.Reading.{Read, adjacency_of, and_then, line_as, line_gives, side_of, value_of}
use Rattle.hd_check.specs.Text.{adjacency_word, side_word}
use Rattle.hd_check.proofs.ReadsBack.{AreLines, IsWord, adjacency_word-clear, count_form-counted, IsWord-decimal, IsWord-filled, numbered-from_line}
use Rattle.hd_check.proofs.ReadsBack.{is_clear, AreLines-items, lines_of-line_text, AreWords-number, side_word-clear, IsWord-end}
use Rattle.hd_audit.specs.declared.types.Audit.{Audit}
use Rattle.hd_audit.specs.declared.types.AuditLine.{AuditLine}
use Rattle.hd_audit.specs.declared.words.AuditHead.{AuditHead}
use Rattle.hd_audit.specs.Stages.{after_head, after_points}
use Rattle.hd_audit.specs.Reading.{audit_of, count_or_none, given, head_form, head_of_parts, line_of_parts, point_form}
use Rattle.hd_audit.specs.Text.{audit_lines, audit_text, count_word, point_words}
use Rattle.hd_audit.specs.Writable.{IsWritable, IsWritableLine}

-- the words that stand in each certificate
word_pruning : IsWord (codes "pruning")
word_pruning = record { some = refl; clear = refl }

word_points : IsWord (codes "points")
word_points = record { some = refl; clear = refl }

word_none : IsWord (codes "-")
word_none = record { some = refl; clear = refl }

-- a count or none is a word, and reads back
count_clear : (o : Option ℕ) → IfSome o (λ n. n < 2 ^ 32) → IsWord (count_word o)
count_clear (Some n) small = IsWord-decimal n (omega (arith, small))
count_clear None small = word_none

count_back : (o : Option ℕ) → IfSome o (λ n. n < 2 ^ 32) → count_or_none (count_word o) ≡ Some o
count_back (Some n) small =
    ap₂ (λ (b : Bool) (o : Option ℕ). if b then Some None else given o) (no_dash (decimal n) (decimal-first n 45 (omega (arith, small)) (omega arith))) (count_of-decimal n small)
  where
    no_dash : (w : List ℕ) → get_or w 0 0 ≢ 45 → bytes_eq w (codes "-") ≡ false
    no_dash [] ne = refl
    no_dash (b ∷ w) ne = ap (λ (t : Bool). t && bytes_eq w []) (ne_eqb b 45 ne)
count_back None small = refl

-- so does a line
line_clear : (x : AuditLine) → IsWritableLine x → AreLines (point_words x ∷ [])
line_clear x fits = let small = fits.index in ((IsWord-decimal x.index (omega arith), (count_clear x.parent fits.parent, (count_clear x.cut fits.cut, tt))), tt)

line_back : (x : AuditLine) → IsWritableLine x → point_form (point_words x) ≡ Some x
line_back x fits =
    ap (λ (i : Option ℕ). line_of_parts i (count_or_none (count_word x.parent)) (count_or_none (count_word x.cut))) (count_of-decimal x.index fits.index)
    ∙ ap₂ (λ (p c : Option (Option ℕ)). line_of_parts (Some x.index) p c) (count_back x.parent fits.parent) (count_back x.cut fits.cut)

-- a percent is a word
percent_clear : (t : ℕ) → t ≤ 100000 → IsWord (percent_text t)
percent_clear t most =
    let w : ℕ = t / 1000 in
    let f : ℕ = t % 1000 in
    let wholes = IsWord-decimal w (omega arith) in
    let rest = fraction_clear f (omega arith) in
    let some : 0 < length (percent_text t) = omega (arith, decimal_nonempty w (omega arith), length-append {A = ℕ} (decimal w) (fraction_text f ++ 37 ∷ [])) in
    record {
      some = IsWord-filled (percent_text t) some;
      clear = list_all-append is_clear (decimal w) (fraction_text f ++ 37 ∷ []) ∙ and_from _ _ wholes.clear (list_all-append is_clear (fraction_text f) (37 ∷ []) ∙ and_from _ _ rest refl);
    }
  where
    digit_clear : (a : ℕ) → a < 10 → is_clear (48 + a) ≡ true
    digit_clear a small = grind (arith, nat_tests)

    take_clear : (k : ℕ) (xs : List ℕ) → list_all is_clear xs ≡ true → list_all is_clear (take k xs) ≡ true
    take_clear zero xs all = refl
    take_clear (suc k) [] all = refl
    take_clear (suc k) (x ∷ xs) all = and_from _ _ (and_parts _ _ all).0 (take_clear k xs (and_parts _ _ all).1)

    digits_clear : (f : ℕ) → f < 1000 → list_all is_clear (three_digits f) ≡ true
    digits_clear f small = and_from _ _ (digit_clear (f / 100) (omega arith)) (and_from _ _ (digit_clear (f / 10 % 10) (omega arith)) (and_from _ _ (digit_clear (f % 10) (omega arith)) refl))

    fraction_clear : (f : ℕ) → f < 1000 → list_all is_clear (fraction_text f) ≡ true
    fraction_clear f small = elim (f == 0) as (λ (b : Bool). list_all is_clear (if b then [] else (46 ∷ take (digits_left f) (three_digits f))) ≡ true) [
      | true ↦ refl
      | false ↦ take_clear (digits_left f) (three_digits f) (digits_clear f small)
    ]

-- what the words of a side and a setting give, with a percent
abbrev parts_of : SideName → Option Percent → Adjacency → Option AuditHead
parts_of side p adjacency = head_of_parts (side_of (side_word side)) p (adjacency_of (adjacency_word adjacency))

-- the first line reads back
head_back : (side : SideName) (t : ℕ) (adjacency : Adjacency) → t ≤ 100000 → head_form (codes "pruning" ∷ side_word side ∷ percent_text t ∷ adjacency_word adjacency ∷ [])
    ≡ Some (record { side = side; percent = record { thousandths = t }; adjacency = adjacency })
head_back side t adjacency most = ap (λ (p : Option Percent). parts_of side p adjacency) (percent_of-percent_text t most) ∙ back side adjacency
  where
    back : (side : SideName) (adjacency : Adjacency) → parts_of side (Some (record { thousandths = t })) adjacency
        ≡ Some (record { side = side; percent = record { thousandths = t }; adjacency = adjacency })
    back Dales Four = refl
    back Dales Six = refl
    back Dales Eight = refl
    back Hills Four = refl
    back Hills Six = refl
    back Hills Eight = refl

-- the lines from that of the number of points on
abbrev points_part : List AuditLine → List (List (List ℕ))
points_part lines = (codes "points" ∷ decimal (length lines) ∷ []) ∷ (map point_words lines ++ (codes "end" ∷ []) ∷ [])

all_clear : (a : Audit) → IsWritable a → AreLines (audit_lines a)
all_clear a is = (
  (word_pruning, (side_word-clear a.side, (percent_clear a.percent.thousandths is.percent, (adjacency_word-clear a.adjacency, tt)))),
  (AreWords-number (codes "points") (length a.lines) word_points is.few, AreLines-items point_words IsWritableLine line_clear a.lines is.each ((codes "end" ∷ []) ∷ []) ((IsWord-end, tt), tt)),
)

-- the text of a pruning certificate is read as this certificate
pub audit_of-audit_text : (a : Audit) → IsWritable a → audit_of (audit_text a) ≡ Ok a
audit_of-audit_text a is =
    let head : AuditHead = record { side = a.side; percent = a.percent; adjacency = a.adjacency } in
    let more = count_form-counted point_words point_form IsWritableLine line_back (codes "points") refl a.lines 2 ((codes "end" ∷ []) ∷ []) is.few is.each in
    ap (λ (lines : List (List (List ℕ))). value_of (and_then (line_as head_form (numbered-from_line 1 lines)) after_head)) (lines_of-line_text (audit_lines a) (all_clear a is))
    ∙ ap (λ (o : Option AuditHead). value_of (and_then (line_gives 1 (points_part a.lines) o) after_head)) (head_back a.side a.percent.thousandths a.adjacency is.percent)
    ∙ ap (λ (r : Read (List AuditLine)). value_of (and_then r (after_points head))) more.1
