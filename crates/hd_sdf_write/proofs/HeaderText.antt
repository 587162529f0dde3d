-- The lines of entries are read as these entries.
use Rattle.std.proofs.Common.{◌≡◌, ◌+◌, ℕ, suc, List, [], ◌∷◌, ◌++◌, Some, None, Ok, Err, refl, sym, ap, arith, ◌∙◌, append_assoc, append-nil}
use Rattle.std.specs.Prelude.{codes}
use Rattle.std.proofs.lemmas.Bool.{and_parts}
use Rattle.std.proofs.lemmas.List.Concat.{flat_map-cons}
use Rattle.hd_num.specs.Lines.{after_line, lines_of}
use Rattle.hd_sdf_read.specs.declared.error.SdfError.{SdfError}
use Rattle.hd_sdf_read.specs.declared.file.Extra.{Extra}
use Rattle.hd_sdf_read.specs.Entries.{Keyed, Kind, header_by, header_from, kind_of, offence, unless}
use Rattle.hd_sdf_read.specs.File.{is_header_key, is_header_value}
use Rattle.hd_sdf_read.specs.Grammar.{after_lines}
use Rattle.hd_sdf_read.proofs.AllFollow.{AllFollow}
use Rattle.hd_sdf_write.specs.Canonical.{entry_line, entry_text, extra_lines, line}
use Rattle.hd_sdf_read.proofs.TextFronts.{after_line-front, lines_of-front}
use Rattle.hd_sdf_write.proofs.EntryLines.{entry_text-one_line, kind_of-entry_text, kind_of-star}

-- the header that a text is, and the text after it
pub record HeaderReads (n : ℕ) (bytes text : List ℕ) (before es : List Extra) (rest : List ℕ) : Type 0 where
  pub last : ℕ
  pub header : header_from n before (lines_of text) ≡ Ok (record { entries = before ++ es; last = last })
  pub rest_is : after_lines last bytes ≡ rest

header_keyed : (n : ℕ) (before : List Extra) (text : List ℕ) (lines : List (List ℕ)) (e : Extra) → kind_of text ≡ Keyed e → offence n before e ≡ None
    → header_from n before (text ∷ lines) ≡ header_from (n + 1) (before ++ e ∷ []) lines
unfolding header_from
header_keyed n before text lines e kind good =
    ap (λ (k : Kind). header_by n before k (λ entries. header_from (n + 1) entries lines)) kind ∙ ap (λ o. unless o (header_from (n + 1) (before ++ e ∷ []) lines)) good

header_wrong : (n : ℕ) (before : List Extra) (text : List ℕ) (lines : List (List ℕ)) (e : Extra) (refusal : SdfError) → kind_of text ≡ Keyed e → offence n before e ≡ Some refusal
    → header_from n before (text ∷ lines) ≡ Err refusal
unfolding header_from
header_wrong n before text lines e refusal kind wrong =
    ap (λ (k : Kind). header_by n before k (λ entries. header_from (n + 1) entries lines)) kind ∙ ap (λ o. unless o (header_from (n + 1) (before ++ e ∷ []) lines)) wrong

header_ends : (n : ℕ) (before : List Extra) (lines : List (List ℕ)) → header_from n before (codes "*" ∷ lines) ≡ Ok (record { entries = before; last = n })
unfolding header_from
header_ends n before lines = ap (λ (k : Kind). header_by n before k (λ entries. header_from (n + 1) entries lines)) kind_of-star

-- the first of the lines
entry_front : (e : Extra) (es : List Extra) (rest : List ℕ) → extra_lines (e ∷ es) ++ rest ≡ entry_text e.key e.value ++ 10 ∷ (extra_lines es ++ rest)
unfolding entry_line
entry_front e es rest =
    ap (λ (t : List ℕ). t ++ rest) (flat_map-cons (λ (x : Extra). entry_line x.key x.value) e es) ∙ append_assoc (entry_line e.key e.value) (extra_lines es) rest
    ∙ append_assoc (entry_text e.key e.value) (10 ∷ []) (extra_lines es ++ rest)

-- the lines of such entries and the end of the header
pub HeaderReads-extra_lines : (es before : List Extra) (n k : ℕ) (bytes text rest : List ℕ) → n ≡ suc k → text ≡ extra_lines es ++ (line (codes "*") ++ rest)
    → after_lines k bytes ≡ text → AllFollow before es
    → HeaderReads n bytes text before es rest
HeaderReads-extra_lines [] before n k bytes text rest is whole at good = record {
  last = n;
  header = ap (header_from n before) (ap lines_of whole ∙ lines_of-front (codes "*") rest refl) ∙ header_ends n before (lines_of rest)
      ∙ ap (λ (entries : List Extra). Ok (record { entries = entries; last = n })) (sym (append-nil before));
  rest_is = ap (λ m. after_lines m bytes) is ∙ ap after_line (at ∙ whole) ∙ after_line-front (codes "*") rest refl;
}
HeaderReads-extra_lines (e ∷ es) before n k bytes text rest is whole at good =
    let after : List ℕ = extra_lines es ++ (line (codes "*") ++ rest) in
    let front : text ≡ entry_text e.key e.value ++ 10 ∷ after = whole ∙ entry_front e es (line (codes "*") ++ rest) in
    let parts = and_parts (is_header_key e.key) (is_header_value e.value) good.0 in
    let one = entry_text-one_line e.key e.value parts.0 parts.1 in
    let lines : lines_of text ≡ entry_text e.key e.value ∷ lines_of after = ap lines_of front ∙ lines_of-front (entry_text e.key e.value) after one in
    let onward : after_lines n bytes ≡ after = ap (λ m. after_lines m bytes) is ∙ ap after_line (at ∙ front) ∙ after_line-front (entry_text e.key e.value) after one in
    let next : n + 1 ≡ suc n = omega arith in
    let more = HeaderReads-extra_lines es (before ++ e ∷ []) (n + 1) n bytes after rest next refl onward good.2 in
    record {
      last = more.last;
      header = ap (header_from n before) lines ∙ header_keyed n before (entry_text e.key e.value) (lines_of after) e (kind_of-entry_text e.key e.value parts.0 parts.1) (good.1 n)
          ∙ more.header ∙ ap (λ (entries : List Extra). Ok (record { entries = entries; last = more.last })) (append_assoc before (e ∷ []) es);
      rest_is = more.rest_is;
    }
