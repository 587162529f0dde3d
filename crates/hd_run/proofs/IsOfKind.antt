-- The kind of a certificate of which the first line is whole.
use Rattle.std.proofs.Common.{◌≡◌, ◌<◌, ◌+◌, ℕ, Bool, List, [], ◌∷◌, ◌++◌, length, take, drop, get_or, Result, Ok, Err, ◌⊎◌, inl, inr, refl, sym, ap, subst, ◌∙◌, arith, append-nil, append_assoc}
use Rattle.std.specs.List.{slice_split}
use Rattle.std.proofs.lemmas.List.{drop_more, take-append-drop}
use Rattle.std.proofs.lemmas.List.Splits.{length-slice_split}
use Rattle.hd_audit.proofs.EndsLine.{lines_of-joined}
use Rattle.hd_num.specs.Lines.{is_line_feed, lines_of}
use Rattle.hd_run.specs.CertificateReader.{IsOfKind}
use Rattle.hd_check.specs.declared.types.CertificateError.{CertificateError}
use Rattle.hd_check.specs.declared.types.CertificateError.TheVariants as unread
use Rattle.hd_check.specs.declared.types.Verdict.{Verdict}
use Rattle.hd_map.specs.Map.{Map}
use Rattle.hd_run.specs.declared.stop.Stop.{Stop}
use Rattle.hd_run.specs.declared.stop.Stop.TheVariants.{Memory, ReadFault, WriteFault, Refused}
use Rattle.hd_run.specs.Outcome.{IsOutcomeOfKind, IsOutcomeOfReading, begins_pruning}
use Rattle.hd_run.specs.RunResult.{IsJudged, IsJudgedAs}

-- the kind hangs on the first of the lines
kind-first : (lines more other : List (List ℕ)) → 0 < length lines → begins_pruning (lines ++ more) ≡ begins_pruning (lines ++ other)
kind-first [] more other some = absurd (omega (arith, some))
kind-first (line ∷ lines) more other some = refl

-- behind a line feed it stays what it is
IsOfKind-line : (before after : List ℕ) → IsOfKind (begins_pruning (lines_of (before ++ 10 ∷ after))) (before ++ 10 ∷ after)
IsOfKind-line before after = λ more.
    ap (λ (xs : List ℕ). begins_pruning (lines_of xs)) (append_assoc before (10 ∷ after) more) ∙ ap begins_pruning (lines_of-joined before (after ++ more))
    ∙ kind-first (slice_split is_line_feed before) (lines_of (after ++ more)) (lines_of after) (omega (arith, length-slice_split is_line_feed before))
    ∙ sym (ap begins_pruning (lines_of-joined before after))

-- a piece has a line feed
pub IsOfKind-piece : (text piece whole : List ℕ) (place : ℕ) → place < length piece → get_or piece place 0 ≡ 10 → whole ≡ text ++ piece → IsOfKind (begins_pruning (lines_of whole)) whole
IsOfKind-piece text piece whole place inside feed is =
    let cut : piece ≡ take place piece ++ 10 ∷ drop (place + 1) piece =
    sym (take-append-drop place piece) ∙ ap (λ (xs : List ℕ). take place piece ++ xs) (drop_more piece place 0 inside ∙ ap (λ (x : ℕ). x ∷ drop (place + 1) piece) feed) in
    let same : whole ≡ (text ++ take place piece) ++ 10 ∷ drop (place + 1) piece =
    is ∙ ap (λ (xs : List ℕ). text ++ xs) cut ∙ sym (append_assoc text (take place piece) (10 ∷ drop (place + 1) piece)) in
    subst (λ (xs : List ℕ). IsOfKind (begins_pruning (lines_of xs)) xs) (sym same) (IsOfKind-line (text ++ take place piece) (drop (place + 1) piece))

-- it stays with more bytes
pub IsOfKind-more : (kind : Bool) (bytes piece : List ℕ) → IsOfKind kind bytes → IsOfKind kind (bytes ++ piece)
IsOfKind-more kind bytes piece is = λ more. ap (λ (xs : List ℕ). begins_pruning (lines_of xs)) (append_assoc bytes piece more) ∙ is (piece ++ more)

-- it is that of the bytes
IsOfKind-whole : (kind : Bool) (bytes : List ℕ) → IsOfKind kind bytes → begins_pruning (lines_of bytes) ≡ kind
IsOfKind-whole kind bytes is = ap (λ (xs : List ℕ). begins_pruning (lines_of xs)) (sym (append-nil bytes)) ∙ is []

-- what is judged by its kind
pub IsJudged-by_kind : {T : Type 0} (m : Map) (kind : Bool) (bytes : List ℕ) (result : Result T Stop) → IsOfKind kind bytes
    → IsJudgedAs {T = T} (IsOutcomeOfKind kind m bytes) result → IsJudged {T = T} m bytes result
IsJudged-by_kind {T} m kind bytes result is judged = subst (λ (k : Bool). IsJudgedAs {T = T} (IsOutcomeOfKind k m bytes) result) (sym (IsOfKind-whole kind bytes is)) judged

-- what was read of a certificate is what its bytes say, unless memory was refused
pub IsJudgedAs-read : {T C : Type 0} (Is : C → Verdict → Type 0) (read told : Result C CertificateError) (result : Result T Stop) → (read ≡ Err unread.Memory) ⊎ (read ≡ told)
    → IsJudgedAs {T = T} (IsOutcomeOfReading Is read) result → IsJudgedAs {T = T} (IsOutcomeOfReading Is told) result
IsJudgedAs-read {T} {C} Is read told result (inr same) judged = subst (λ (r : Result C CertificateError). IsJudgedAs {T = T} (IsOutcomeOfReading Is r) result) same judged
IsJudgedAs-read {T} {C} Is read told result (inl memory) judged = unjudged result (subst (λ (r : Result C CertificateError). IsJudgedAs {T = T} (IsOutcomeOfReading Is r) result) memory judged)
  where
    unjudged : (result : Result T Stop) → IsJudgedAs {T = T} (IsOutcomeOfReading Is (Err unread.Memory)) result → IsJudgedAs {T = T} (IsOutcomeOfReading Is told) result
    unjudged (Ok done) (line, is, e) = absurd (cc)
    unjudged (Err (Refused refusal)) (line, is, e) = absurd (cc)
    unjudged (Err Memory) h = h
    unjudged (Err ReadFault) h = h
    unjudged (Err WriteFault) h = h
