-- A certificate is read on by a line.
use Rattle.std.proofs.Common.{◌≡◌, ◌≢◌, ◌+◌, ◌-◌, ◌<◌, ℕ, suc, List, [], ◌∷◌, ◌++◌, length, map, Option, Some, None, Ok, Err, refl, sym, ap, ◌∙◌, append_assoc, arith}
use Rattle.std.proofs.lemmas.List.{length-append}
use Rattle.hd_check.specs.declared.types.CertificateError.TheVariants.{BadLine}
use Rattle.hd_check.specs.Reading.{Lines, Read, and_then, line_gives}
use Rattle.hd_num.specs.Lines.{lines_of, words_of}
use Rattle.hd_audit.specs.declared.stage.Stage.{Stage}
use Rattle.hd_audit.specs.declared.types.Audit.{Audit}
use Rattle.hd_audit.specs.declared.types.AuditLine.{AuditLine}
use Rattle.hd_audit.specs.declared.words.AuditHead as words
use Rattle.hd_audit.specs.Plain.{BeginsWithLine}
use Rattle.hd_audit.specs.Reading.{point_form, points_in}
use Rattle.hd_audit.specs.Stages.{after_points, Leads, go_on, numbered, words_in}

-- the certificate, or the first line that has not its form, where so many points are to come after these
abbrev pub points_on : words.AuditHead → List AuditLine → ℕ → Lines → Read Audit
points_on head lines left rest = and_then (points_in left rest) (λ more rest. after_points head (lines ++ more) rest)

module _ (head : words.AuditHead) (lines : List AuditLine) where
  -- what follows one more point follows the points with it
  one_more : (x : AuditLine) (r : Read (List AuditLine))
      → and_then (and_then r (λ xs rest. Ok (x ∷ xs, rest))) (λ more rest. after_points head (lines ++ more) rest) ≡ and_then r (λ more rest. after_points head ((lines ++ x ∷ []) ++ more) rest)
  one_more x (Ok r) = ap (λ (ys : List AuditLine). after_points head ys r.1) (sym (append_assoc lines (x ∷ []) r.0))
  one_more x (Err e) = refl

  module _ (left number : ℕ) (some : left ≢ 0) (words : List (List ℕ)) (more : List (List (List ℕ))) where
    -- the next point, by its form
    point_by : (o : Option AuditLine) → point_form words ≡ o → points_on head lines left (numbered number (words ∷ more))
        ≡ and_then (and_then (line_gives number more o) (λ x rest. and_then (points_in (left - 1) rest) (λ xs rest. Ok (x ∷ xs, rest)))) (λ more rest. after_points head (lines ++ more) rest)
    point_by o form =
        let step : left ≡ suc (left - 1) = omega (arith, some) in
        ap (λ (n : ℕ). points_on head lines n (numbered number (words ∷ more))) step
        ∙ ap (λ (o : Option AuditLine). and_then (and_then (line_gives number more o) (λ x rest. and_then (points_in (left - 1) rest) (λ xs rest. Ok (x ∷ xs, rest))))
        (λ more rest. after_points head (lines ++ more) rest)) form

    pub points_on-read : (x : AuditLine) → point_form words ≡ Some x → points_on head lines left (numbered number (words ∷ more))
        ≡ points_on head (lines ++ x ∷ []) (left - 1) (numbered (number + 1) more)
    points_on-read x form = point_by (Some x) form ∙ one_more x (points_in (left - 1) (numbered (number + 1) more))

    pub points_on-unread : point_form words ≡ None → points_on head lines left (numbered number (words ∷ more)) ≡ Err (BadLine number)
    points_on-unread form = point_by None form

  -- the first line of a text is that of the next point
  pub points_on-plain : (left number : ℕ) (text rest : List ℕ) (x : AuditLine) → left ≢ 0 → BeginsWithLine text x rest → (more : List (List (List ℕ)))
      → points_on head lines left (numbered number (words_in text ++ more)) ≡ points_on head (lines ++ x ∷ []) (left - 1) (numbered (number + 1) (words_in rest ++ more))
  points_on-plain left number text rest x some begins more =
      ap (λ (ls : List (List (List ℕ))). points_on head lines left (numbered number (ls ++ more))) begins.lines ∙ points_on-read left number some begins.words (words_in rest ++ more) x begins.form

-- fewer bytes are left behind it
pub BeginsWithLine-shorter : (text rest : List ℕ) (x : AuditLine) → BeginsWithLine text x rest → length rest < length text
BeginsWithLine-shorter text rest x begins = let some = begins.some in omega (arith, some, ap length begins.whole, length-append begins.front rest)

module _ (old : Stage) (number : ℕ) (text line rest : List ℕ) (first : lines_of text ≡ line ∷ lines_of rest) (more : List (List (List ℕ))) where
  -- the first line of a text is read
  pub go_on-line : (new : Stage) → Leads old number (words_of line ∷ []) new (number + 1)
      → go_on old (numbered number (words_in text ++ more)) ≡ go_on new (numbered (number + 1) (words_in rest ++ more))
  go_on-line new leads = ap (λ (ls : List (List ℕ)). go_on old (numbered number (map words_of ls ++ more))) first ∙ leads (words_in rest ++ more)
