-- What ends with a line feed ends a line.
use Rattle.std.proofs.Common.{◌≡◌, ◌<◌, ◌+◌, ℕ, Bool, true, false, List, [], ◌∷◌, ◌++◌, length, take, drop, get_or, refl, sym, ap, ap₂, subst, ◌∙◌, arith, append_assoc, append-nil}
use Rattle.std.specs.List.{onto_first, slice_split}
use Rattle.std.proofs.lemmas.List.{take-append-drop, take_more}
use Rattle.std.proofs.lemmas.List.Splits.{length-slice_split, slice_split-cons_no, slice_split-cons_yes}
use Rattle.hd_num.specs.Lines.{is_line_feed, lines_of, without_empty_last}
use Rattle.hd_audit.specs.Pieces.{EndsLine, IsCutAfterLine}

-- a byte goes to the first of the pieces
onto_first-append : (x : ℕ) (ps qs : List (List ℕ)) → 0 < length ps → onto_first x (ps ++ qs) ≡ onto_first x ps ++ qs
onto_first-append x [] qs some = absurd (omega (arith, some))
onto_first-append x (p ∷ ps) qs some = refl

-- the pieces before a line feed and those behind it
pieces_joined : (front more : List ℕ) → slice_split is_line_feed (front ++ 10 ∷ more) ≡ slice_split is_line_feed front ++ slice_split is_line_feed more
pieces_joined [] more = slice_split-cons_yes is_line_feed 10 more refl
pieces_joined (x ∷ front) more = by_test (pieces_joined front more) (is_line_feed x) refl
  where
    by_test : slice_split is_line_feed (front ++ 10 ∷ more) ≡ slice_split is_line_feed front ++ slice_split is_line_feed more → (b : Bool) → is_line_feed x ≡ b
        → slice_split is_line_feed (x ∷ (front ++ 10 ∷ more)) ≡ slice_split is_line_feed (x ∷ front) ++ slice_split is_line_feed more
    by_test rest true feed =
        slice_split-cons_yes is_line_feed x (front ++ 10 ∷ more) feed ∙ ap (λ (ps : List (List ℕ)). [] ∷ ps) rest
        ∙ sym (ap (λ (ps : List (List ℕ)). ps ++ slice_split is_line_feed more) (slice_split-cons_yes is_line_feed x front feed))
    by_test rest false other =
        slice_split-cons_no is_line_feed x (front ++ 10 ∷ more) other ∙ ap (onto_first x) rest
        ∙ onto_first-append x (slice_split is_line_feed front) (slice_split is_line_feed more) (omega (arith, length-slice_split is_line_feed front))
        ∙ sym (ap (λ (ps : List (List ℕ)). ps ++ slice_split is_line_feed more) (slice_split-cons_no is_line_feed x front other))

-- only the last of the pieces may go
without_empty_last-append : (ps qs : List (List ℕ)) → 0 < length qs → without_empty_last (ps ++ qs) ≡ ps ++ without_empty_last qs
without_empty_last-append [] qs some = refl
without_empty_last-append (p ∷ []) [] some = absurd (omega (arith, some))
without_empty_last-append (p ∷ []) (q ∷ qs) some = refl
without_empty_last-append (p ∷ o ∷ ps) qs some = ap (λ (rest : List (List ℕ)). p ∷ rest) (without_empty_last-append (o ∷ ps) qs some)

pub lines_of-joined : (front more : List ℕ) → lines_of (front ++ 10 ∷ more) ≡ slice_split is_line_feed front ++ lines_of more
lines_of-joined front more =
    ap without_empty_last (pieces_joined front more)
    ∙ without_empty_last-append (slice_split is_line_feed front) (slice_split is_line_feed more) (omega (arith, length-slice_split is_line_feed more))

-- a text that ends with a line feed
EndsLine-feed : (front : List ℕ) → EndsLine (front ++ 10 ∷ [])
EndsLine-feed front = λ more.
    ap lines_of (append_assoc front (10 ∷ []) more) ∙ lines_of-joined front more
    ∙ ap (λ (ls : List (List ℕ)). ls ++ lines_of more) (sym (lines_of-joined front [] ∙ append-nil (slice_split is_line_feed front)))

-- a text is cut behind a line feed
pub IsCutAfterLine-found : (text first rest : List ℕ) (place : ℕ) → place < length text → get_or text place 0 ≡ 10 → first ≡ take (place + 1) text → rest ≡ drop (place + 1) text
    → IsCutAfterLine text first rest
IsCutAfterLine-found text first rest place inside feed is_first is_rest = record {
  whole = sym (ap₂ (λ (xs ys : List ℕ). xs ++ ys) is_first is_rest ∙ take-append-drop (place + 1) text);
  ends = λ front. subst EndsLine (append_assoc front (take place text) (10 ∷ []) ∙ ap (λ (xs : List ℕ). front ++ xs) (sym first_ends)) (EndsLine-feed (front ++ take place text));
}
  where
    first_ends : first ≡ take place text ++ 10 ∷ []
    first_ends = is_first ∙ take_more text place 0 inside ∙ ap (λ (x : ℕ). take place text ++ x ∷ []) feed
