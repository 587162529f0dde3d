-- Borders listed as lines between kept pits, one after the other.
use Rattle.std.proofs.Common.{◌≡◌, ◌+◌, ◌∙◌, ℕ, Bool, inl, inr, List, [], ◌∷◌, ◌++◌, get_or, slice_get, Some, sym, ap, arith}
use Rattle.std.proofs.lemmas.Bool.{cases_eq}
use Rattle.std.proofs.lemmas.List.{length_push}
use Rattle.std.proofs.lemmas.Option.{get_or_from_slice_get}
use Rattle.hd_map.proofs.Places.{get-push_new, get-push_old}
use Rattle.hd_prune.specs.declared.step.Kept.{Kept}
use Rattle.hd_steep.specs.declared.border.Border.{Border}
use Rattle.hd_lines.specs.declared.line.BorderLine.{BorderLine}
use Rattle.hd_lines.specs.Listed.{AreListed, line_of}

pub AreListed-none : (kept : List Kept) (borders : List Border) (firsts : List Bool) → AreListed kept borders firsts 0 []
AreListed-none kept borders firsts = record { whole = omega arith; each = λ k l a b first less at at_a at_b is. absurd (omega arith) }

pub AreListed-more : (kept : List Kept) (borders : List Border) (firsts : List Bool) (n : ℕ) (d : Border) (e : Kept) (f : Bool) (lines : List BorderLine) → AreListed kept borders firsts n lines
    → AreListed kept borders firsts (n + 1) (lines ++ line_of (get_or borders n d) (get_or kept (get_or borders n d).a e) (get_or kept (get_or borders n d).b e) (get_or firsts n f) ∷ [])
AreListed-more kept borders firsts n d e f lines before =
    let x : BorderLine = line_of (get_or borders n d) (get_or kept (get_or borders n d).a e) (get_or kept (get_or borders n d).b e) (get_or firsts n f) in
    record {
      whole = length_push lines x ∙ ap (λ k. k + 1) before.whole;
      each = λ k l a b first less at at_a at_b is. elim (cases_eq k n) [
        | inl same ↦
            let border : get_or borders n d ≡ l = ap (λ j. get_or borders j d) (sym same) ∙ get_or_from_slice_get borders k l d at in
            let flag : get_or firsts n f ≡ first = ap (λ j. get_or firsts j f) (sym same) ∙ get_or_from_slice_get firsts k first f is in
            let line : x ≡ line_of l a b first =
            ap (λ (z : Border). line_of z (get_or kept z.a e) (get_or kept z.b e) (get_or firsts n f)) border
            ∙ ap (λ (z : Kept). line_of l z (get_or kept l.b e) (get_or firsts n f)) (get_or_from_slice_get kept l.a a e at_a)
            ∙ ap (λ (z : Kept). line_of l a z (get_or firsts n f)) (get_or_from_slice_get kept l.b b e at_b)
            ∙ ap (line_of l a b) flag in
            ap (slice_get (lines ++ x ∷ [])) (same ∙ sym before.whole) ∙ get-push_new lines x ∙ ap Some line
        | inr other ↦ get-push_old lines x (line_of l a b first) k (before.each k l a b first (omega arith) at at_a at_b is)
      ];
    }
