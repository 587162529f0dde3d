-- The lines of the kept pits, with which a shown certificate begins.
use Rattle.std.proofs.Common.{◌≡◌, ◌∙◌, ◌<◌, ◌+◌, ◌*◌, ℕ, zero, suc, ℤ, Bool, true, false, List, [], ◌∷◌, ◌++◌, length, get_or, replicate, set, None, inl, inr, refl, sym, ap, subst, arith}
use Rattle.std.specs.Prelude.{All, AllPairs, Contains, pos}
use Rattle.std.specs.List.{sum_by}
use Rattle.std.proofs.Math.ListN.{length-set}
use Rattle.std.proofs.lemmas.Bool.{cases_lt, false_from_ne_true, false≢true}
use Rattle.std.proofs.lemmas.List.{get_or-map, get_or_default, length-map, length-replicate, length_push}
use Rattle.std.proofs.lemmas.List.Elements.{All-nil}
use Rattle.std.proofs.lemmas.List.Folds.{sum_by-replicate}
use Rattle.hd_map.specs.declared.types.Rank.{Rank}
use Rattle.hd_map.specs.declared.types.SideName.{SideName}
use Rattle.hd_map.specs.Map.{Map, cell_count}
use Rattle.hd_map.specs.Rank.{IsPoint}
use Rattle.hd_prune.specs.declared.step.Kept.{Kept}
use Rattle.hd_prune.specs.Kept.{pits_kept}
use Rattle.hd_map.proofs.Points.{point_inside}
use Rattle.hd_audit.specs.declared.types.AuditLine.{AuditLine}
use Rattle.hd_audit.specs.declared.waiting.Waiting.{Waiting}
use Rattle.hd_audit.specs.Flooding.{AreBegun, IsFlooding, kept_line, seen_at, unseen}
use Rattle.hd_audit.specs.Lines.{IsPointAt, line_at, rank_at}
use Rattle.hd_audit.specs.Listing.{AreShownTo}
use Rattle.hd_audit.specs.Rules.{IsWithin}
use Rattle.hd_audit.specs.Shown.{CutIs}
use Rattle.hd_audit.proofs.ShownLines.{rank_at-index}
use Rattle.hd_audit.proofs.Lines.{line_at-push_old, line_at-push_new}
use Rattle.hd_audit.proofs.SeenAt.{seen_at-here, seen_at-kept, seen_at-cases, seen_at-fewer_unseen}
use Rattle.hd_audit.proofs.IsPointAt.{IsPointAt-point}

-- a kept pit for places past the end
abbrev pub kept-none : Kept
kept-none = record { pit = record { height = pos 0; index = 0 }; nearest = None }

none_seen : (n i : ℕ) → seen_at (replicate n false) i ≡ false
none_seen zero i = refl
none_seen (suc n) zero = refl
none_seen (suc n) (suc i) = none_seen n i

pub AreBegun-none : (m : Map) (kept : List Kept) (seen : List Bool) (lines : List AuditLine) → seen ≡ replicate (cell_count m.size) false → lines ≡ [] → AreBegun m kept 0 seen lines
AreBegun-none m kept seen lines blank empty =
    let long : length seen ≡ cell_count m.size = ap length blank ∙ length-replicate {A = Bool} (cell_count m.size) false in
    let none : length lines ≡ 0 = ap length empty in
    let sum : sum_by unseen seen ≡ cell_count m.size * 1 = ap (sum_by unseen) blank ∙ sum_by-replicate unseen (cell_count m.size) false in
    record {
      whole = long;
      many = none;
      room = omega (arith, sum, none);
      are = λ k d less. absurd (omega arith);
      listed = λ k less. absurd (omega (arith, less, none));
      found = λ i h. absurd (false≢true (sym (ap (λ (xs : List Bool). seen_at xs i) blank ∙ none_seen (cell_count m.size) i) ∙ h));
    }

-- one more kept pit
pub AreBegun-more : (m : Map) (kept : List Kept) (n : ℕ) (seen : List Bool) (lines : List AuditLine) → All (λ (k : Kept). IsPoint m k.pit) kept
    → AllPairs (λ (a : Kept) (b : Kept). a.pit.index < b.pit.index) kept → n < length kept → AreBegun m kept n seen lines
    → AreBegun m kept (n + 1) (set seen (get_or kept n kept-none).pit.index true) (lines ++ kept_line (get_or kept n kept-none) ∷ [])
AreBegun-more m kept n seen lines points in_order inside b =
    let k : Kept = get_or kept n kept-none in
    let i : ℕ = k.pit.index in
    let whole = b.whole in
    let many = b.many in
    let room = b.room in
    let cell : i < length seen = (let place = point_inside m k.pit (points n kept-none inside) in omega (arith, place, whole)) in
    let free : seen_at seen i ≡ false = false_from_ne_true (seen_at seen i) (λ taken.
    let at = b.found i taken in
    let before : at.0 < n = (let less = at.1 in omega (arith, less, many)) in
    let is = ap (λ (x : AuditLine). x.index) (b.are at.0 kept-none before) in
    let rises = in_order at.0 n kept-none before inside in
    let e = at.2 in
    omega (arith, is, rises, e)) in
    let x : AuditLine = kept_line k in
    let longer = length_push lines x in
    let less = seen_at-fewer_unseen seen i cell free in
    record {
      whole = length-set seen i true ∙ whole;
      many = omega (arith, longer, many);
      room = omega (arith, longer, less, room);
      are = λ j d before. elim (cases_lt j n) [
        | inl old ↦ line_at-push_old lines x j (omega (arith, old, many)) ∙ b.are j d old
        | inr last ↦
            let e : n ≡ j = omega (arith, before, last) in
            line_at-push_new lines x j (omega (arith, many, e)) ∙ ap kept_line (get_or_default kept n kept-none d inside ∙ ap (λ l. get_or kept l d) e)
      ];
      listed = λ j before. elim (cases_lt j (length lines)) [
        | inl old ↦ subst (λ (y : AuditLine). seen_at (set seen i true) y.index ≡ true) (sym (line_at-push_old lines x j old)) (seen_at-kept seen i cell (line_at lines j).index (b.listed j old))
        | inr last ↦ subst (λ (y : AuditLine). seen_at (set seen i true) y.index ≡ true) (sym (line_at-push_new lines x j (omega (arith, before, last, longer)))) (seen_at-here seen i cell)
      ];
      found = λ j h. elim (seen_at-cases seen i cell j h) [
        | inl here ↦ (length lines, omega (arith, longer), ap (λ (y : AuditLine). y.index) (line_at-push_new lines x (length lines) refl) ∙ sym here)
        | inr was ↦ (let at = b.found j was in (at.0, (let less = at.1 in omega (arith, less, longer)), ap (λ (y : AuditLine). y.index) (line_at-push_old lines x at.0 at.1) ∙ at.2))
      ];
    }

-- none waits yet
pub AreBegun-flooding : {S : Type 0} (m : Map) (kept : List Kept) (n : ℕ) (seen : List Bool) (lines : List AuditLine) (heap : List (Waiting S)) → length heap ≡ 0
    → AreBegun m kept n seen lines → IsFlooding m lines seen heap 0
AreBegun-flooding m kept n seen lines [] e b = record {
  whole = b.whole;
  room = (let room = b.room in omega (arith, room));
  listed = b.listed;
  found = λ i h. inl (b.found i h);
  waiting = λ w h. absurd (let none : h.0 < 0 = h.1 in omega arith);
  once = λ i. omega arith;
  waits_seen = λ w h. absurd (let none : h.0 < 0 = h.1 in omega arith);
  closed = λ k less. absurd (omega arith);
}
AreBegun-flooding m kept n seen lines (w ∷ heap) e b = absurd (omega (arith, e))

-- the lines are of present points
pub AreBegun-points : (m : Map) (kept : List Kept) (seen : List Bool) (lines : List AuditLine) → All (λ (k : Kept). IsPoint m k.pit) kept → AreBegun m kept (length kept) seen lines
    → (k : ℕ) → k < length lines → IsPointAt m (line_at lines k).index
AreBegun-points m kept seen lines points b k less =
    let many = b.many in
    let inside : k < length kept = omega (arith, less, many) in
    subst (λ (x : AuditLine). IsPointAt m x.index) (sym (b.are k kept-none inside)) (IsPointAt-point m (get_or kept k kept-none).pit (points k kept-none inside))

-- the first lines are as they are shown
pub AreBegun-shown : (m : Map) (side : SideName) (thousandths : ℕ) (sz : ℤ) (kept : List Kept) (seen : List Bool) (lines : List AuditLine)
    → All (λ (k : Kept). IsPoint m k.pit) kept → AreBegun m kept (length kept) seen lines
    → AreShownTo m side thousandths sz (pits_kept kept) lines (length lines)
AreBegun-shown m side thousandths sz kept seen lines points b =
    let all : length (pits_kept kept) ≡ length kept = length-map kept (λ (k : Kept). k.pit) in
    let many = b.many in
    let is : (k : ℕ) → k < length kept → line_at lines k ≡ kept_line (get_or kept k kept-none) = λ k less. b.are k kept-none less in
    record {
      enough = omega (arith, all, many);
      pits = λ k less.
          (let inside : k < length kept = omega (arith, less, all) in
          record {
            index = λ d. ap (λ (x : AuditLine). x.index) (is k inside) ∙ ap (λ (r : Rank). r.index) (sym (get_or-map (λ (k : Kept). k.pit) kept k kept-none d inside));
            parent = ap (λ (x : AuditLine). x.parent) (is k inside);
          });
      others = λ k more less. absurd (omega (arith, more, less, all, many));
      cuts = λ k less.
          (let inside : k < length kept = omega (arith, less, many) in
          let r : Rank = (get_or kept k kept-none).pit in
          let at : Contains (pits_kept kept) r = (k, omega (arith, inside, all), get_or-map (λ (k : Kept). k.pit) kept k kept-none r inside) in
          subst (λ (x : AuditLine). CutIs m side thousandths sz (pits_kept kept) (rank_at m x.index) x.cut) (sym (is k inside))
          (r, at, refl, record { points = []; leads = sym (rank_at-index m r (points k kept-none inside)); within = All-nil (IsWithin side thousandths sz r) }));
    }
