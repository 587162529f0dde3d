-- Positions that are listed by index.
use Rattle.std.proofs.Common.{◌≡◌, ◌<◌, ◌+◌, ℕ, List, [], ◌∷◌, ◌++◌, length, inl, inr, sym, subst, arith}
use Rattle.std.specs.List.{Contains}
use Rattle.std.proofs.lemmas.Bool.{cases_lt}
use Rattle.std.proofs.lemmas.List.{get_or_append_left, get_or_push, length_push}
use Rattle.std.proofs.lemmas.List.Elements.{Contains-append_left, Contains-push}
use Rattle.hd_map.specs.declared.types.Pos.{Pos}
use Rattle.hd_map.specs.declared.types.Size.{Size}
use Rattle.hd_map.specs.Map.{InGrid, place_of}
use Rattle.hd_map.proofs.Points.{same_place}
use Rattle.hd_check.specs.Rules.{point_of}
use Rattle.hd_cert.specs.Listed.{AreListed, Lists}

-- one position more
listed_push : (s : Size) (Chosen : Pos → Type 0) (index : ℕ) (ps : List Pos) (p : Pos) → InGrid s p → place_of s p ≡ index → Chosen p → AreListed s Chosen index ps
    → AreListed s Chosen (index + 1) (ps ++ p ∷ [])
listed_push s Chosen index ps p there is chosen l =
    let longer = length_push ps p in
    let old : (k : ℕ) → k < length ps → point_of (ps ++ p ∷ []) k ≡ point_of ps k = λ k h. get_or_append_left ps (p ∷ []) (record { x = 0; y = 0 }) k h in
    let new : (k : ℕ) → length ps ≡ k → point_of (ps ++ p ∷ []) k ≡ p = λ k h. get_or_push ps p (record { x = 0; y = 0 }) k h in
    record {
      rises = λ k h. elim (cases_lt (k + 1) (length ps)) [
        | inl less ↦ rw (old k (omega (arith, less)), old (k + 1) less) (l.rises k (omega (arith, less)))
        | inr last ↦
            let e : length ps ≡ k + 1 = omega (arith, longer, h, last) in
            let low = l.before k (omega (arith, e)) in
            rw (old k (omega (arith, e)), new (k + 1) e) (omega (arith, low, is))
      ];
      before = λ k h. elim (cases_lt k (length ps)) [
        | inl less ↦ let low = l.before k less in rw (old k less) (omega (arith, low))
        | inr last ↦ let e : length ps ≡ k = omega (arith, longer) in rw (new k e) (omega (arith, is))
      ];
      inside = λ k h. elim (cases_lt k (length ps)) [
        | inl less ↦ rw (old k less) (l.inside k less)
        | inr last ↦ let e : length ps ≡ k = omega (arith, longer) in rw (new k e) there
      ];
      chosen = λ k h. elim (cases_lt k (length ps)) [
        | inl less ↦ subst Chosen (sym (old k less)) (l.chosen k less)
        | inr last ↦ let e : length ps ≡ k = omega (arith, longer) in subst Chosen (sym (new k e)) chosen
      ];
      all = λ q inside below some. elim (cases_lt (place_of s q) index) [
        | inl less ↦ Contains-append_left ps (p ∷ []) q (l.all q inside less some)
        | inr last ↦ subst (Contains (ps ++ p ∷ [])) (same_place s p q there inside (omega (arith, is))) (Contains-push ps p)
      ];
    }

-- a position that is not chosen
listed_skip : (s : Size) (Chosen : Pos → Type 0) (index : ℕ) (ps : List Pos) (p : Pos) → InGrid s p → place_of s p ≡ index → (Chosen p → ⊥) → AreListed s Chosen index ps
    → AreListed s Chosen (index + 1) ps
listed_skip s Chosen index ps p there is passed l = record {
  rises = l.rises;
  before = λ k h. (let low = l.before k h in omega (arith, low));
  inside = l.inside;
  chosen = l.chosen;
  all = λ q inside below some. elim (cases_lt (place_of s q) index) [
    | inl less ↦ l.all q inside less some
    | inr last ↦ absurd (passed (subst Chosen (sym (same_place s p q there inside (omega (arith, is)))) some))
  ];
}

-- nothing is listed at first
pub AreListed-none : (s : Size) (Chosen : Pos → Type 0) → AreListed s Chosen 0 []
AreListed-none s Chosen = record {
  rises = λ k h. absurd (omega (arith, h));
  before = λ k h. absurd (omega (arith, h));
  inside = λ k h. absurd (omega (arith, h));
  chosen = λ k h. absurd (omega (arith, h));
  all = λ p there below some. absurd (omega (arith, below));
}

pub AreListed-more : (s : Size) (Chosen : Pos → Type 0) (index : ℕ) (ps ps' : List Pos) → Lists s Chosen index ps ps' → AreListed s Chosen index ps → AreListed s Chosen (index + 1) ps'
AreListed-more s Chosen index ps ps' (p, there, is, which) l = elim which [
  | inl chosen ↦ rw chosen.1 (listed_push s Chosen index ps p there is chosen.0 l)
  | inr passed ↦ rw passed.1 (listed_skip s Chosen index ps p there is passed.0 l)
]
