-- The lowest of some places of a row of keys.
use Rattle.std.proofs.Common.{◌≡◌, ◌<◌, ◌≤◌, ◌+◌, ◌-◌, ◌%◌, ℕ, List, length, slice_index, slice_set, get_or-set_other, get_or-set_same, inl, inr, ap, sym, subst, ◌∙◌, arith}
use Rattle.std.specs.Prelude.{slice_index_or}
use Rattle.std.proofs.lemmas.Bool.{cases_eq}
use Rattle.std.proofs.lemmas.List.{get_or_default}
use Rattle.hd_map.specs.declared.types.SideName.{SideName}
use Rattle.hd_map.specs.Encoding.{Encoding, number_in}
use Rattle.hd_steep.specs.Keys.{IsKey, rank_of, ranks_in}
use Rattle.hd_steep.specs.Linked.{AreIndexed, IsLowOf}
use Rattle.hd_steep.specs.Rows.{rank_in}
use Rattle.hd_steep.proofs.Keys.{rank_at_key, rank_of_missing}

-- one less, by 32 bits
one_less : (n : ℕ) → 1 ≤ n → n < 4294967296 → (n + 4294967295) % 4294967296 ≡ n - 1
one_less n some below = omega arith

-- a link more
pub links_more : (IsRight : ℕ → ℕ → Type 0) (links : List ℕ) (x link : ℕ) → x < length links → IsRight x link → ((k : ℕ) → k < x → IsRight k (slice_index links k))
    → (k : ℕ) → k < x + 1 → IsRight k (slice_index (slice_set links x link) k)
links_more IsRight links x link inside right before k below = elim (cases_eq k x) [
  | inl same ↦ rw (same, get_or-set_same links x link 0 inside) right
  | inr other ↦ rw (get_or-set_other links x k link 0 other) (before k (omega (arith, below, other)))
]

module _ {L : Type 0} (code : Encoding L) (side : SideName) where
  -- what stands at a place of a row, at any index where it is the one before the first
  pub low_at_place : (first : ℕ) (keys : List L) (k : ℕ) (key : L) → AreIndexed code first keys → k < length keys → key ≡ slice_index_or keys k key
      → IsLowOf code side (rank_in (ranks_in code side first keys) k) (record { key = key; index = (first + k + 4294967295) % 4294967296 })
  low_at_place first keys k key indexed inside read =
      let is : key ≡ number_in code keys k = read ∙ get_or_default keys k key code.missing inside in
      let there = rank_at_key code side first keys k inside in
      let room = indexed.room in
      record {
        key = subst (IsKey code) (sym is) (indexed.each k);
        is = elim (cases_eq (first + k) 0) [
          | inl none ↦
              let empty : number_in code keys k ≡ code.missing = ap (number_in code keys) (let e : k ≡ 0 = omega (arith, none) in e) ∙ indexed.left in
              rank_of_missing code side ((first + k + 4294967295) % 4294967296) key (ap code.shown (is ∙ empty) ∙ code.missing_none)
              ∙ sym (there ∙ rank_of_missing code side (first + k - 1) (number_in code keys k) (ap code.shown empty ∙ code.missing_none))
          | inr some ↦
              ap (λ i. rank_of code side i key) (one_less (first + k) (omega (arith, some)) (omega (arith, room, inside)))
              ∙ ap (rank_of code side (first + k - 1)) is ∙ sym there
        ];
      }
