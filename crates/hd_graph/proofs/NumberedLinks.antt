-- The numbers of lows, and the links that name them.
use Rattle.std.proofs.Common.{◌≡◌, ◌≢◌, ℕ, ◌<◌, ◌+◌, inl, inr, List, [], ◌∷◌, ◌++◌, length, map, take, get_or, Some, false, refl, sym, ◌∙◌, ap, arith, slice_get, set}
use Rattle.std.specs.Prelude.{AllPairs, pos}
use Rattle.std.proofs.lemmas.Bool.{cases_eq}
use Rattle.std.proofs.lemmas.List.{map-append, take_more}
use Rattle.std.proofs.lemmas.List.Elements.{Contains-get_or}
use Rattle.std.proofs.lemmas.Option.{slice_get-get_or, slice_get_within, get_or_from_slice_get, same_Some}
use Rattle.hd_map.specs.declared.types.Pass.{Pass}
use Rattle.hd_map.specs.declared.types.Rank.{Rank}
use Rattle.hd_graph.specs.declared.graph.Low.{Low}
use Rattle.hd_map.specs.declared.types.Link.{Link}
use Rattle.hd_graph.specs.Graph.{IsLow}
use Rattle.hd_graph.specs.Links.{HasEnds, IsNumbering, pass_of, rank_at}
use Rattle.hd_map.proofs.Places.{get-set_same, get-set_other, item_at, one_place, place_of}

-- a number within the lows is that of a low
pub low_at : (lows : List Low) (k : ℕ) → k < length lows → IsLow lows (rank_at lows k)
low_at lows k inside =
    let none : Low = record { rank = record { height = pos 0; index = 0 }; pit = false } in
    (get_or lows k none, Contains-get_or lows k none inside, refl)

-- the indexes of the first n lows are below the room
abbrev pub AreWithin : List Low → ℕ → ℕ → Type 0
AreWithin lows n room = (k : ℕ) (x : Low) → k < n → slice_get lows k ≡ Some x → x.rank.index < room

module _ (lows : List Low) (different : AllPairs (λ x y. x.rank.index ≢ y.rank.index) lows) where
  -- one low has one number
  pub one_low : (i j : ℕ) (x y : Low) → slice_get lows i ≡ Some x → slice_get lows j ≡ Some y → x.rank.index ≡ y.rank.index → i ≡ j
  one_low i j x y atx aty e = one_place (λ (z : Low). z.rank.index) lows different i j x y atx aty e

  -- the low of the next number is written down, and those before it stay
  pub numbering-set : (n : ℕ) (numbers : List ℕ) (d : Low) → IsNumbering lows n numbers → n < length lows → (get_or lows n d).rank.index < length numbers
      → IsNumbering lows (n + 1) (set numbers (get_or lows n d).rank.index n)
  numbering-set n numbers d before inside room = λ k x less at.
      let y : Low = get_or lows n d in
      let i : ℕ = y.rank.index in
      let read : slice_get lows n ≡ Some y = slice_get-get_or lows n d inside in
      let old = item_at numbers i room in
      elim (cases_eq k n) [
        | inl e ↦ (let is : y ≡ x = cc (read, at, e) in
            ap (λ (z : Low). slice_get (set numbers i n) z.rank.index) (sym is) ∙ get-set_same numbers i n old.0 old.1 ∙ ap Some (sym e))
        | inr ne ↦ get-set_other numbers i x.rank.index n (λ s. ne (sym (one_low n k y x read at s))) ∙ before k x (omega arith) at
      ]

  -- a low is found under its number
  pub low-found : (numbers : List ℕ) → IsNumbering lows (length lows) numbers → (r : Rank) → IsLow lows r → (k : ℕ) × (x : Low) × (slice_get lows k ≡ Some x) × (x.rank ≡ r)
      × (slice_get numbers r.index ≡ Some k)
  low-found numbers numbered r low =
      let p = place_of lows low.0 low.1 in
      (p.0, low.0, p.1, low.2, ap (λ (q : Rank). slice_get numbers q.index) (sym low.2) ∙ numbered p.0 low.0 (slice_get_within lows p.0 low.0 p.1) p.1)

module _ (lows : List Low) (different : AllPairs (λ x y. x.rank.index ≢ y.rank.index) lows) (numbers : List ℕ) (numbered : IsNumbering lows (length lows) numbers) where
  -- a number that is found under a low's index is that of the low
  pub number-of : (r : Rank) → IsLow lows r → (k : ℕ) → slice_get numbers r.index ≡ Some k → (x : Low) × (slice_get lows k ≡ Some x) × (x.rank ≡ r)
  number-of r low k h =
      let f = low-found lows different numbers numbered r low in
      let e : f.0 ≡ k = same_Some f.0 k (sym f.4 ∙ h) in
      (f.1, ap (λ j. slice_get lows j) (sym e) ∙ f.2, f.3)

  -- a low has a number
  pub number-within : (r : Rank) → IsLow lows r → r.index < length numbers
  number-within r low = (let f = low-found lows different numbers numbered r low in slice_get_within numbers r.index f.0 f.4)

  -- a link of these numbers stands for the pass
  pub link-of : (p : Pass) → IsLow lows p.a → IsLow lows p.b → (a b : ℕ) → slice_get numbers p.a.index ≡ Some a → slice_get numbers p.b.index ≡ Some b →
      (pass_of lows (record { a = a; b = b; at = p.at }) ≡ p) × HasEnds (length lows) (record { a = a; b = b; at = p.at })
  link-of p low_a low_b a b at_a at_b =
      let x = number-of p.a low_a a at_a in
      let y = number-of p.b low_b b at_b in
      let is_a : rank_at lows a ≡ p.a = ap (λ (z : Low). z.rank) (get_or_from_slice_get lows a x.0 _ x.1) ∙ x.2 in
      let is_b : rank_at lows b ≡ p.b = ap (λ (z : Low). z.rank) (get_or_from_slice_get lows b y.0 _ y.1) ∙ y.2 in
      (same_pass (rank_at lows a) (rank_at lows b) p.a p.b p.at is_a is_b, (slice_get_within lows a x.0 x.1, slice_get_within lows b y.0 y.1))
    where
      same_pass : (r s u v w : Rank) → r ≡ u → s ≡ v → ◌≡◌ {A = Pass} (record { a = r; b = s; at = w }) (record { a = u; b = v; at = w })
      same_pass r s u v w e f = cc

-- links stand for the passes so far, and for one more
pub links-more : (lows : List Low) (passes : List Pass) (k : ℕ) (d : Pass) → k < length passes → (links : List Link) (l : Link) → pass_of lows l ≡ get_or passes k d
    → map (pass_of lows) links ≡ take k passes →
    map (pass_of lows) (links ++ l ∷ []) ≡ take (k + 1) passes
links-more lows passes k d inside links l is so =
    map-append (pass_of lows) links (l ∷ []) ∙ ap (λ (ps : List Pass). ps ++ pass_of lows l ∷ []) so ∙ ap (λ (p : Pass). take k passes ++ p ∷ []) is ∙ sym (take_more passes k d inside)
