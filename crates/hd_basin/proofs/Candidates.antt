-- Pairs of neighbours with a point in a tile that is seen anew.
use Rattle.std.proofs.Common.{◌≡◌, ◌<◌, ◌≤◌, ◌+◌, ℕ, ◌⊎◌, inl, inr, List, [], ◌∷◌, Option, Some, slice_get, sym, ◌∙◌, ap, subst, arith}
use Rattle.std.proofs.lemmas.Bool.{cases_lt}
use Rattle.std.proofs.lemmas.List.Elements.{Contains-push, Contains-push_cases, Contains-append_left}
use Rattle.hd_map.specs.declared.types.Pos.{Pos}
use Rattle.hd_map.specs.declared.types.Size.{Size}
use Rattle.hd_map.specs.declared.types.SideName.{SideName}
use Rattle.hd_map.specs.Map.{Map, Present}
use Rattle.hd_map.specs.Neighbour.{Neighbour}
use Rattle.hd_map.specs.Rank.{rank}
use Rattle.hd_tiles.specs.Tile.{tile_of}
use Rattle.hd_basin.specs.declared.frame.Frame.{Frame}
use Rattle.hd_basin.specs.declared.part.Part.{Part}
use Rattle.hd_basin.specs.declared.part.Seam.{Seam}
use Rattle.hd_basin.specs.Basin.{IsSinkOf}
use Rattle.hd_basin.specs.Built.{IsAsked, IsAskedNext, IsKnown, NotesPair}
use Rattle.hd_basin.specs.Seams.{AreCandidates, IsCandidate}
use Rattle.hd_basin.specs.Parts.{label_of, low_of, node_at, place_in_tile}
use Rattle.hd_basin.specs.Sinks.{at_place}

-- the label of a position in another tile
pub other-label : (s : Size) (t : ℕ) (parts : List Part) (p : Pos) (number place : ℕ) (other : Part) → number ≡ tile_of s t p → place ≡ place_in_tile s t p → slice_get parts number ≡ Some other
    → label_of s t parts p ≡ low_of (node_at (Some other) place)
other-label s t parts p number place other tile at read =
    ap (λ (o : Option Part). low_of (node_at o (place_in_tile s t p))) (ap (slice_get parts) (sym tile) ∙ read) ∙ ap (λ (k : ℕ). low_of (node_at (Some other) k)) (sym at)

module _ (m : Map) (side : SideName) (t tile : ℕ) (stamps : List ℕ) (parts : List Part) (f : Frame) where
  abbrev Asked : ℕ → Pos → Pos → Type 0
  Asked k = IsAsked m t tile stamps parts f k

  abbrev Next : ℕ → Frame → ℕ → Pos → Pos → Type 0
  Next k g i = IsAskedNext m t tile stamps parts f k g i

  -- what was asked is asked further on
  asked-later : (k n : ℕ) (p q : Pos) → k ≤ n → Asked k p q → Asked n p q
  asked-later k n p q up a = (let b = a.before in record { in_tile = a.in_tile; place = a.place; before = omega (arith, b, up); at = a.at; known = a.known })

  -- at a place no point of the tile comes first
  pub pairs-begin : (k : ℕ) (g : Frame) (all : List Seam) → AreCandidates m side t tile stamps (Asked k) all → AreCandidates m side t tile stamps (Next k g 0) all
  pairs-begin k g all are = record {
    each = λ s within. (let c = are.each s within in (c.0, c.1, inl c.2, c.3));
    every = λ p q a b asked. elim asked [
      | inl was ↦ are.every p q a b was
      | inr new ↦ absurd (let below = (new.2).1 in omega (arith, below))
    ];
  }

  -- one more point of the tile
  pub pairs-more : (k : ℕ) (g : Frame) (i : ℕ) (p q : Pos) (old new : List Seam) → p ≡ at_place g i → q ≡ at_place f k → NotesPair m side t tile stamps parts p q old new
      → AreCandidates m side t tile stamps (Next k g i) old → AreCandidates m side t tile stamps (Next k g (i + 1)) new
  pairs-more k g i p q old new at near notes are = elim notes [
    | inl none ↦ subst (AreCandidates m side t tile stamps (Next k g (i + 1))) (sym none.0) (record {
      each = λ s within. (let c = are.each s within in (c.0, c.1, later c.0 c.1 c.2, c.3));
      every = λ x y a b asked near_ from to apart. elim (earlier x y asked) [
        | inl was ↦ are.every x y a b was near_ from to apart
        | inr it ↦ absurd (none.1 a b (subst (λ (z : Pos). Neighbour m z q) it.0 (subst (λ (z : Pos). Neighbour m x z) it.1 near_)) (subst (λ (z : Pos). IsSinkOf m side t (rank m z) a) it.0 from)
            (subst (λ (z : Pos). IsSinkOf m side t (rank m z) b) it.1 to) apart (subst (IsKnown m.size t stamps parts) it.1 it.2))
      ];
    })
    | inr one ↦ subst (AreCandidates m side t tile stamps (Next k g (i + 1))) (sym one.1) (record {
      each = λ s within. elim (Contains-push_cases old one.0 s within) [
        | inl was ↦ (let c = are.each s was in (c.0, c.1, later c.0 c.1 c.2, c.3))
        | inr e ↦ (p, q, inr (one.2.in_tile, near, (i, omega arith, at), one.3), subst (IsCandidate m side t tile stamps p q) e one.2)
      ];
      every = λ x y a b asked near_ from to apart. elim (earlier x y asked) [
        | inl was ↦ (let c = are.every x y a b was near_ from to apart in (c.0, Contains-append_left old (one.0 ∷ []) c.0 c.1, c.2))
        | inr it ↦ (
          one.0,
          Contains-push old one.0,
          subst (λ (z : Pos). IsCandidate m side t tile stamps z y one.0) (sym it.0)
              (subst (λ (z : Pos). IsCandidate m side t tile stamps p z one.0) (sym it.1) one.2),
        )
      ];
    })
  ]
    where
      later : (x y : Pos) → Next k g i x y → Next k g (i + 1) x y
      later x y (inl was) = inl was
      later x y (inr new) = inr (new.0, new.1, (let h = new.2 in let b = h.1 in (h.0, omega (arith, b), h.2)), new.3)

      earlier : (x y : Pos) → Next k g (i + 1) x y → Next k g i x y ⊎ ((x ≡ p) × (y ≡ q) × IsKnown m.size t stamps parts y)
      earlier x y (inl was) = inl (inl was)
      earlier x y (inr new) = elim (cases_lt (new.2).0 i) [
        | inl before ↦ inl (inr (new.0, new.1, ((new.2).0, before, (new.2).2), new.3))
        | inr last ↦ (
            let below = (new.2).1 in
            let same : (new.2).0 ≡ i = omega (arith, below, last) in
            inr ((new.2).2 ∙ ap (at_place g) same ∙ sym at, new.1 ∙ sym near, new.3))
      ]

  -- after all those beside it the place is done
  pub pairs-end : (k : ℕ) (g : Frame) (n : ℕ) (all : List Seam) → ((p : Pos) → tile_of m.size t p ≡ tile → Neighbour m p (at_place f k) → (h : ℕ) × (h < n) × (p ≡ at_place g h))
      → AreCandidates m side t tile stamps (Next k g n) all → AreCandidates m side t tile stamps (Asked (k + 1)) all
  pairs-end k g n all listed are = record {
    each = λ s within. (let c = are.each s within in (c.0, c.1, asked c.0 c.1 c.2, c.3));
    every = λ p q a b ask near_ from to apart. are.every p q a b (next p q ask near_) near_ from to apart;
  }
    where
      asked : (p q : Pos) → Next k g n p q → Asked (k + 1) p q
      asked p q (inl was) = asked-later k (k + 1) p q (omega arith) was
      asked p q (inr new) = record { in_tile = new.0; place = k; before = omega arith; at = new.1; known = new.3 }

      next : (p q : Pos) → Asked (k + 1) p q → Neighbour m p q → Next k g n p q
      next p q ask near_ = elim (cases_lt ask.place k) [
        | inl before ↦ inl (record { in_tile = ask.in_tile; place = ask.place; before = before; at = ask.at; known = ask.known })
        | inr last ↦ (
            let below = ask.before in
            let same : ask.place ≡ k = omega (arith, below, last) in
            let at : q ≡ at_place f k = ask.at ∙ ap (at_place f) same in
            inr (ask.in_tile, at, listed p ask.in_tile (subst (λ (x : Pos). Neighbour m p x) at near_), ask.known))
      ]

  -- places none of which has a point of a known basin may be left out
  pub pairs-skip : (k n : ℕ) (all : List Seam) → k ≤ n → ((j : ℕ) → k ≤ j → j < n → IsKnown m.size t stamps parts (at_place f j) → Present m (at_place f j) → ⊥)
      → AreCandidates m side t tile stamps (Asked k) all → AreCandidates m side t tile stamps (Asked n) all
  pairs-skip k n all up none are = record {
    each = λ s within. (let c = are.each s within in (c.0, c.1, asked-later k n c.0 c.1 up c.2, c.3));
    every = λ p q a b ask near_ from to apart. elim (cases_lt ask.place k) [
      | inl before ↦ are.every p q a b (record { in_tile = ask.in_tile; place = ask.place; before = before; at = ask.at; known = ask.known }) near_ from to apart
      | inr past ↦ absurd (none ask.place past ask.before (subst (IsKnown m.size t stamps parts) ask.at ask.known) (subst (Present m) ask.at near_.to))
    ];
  }
