-- The borders that are found after one more pair.
use Rattle.std.proofs.Common.{◌≡◌, ◌<◌, ◌≤◌, ◌+◌, ◌⊎◌, ◌∙◌, ℕ, inl, inr, List, [], ◌∷◌, set, slice_get, Some, refl, sym, ap, subst, arith}
use Rattle.std.specs.Prelude.{◌↔◌, Contains}
use Rattle.std.proofs.lemmas.Bool.{cases_eq, cases_lt}
use Rattle.std.proofs.lemmas.List.Elements.{Contains-append_left, Contains-push, Contains-push_cases}
use Rattle.std.proofs.lemmas.Option.{same_Some}
use Rattle.hd_map.specs.declared.types.Pos.{Pos}
use Rattle.hd_map.specs.declared.types.Rank.{Rank}
use Rattle.hd_map.specs.declared.types.SideName.{SideName}
use Rattle.hd_map.specs.Map.{InGrid, IsMap, Map, place_of, position_at}
use Rattle.hd_map.specs.Neighbour.{Neighbour}
use Rattle.hd_map.specs.Passes.{higher_by}
use Rattle.hd_map.specs.Rank.{Near, below_by, rank}
use Rattle.hd_map.proofs.Points.{Near-at, point_at, position_at-of}
use Rattle.hd_map.proofs.Places.{at_place, get-set_other, get-set_same, place_of as place_in}
use Rattle.hd_steep.specs.declared.border.Border.{Border}
use Rattle.hd_steep.specs.Found.{Adds, AddsFirst, AddsMore, AreFoundOf, HasPlace, IsSeen, NotesPair, of_pair, with_pair}
use Rattle.hd_steep.specs.Pairs.{AreCounted, IsAcross, Pair}
use Rattle.hd_steep.proofs.Counted.{counted-as, counted-few, counted-more, counted-one}
use Rattle.hd_steep.proofs.Seen.{pair-from, pair_of, seen-points}

module _ (m : Map) (side : SideName) (places : List ℕ) where
  -- no border counts many pairs
  pub found-few : IsMap m → (Seen : Pair → Type 0) (a : ℕ) (borders : List Border) → AreFoundOf m side places Seen a borders → (l : Border) → Contains borders l → l.pairs ≤ 17592186044416
  found-few whole Seen a borders are l at = counted-few side m whole (IsSeen m places Seen a l.b) (seen-points m places Seen a l.b) l.pairs l.pass (are.counted l at)

  -- the same pairs that were seen
  pub found-as : (Seen Seen' : Pair → Type 0) (a : ℕ) → ((j : ℕ) (p : Pair) → a < j → IsAcross m (HasPlace m places) a j p → Seen p ↔ Seen' p) → (borders : List Border)
      → AreFoundOf m side places Seen a borders → AreFoundOf m side places Seen' a borders
  found-as Seen Seen' a same borders are = record {
    own = are.own;
    counted = λ l at. counted-as side (IsSeen m places Seen a l.b) (IsSeen m places Seen' a l.b) (seen l.b) l.pairs l.pass (are.counted l at);
    all = λ j p s. are.all j p ((seen j p).1 s);
  }
    where
      seen : (j : ℕ) (p : Pair) → IsSeen m places Seen a j p ↔ IsSeen m places Seen' a j p
      seen j p = (
        λ s. record { lesser = s.lesser; across = s.across; seen = (same j p s.lesser s.across).0 s.seen },
        λ s. record { lesser = s.lesser; across = s.across; seen = (same j p s.lesser s.across).1 s.seen },
      )

  -- where there is nothing to note at an index, that one is done
  pub found-past : (index a : ℕ) → ((j : ℕ) (p : Pair) → a < j → IsAcross m (HasPlace m places) a j p → p.from.index ≡ index → ⊥) → (borders : List Border)
      → AreFoundOf m side places (λ p. p.from.index < index) a borders → AreFoundOf m side places (λ p. p.from.index < index + 1) a borders
  found-past index a none = found-as (λ p. p.from.index < index) (λ p. p.from.index < index + 1) a (λ j p less across. (
    λ before. omega arith,
    λ before. elim (cases_lt p.from.index index) [ inl earlier ↦ earlier | inr past ↦ absurd (none j p less across (omega arith)) ],
  ))

  module _ (Seen Seen' : Pair → Type 0) (from to : Pos) (near : Neighbour m from to) (a b : ℕ) (at_a : slice_get places (place_of m.size from) ≡ Some a)
      (at_b : slice_get places (place_of m.size to) ≡ Some b)
      (less : a < b) (fresh : Seen (pair_of m from to) → ⊥) (more : (p : Pair) → Near m p.from p.to → Seen' p ↔ (Seen p ⊎ (p ≡ pair_of m from to))) where
    abbrev higher : Rank
    higher = higher_by side (rank m from) (rank m to)

    -- of another place than b no more is seen
    seen-other : (j : ℕ) → (j ≡ b → ⊥) → (p : Pair) → IsSeen m places Seen a j p ↔ IsSeen m places Seen' a j p
    seen-other j other p = (
      λ s. record { lesser = s.lesser; across = s.across; seen = (more p s.across.near).1 (inl s.seen) },
      λ s. record {
        lesser = s.lesser;
        across = s.across;
        seen = elim ((more p s.across.near).0 s.seen) [
          | inl old ↦ old
          | inr e ↦ absurd (other (same_Some j b (sym s.across.to_in.place ∙ ap (λ (q : Pair). slice_get places q.to.index) e ∙ at_b)))
        ];
      },
    )

    seen-it : (p : Pair) → p ≡ pair_of m from to → IsSeen m places Seen' a b p
    seen-it p e = subst (λ q. IsSeen m places Seen' a b q) (sym e) (record {
      lesser = less;
      across = record {
        near = Near-at m from to near;
        from_in = record { point = point_at m from near.from; place = at_a };
        to_in = record { point = point_at m to near.to; place = at_b };
      };
      seen = (more (pair_of m from to) (Near-at m from to near)).1 (inr refl);
    })

    -- of b the one pair more
    seen-more : (p : Pair) → IsSeen m places Seen' a b p ↔ (IsSeen m places Seen a b p ⊎ (p ≡ pair_of m from to))
    seen-more p = (
      λ s. elim ((more p s.across.near).0 s.seen) [ inl old ↦ inl (record { lesser = s.lesser; across = s.across; seen = old }) | inr e ↦ inr e ],
      λ h. elim h [ inl s ↦ record { lesser = s.lesser; across = s.across; seen = (more p s.across.near).1 (inl s.seen) } | inr e ↦ seen-it p e ],
    )

    -- a border of b gets it
    module _ (old new : List Border) (once : (i j : ℕ) (x y : Border) → slice_get old i ≡ Some x → slice_get old j ≡ Some y → x.b ≡ y.b → i ≡ j) (adds : AddsMore (below_by side) b higher old new)
        (are : AreFoundOf m side places Seen a old) where
      abbrev grown : Border
      grown = with_pair (below_by side) adds.border higher

      grown-there : slice_get (set old adds.at grown) adds.at ≡ Some grown
      grown-there = get-set_same old adds.at grown adds.border adds.there

      grown-counted : AreCounted side (IsSeen m places Seen' a grown.b) grown.pairs grown.pass
      grown-counted =
          let border : Border = adds.border in
          let of_b : AreCounted side (IsSeen m places Seen a b) border.pairs border.pass = subst (λ j. AreCounted side (IsSeen m places Seen a j) border.pairs border.pass) adds.of
          (are.counted border (at_place old adds.at border adds.there)) in
          subst (λ j. AreCounted side (IsSeen m places Seen' a j) grown.pairs grown.pass) (sym adds.of)
          (counted-more side (IsSeen m places Seen a b) (IsSeen m places Seen' a b) (pair_of m from to) (λ s. fresh s.seen) seen-more border.pairs border.pass of_b)

      -- each border is that one, or an old one of another place
      item : (l : Border) → Contains (set old adds.at grown) l → (l ≡ grown) ⊎ (Contains old l × (l.b ≡ b → ⊥))
      item l h =
          let k = place_in (set old adds.at grown) l h in
          elim (cases_eq k.0 adds.at) [
            | inl e ↦ inl (same_Some l grown (sym k.1 ∙ ap (slice_get (set old adds.at grown)) e ∙ grown-there))
            | inr ne ↦ (let at : slice_get old k.0 ≡ Some l = sym (get-set_other old adds.at k.0 grown (λ e. ne (sym e))) ∙ k.1 in
                inr (at_place old k.0 l at, λ e. ne (once k.0 adds.at l adds.border at adds.there (e ∙ sym adds.of))))
          ]

      keeps : (l : Border) → Contains old l → (l.b ≡ b → ⊥) → Contains (set old adds.at grown) l
      keeps l h other =
          let k = place_in old l h in
          at_place (set old adds.at grown) k.0 l
          (get-set_other old adds.at k.0 grown (λ e. other (ap (λ (z : Border). z.b) (same_Some l adds.border (sym k.1 ∙ ap (slice_get old) (sym e) ∙ adds.there)) ∙ adds.of)) ∙ k.1)

      found-more : AreFoundOf m side places Seen' a new
      found-more = subst (λ (ls : List Border). AreFoundOf m side places Seen' a ls) (sym adds.is) (record {
        own = λ l h. elim (item l h) [
          | inl e ↦ ap (λ (z : Border). z.a) e ∙ are.own adds.border (at_place old adds.at adds.border adds.there)
          | inr o ↦ are.own l o.0
        ];
        counted = λ l h. elim (item l h) [
          | inl e ↦ subst (λ (z : Border). AreCounted side (IsSeen m places Seen' a z.b) z.pairs z.pass) (sym e) grown-counted
          | inr o ↦ counted-as side (IsSeen m places Seen a l.b) (IsSeen m places Seen' a l.b) (seen-other l.b o.1) l.pairs l.pass (are.counted l o.0)
        ];
        all = λ j p s. elim (cases_eq j b) [
          | inl e ↦ (grown, at_place (set old adds.at grown) adds.at grown grown-there, adds.of ∙ sym e)
          | inr ne ↦ (let l = are.all j p ((seen-other j ne p).1 s) in (l.0, keeps l.0 l.1 (λ e. ne (sym l.2 ∙ e)), l.2))
        ];
      })

    -- or b has its first
    module _ (old new : List Border) (adds : AddsFirst a b higher old new) (are : AreFoundOf m side places Seen a old) where
      abbrev first : Border
      first = of_pair a b higher

      none-of : (l : Border) → Contains old l → l.b ≡ b → ⊥
      none-of l h = (let k = place_in old l h in adds.none k.0 l k.1)

      first-counted : AreCounted side (IsSeen m places Seen' a b) 1 higher
      first-counted = counted-one side (IsSeen m places Seen' a b) (pair_of m from to) (λ p. (
        λ s. elim ((seen-more p).0 s) [ inl old_one ↦ absurd (let l = are.all b p old_one in none-of l.0 l.1 l.2) | inr e ↦ e ],
        seen-it p,
      ))

      found-first : AreFoundOf m side places Seen' a new
      found-first = subst (λ (ls : List Border). AreFoundOf m side places Seen' a ls) (sym adds.is) (record {
        own = λ l h. elim (Contains-push_cases old first l h) [ inl o ↦ are.own l o | inr e ↦ ap (λ (z : Border). z.a) (sym e) ];
        counted = λ l h. elim (Contains-push_cases old first l h) [
          | inl o ↦ counted-as side (IsSeen m places Seen a l.b) (IsSeen m places Seen' a l.b) (seen-other l.b (none-of l o)) l.pairs l.pass (are.counted l o)
          | inr e ↦ subst (λ (z : Border). AreCounted side (IsSeen m places Seen' a z.b) z.pairs z.pass) e first-counted
        ];
        all = λ j p s. elim (cases_eq j b) [
          | inl e ↦ (first, Contains-push old first, sym e)
          | inr ne ↦ (let l = are.all j p ((seen-other j ne p).1 s) in (l.0, Contains-append_left old (first ∷ []) l.0 l.1, l.2))
        ];
      })

    found-adds : (old new : List Border) → ((i j : ℕ) (x y : Border) → slice_get old i ≡ Some x → slice_get old j ≡ Some y → x.b ≡ y.b → i ≡ j) → Adds (below_by side) a b higher old new
        → AreFoundOf m side places Seen a old → AreFoundOf m side places Seen' a new
    found-adds old new once (inl adds) are = found-more old new once adds are
    found-adds old new once (inr adds) are = found-first old new adds are

  -- after a pair that is noted, or that is not to be noted
  pub found-pair : (Seen Seen' : Pair → Type 0) (at to : Pos) → InGrid m.size at → InGrid m.size to → (a : ℕ) → slice_get places (place_of m.size at) ≡ Some a
      → (Seen (pair_of m at to) → ⊥) → ((p : Pair) → Near m p.from p.to → Seen' p ↔ (Seen p ⊎ (p ≡ pair_of m at to)))
      → (old new : List Border) → ((i j : ℕ) (x y : Border) → slice_get old i ≡ Some x → slice_get old j ≡ Some y → x.b ≡ y.b → i ≡ j) → NotesPair m side places a at to old new
      → AreFoundOf m side places Seen a old → AreFoundOf m side places Seen' a new
  found-pair Seen Seen' at to inside there a at_a fresh more old new once (inl it) are = found-adds Seen Seen' at to it.near a it.b at_a it.place it.greater fresh more old new once it.adds are
  found-pair Seen Seen' at to inside there a at_a fresh more old new once (inr not) are = subst (λ (ls : List Border). AreFoundOf m side places Seen' a ls) (sym not.is)
      (found-as Seen Seen' a (λ j p less across. (
        λ s. (more p across.near).1 (inl s),
        λ s. elim ((more p across.near).0 s) [ inl o ↦ o | inr e ↦ absurd (not.none j (place j p across e) less (neighbour p across.near e)) ],
      )) old are)
    where
      place : (j : ℕ) (p : Pair) → IsAcross m (HasPlace m places) a j p → p ≡ pair_of m at to → slice_get places (place_of m.size to) ≡ Some j
      place j p across e = ap (λ (q : Pair). slice_get places q.to.index) (sym e) ∙ across.to_in.place

      neighbour : (p : Pair) → Near m p.from p.to → p ≡ pair_of m at to → Neighbour m at to
      neighbour p near e =
          let of = pair-from m at inside p near (ap (λ (q : Pair). q.from.index) e) in
          let same : of.to ≡ to = sym of.position ∙ ap (λ (q : Pair). position_at m.size q.to.index) e ∙ position_at-of m.size to there in
          subst (Neighbour m at) same of.near
