-- The lowest round a point, from the ranks of three rows.
use Rattle.std.proofs.Common.{◌≡◌, ◌<◌, ◌≤◌, ◌+◌, ◌-◌, ◌*◌, ℕ, List, [], ◌++◌, ◌∷◌, length, ◌⊎◌, inl, inr, refl, sym, ◌∙◌, ap, subst, arith}
use Rattle.std.proofs.Math.Nat.{mul-le-mul_right}
use Rattle.std.proofs.lemmas.Bool.{cases_eq, cases_lt}
use Rattle.std.proofs.lemmas.List.{get_or_append_left, get_or_push, length_push}
use Rattle.std.proofs.lemmas.Nat.{same_from_place}
use Rattle.hd_map.specs.declared.types.Adjacency.{Adjacency}
use Rattle.hd_map.specs.declared.types.Adjacency.TheVariants.{Four, Six, Eight}
use Rattle.hd_map.specs.declared.types.Pos.{Pos}
use Rattle.hd_map.specs.declared.types.Rank.{Rank}
use Rattle.hd_map.specs.declared.types.SideName.{SideName}
use Rattle.hd_map.specs.Map.{Map, IsMap, place_of}
use Rattle.hd_map.specs.Neighbour.{AreBesideUnder}
use Rattle.hd_map.proofs.Gather.{same_pos}
use Rattle.hd_map.proofs.Settings.{beside-profile, beside-eight}
use Rattle.hd_steep.specs.Lowest.{lower_of, IsLow, IsAtPlace, IsRound, IsRoundIn}
use Rattle.hd_steep.specs.Rows.{past_end, rank_in}
use Rattle.hd_steep.proofs.Looking.{IsRoundTo, round_more}
use Rattle.hd_steep.proofs.Lows.{low_same, low_join, place_before}
use Rattle.hd_basin.specs.declared.frame.Frame.{Frame}
use Rattle.hd_basin.specs.Frames.{InFrame}
use Rattle.hd_basin.specs.Round.{AreRanks, low_above, low_below, low_level, low_round}

pub ranks-more : (m : Map) (side : SideName) (f : Frame) (i j n : ℕ) (ranks : List Rank) (r : Rank) → j < f.columns + 2 → n ≡ i * (f.columns + 2) + j → AreRanks m side f n ranks
    → IsLow m side (IsAtPlace (f.top + i) (f.left + j)) r → AreRanks m side f (n + 1) (ranks ++ r ∷ [])
ranks-more m side f i j n ranks r column at are new = record {
  whole = length_push ranks r ∙ ap (λ (k : ℕ). k + 1) are.whole;
  each = λ a b within below. (
      let k : ℕ = a * (f.columns + 2) + b in
      elim (cases_lt k n) [
        | inl early ↦ (
            let inside : k < length ranks = (let w = are.whole in omega (arith, early, w)) in
            subst (λ (x : Rank). IsLow m side (IsAtPlace (f.top + a) (f.left + b)) x) (sym (get_or_append_left ranks (r ∷ []) past_end k inside)) (are.each a b within early))
        | inr late ↦ (
            let same : n ≡ k = omega (arith, late, below) in
            let end : length ranks ≡ k = are.whole ∙ same in
            let parts = same_from_place i j a b (f.columns + 2) column within (sym at ∙ same) in
            subst (λ (x : Rank). IsLow m side (IsAtPlace (f.top + a) (f.left + b)) x) (sym (get_or_push ranks r past_end k end))
            (subst (λ (y : ℕ). IsLow m side (IsAtPlace (f.top + y) (f.left + b)) r) parts.0 (subst (λ (x : ℕ). IsLow m side (IsAtPlace (f.top + i) (f.left + x)) r) parts.1 new)))
      ]);
}

module _ (m : Map) (side : SideName) (whole : IsMap m) (p : Pos) (y : ℕ) (near : (p.y ≤ y) × (y ≤ p.y + 2)) (a b c : Rank)
    (left : IsLow m side (IsAtPlace y p.x) a) (middle : IsLow m side (IsAtPlace y (p.x + 1)) b) (right : IsLow m side (IsAtPlace y (p.x + 2)) c) where
  -- a position at a place of the row that is near and beside is round
  placed : (k : ℕ) (q : Pos) → p.x ≤ k → k ≤ p.x + 2 → IsAtPlace y k q → AreBesideUnder m.adjacency p q → IsRoundIn m.adjacency p y q
  placed k q low high at beside =
      let place = at.place in
      let profile = at.profile in
      record {
        profile = profile;
        round = record { column = (omega (arith, place, low, high), omega (arith, place, low, high)); profile = (omega (arith, profile, near), omega (arith, profile, near)); beside = beside };
      }

  -- what is round stands at one of three places
  abbrev AtThree : Pos → Type 0
  AtThree q = (IsAtPlace y p.x q ⊎ IsAtPlace y (p.x + 1) q) ⊎ IsAtPlace y (p.x + 2) q

  round_place : (q : Pos) → IsRoundIn m.adjacency p y q → AtThree q
  round_place q r = elim (cases_eq (q.x + 1) p.x) [
    | inl e ↦ inl (inl (record { profile = r.profile; place = e }))
    | inr other ↦ elim (cases_eq (q.x + 1) (p.x + 1)) [
      | inl e ↦ inl (inr (record { profile = r.profile; place = e }))
      | inr other' ↦ inr (record { profile = r.profile; place = (let u = r.round.column.0 in let v = r.round.column.1 in omega (arith, u, v, other, other')) })
    ]
  ]

  ordered : (i j : ℕ) (u v : Pos) → i < j → IsAtPlace y i u → IsAtPlace y j v → place_of m.size u < place_of m.size v
  ordered i j u v less s t = place_before m.size u v (let e = s.profile in let g = t.profile in omega (arith, e, g)) (let e = s.place in let g = t.place in omega (arith, e, g, less))

  three : IsLow m side AtThree (low_level side a b c)
  three = low_join m side whole (λ q. IsAtPlace y p.x q ⊎ IsAtPlace y (p.x + 1) q) (λ q. IsAtPlace y (p.x + 2) q) (lower_of side a b) c
      (λ u v s t here. elim s [
        | inl e ↦ ordered p.x (p.x + 2) u v (omega arith) e t
        | inr e ↦ ordered (p.x + 1) (p.x + 2) u v (omega arith) e t
      ])
      (low_join m side whole (λ q. IsAtPlace y p.x q) (λ q. IsAtPlace y (p.x + 1) q) a b (λ u v s t here. ordered p.x (p.x + 1) u v (omega arith) s t) left middle) right

  -- where all three are beside the point
  pub row-three : ((q : Pos) → q.y + 1 ≡ y → AreBesideUnder m.adjacency p q) → IsLow m side (IsRoundIn m.adjacency p y) (low_level side a b c)
  row-three beside = low_same m side AtThree (IsRoundIn m.adjacency p y) (low_level side a b c)
      (λ q here s. elim s [
        | inl u ↦ elim u [
          | inl v ↦ placed p.x q (omega arith) (omega arith) v (beside q v.profile)
          | inr v ↦ placed (p.x + 1) q (omega arith) (omega arith) v (beside q v.profile)
        ]
        | inr v ↦ placed (p.x + 2) q (omega arith) (omega arith) v (beside q v.profile)
      ])
      (λ q here r. round_place q r) three

  -- under 4 the one in the middle, in the rows above and below
  row-one : m.adjacency ≡ Four → (y ≡ p.y + 1 → ⊥) → IsLow m side (IsRoundIn m.adjacency p y) b
  row-one four other = low_same m side (λ q. IsAtPlace y (p.x + 1) q) (IsRoundIn m.adjacency p y) b
      (λ q here at. placed (p.x + 1) q (omega arith) (omega arith) at (subst (λ (z : Adjacency). AreBesideUnder z p q) (sym four) (inl (let e = at.place in omega (arith, e)))))
      (λ q here r. record {
        profile = r.profile;
        place = (
            let beside : AreBesideUnder Four p q = subst (λ (z : Adjacency). AreBesideUnder z p q) four r.round.beside in
            let e = r.profile in
            elim beside [ inl column ↦ omega (arith, column) | inr profile ↦ absurd (other (omega (arith, e, profile))) ]);
      })
      middle

  -- under 6 above those before and in the middle
  row-before : m.adjacency ≡ Six → y ≡ p.y → IsLow m side (IsRoundIn m.adjacency p y) (lower_of side a b)
  row-before six above = low_same m side (λ q. IsAtPlace y p.x q ⊎ IsAtPlace y (p.x + 1) q) (IsRoundIn m.adjacency p y) (lower_of side a b)
      (λ q here s. elim s [
        | inl at ↦ placed p.x q (omega arith) (omega arith) at
            (subst (λ (z : Adjacency). AreBesideUnder z p q) (sym six) (inr (inr (let e = at.place in let g = at.profile in (omega (arith, e), omega (arith, g, above))))))
        | inr at ↦ placed (p.x + 1) q (omega arith) (omega arith) at (subst (λ (z : Adjacency). AreBesideUnder z p q) (sym six) (inl (inl (let e = at.place in omega (arith, e)))))
      ])
      (λ q here r.
      let beside : AreBesideUnder Six p q = subst (λ (z : Adjacency). AreBesideUnder z p q) six r.round.beside in
      let e = r.profile in
      let low = r.round.column.0 in
      elim beside [
        | inl straight ↦ elim straight [
          | inl column ↦ inr (record { profile = e; place = omega (arith, column) })
          | inr profile ↦ absurd (omega (arith, e, profile, above))
        ]
        | inr rising ↦ elim rising [
          | inl after ↦ absurd (let g = after.1 in omega (arith, e, g, above))
          | inr earlier ↦ inl (record { profile = e; place = (let g = earlier.0 in omega (arith, g, low)) })
        ]
      ])
      (low_join m side whole (λ q. IsAtPlace y p.x q) (λ q. IsAtPlace y (p.x + 1) q) a b (λ u v s t here. ordered p.x (p.x + 1) u v (omega arith) s t) left middle)

  -- and below those in the middle and after
  row-after : m.adjacency ≡ Six → y ≡ p.y + 2 → IsLow m side (IsRoundIn m.adjacency p y) (lower_of side b c)
  row-after six under = low_same m side (λ q. IsAtPlace y (p.x + 1) q ⊎ IsAtPlace y (p.x + 2) q) (IsRoundIn m.adjacency p y) (lower_of side b c)
      (λ q here s. elim s [
        | inl at ↦ placed (p.x + 1) q (omega arith) (omega arith) at (subst (λ (z : Adjacency). AreBesideUnder z p q) (sym six) (inl (inl (let e = at.place in omega (arith, e)))))
        | inr at ↦ placed (p.x + 2) q (omega arith) (omega arith) at
            (subst (λ (z : Adjacency). AreBesideUnder z p q) (sym six) (inr (inl (let e = at.place in let g = at.profile in (omega (arith, e), omega (arith, g, under))))))
      ])
      (λ q here r.
      let beside : AreBesideUnder Six p q = subst (λ (z : Adjacency). AreBesideUnder z p q) six r.round.beside in
      let e = r.profile in
      let high = r.round.column.1 in
      elim beside [
        | inl straight ↦ elim straight [
          | inl column ↦ inl (record { profile = e; place = omega (arith, column) })
          | inr profile ↦ absurd (omega (arith, e, profile, under))
        ]
        | inr rising ↦ elim rising [
          | inl after ↦ inr (record { profile = e; place = (let g = after.0 in omega (arith, g, high)) })
          | inr earlier ↦ absurd (let g = earlier.1 in omega (arith, e, g, under))
        ]
      ])
      (low_join m side whole (λ q. IsAtPlace y (p.x + 1) q) (λ q. IsAtPlace y (p.x + 2) q) b c (λ u v s t here. ordered (p.x + 1) (p.x + 2) u v (omega arith) s t) middle right)

  pub row-above : y ≡ p.y → IsLow m side (IsRoundIn m.adjacency p y) (low_above side m.adjacency a b c)
  row-above above = elim m.adjacency as (λ v. m.adjacency ≡ v → IsLow m side (IsRoundIn m.adjacency p y) (low_above side v a b c)) [
    | Four ↦ λ e. row-one e (λ own. omega (arith, own, above))
    | Six ↦ λ e. row-before e above
    | Eight ↦ λ e. row-three (λ q profile. beside-eight m.adjacency p q e)
  ] refl

  pub row-below : y ≡ p.y + 2 → IsLow m side (IsRoundIn m.adjacency p y) (low_below side m.adjacency a b c)
  row-below under = elim m.adjacency as (λ v. m.adjacency ≡ v → IsLow m side (IsRoundIn m.adjacency p y) (low_below side v a b c)) [
    | Four ↦ λ e. row-one e (λ own. omega (arith, own, under))
    | Six ↦ λ e. row-after e under
    | Eight ↦ λ e. row-three (λ q profile. beside-eight m.adjacency p q e)
  ] refl

  pub row-level : y ≡ p.y + 1 → IsLow m side (IsRoundIn m.adjacency p y) (low_level side a b c)
  row-level own = row-three (λ q profile. beside-profile m.adjacency p q (omega (arith, profile, own)))

-- the lowest of a point and its neighbours, from the lowest of three rows
round-of : (m : Map) (side : SideName) (whole : IsMap m) (p : Pos) (above level below : Rank) → IsLow m side (IsRoundIn m.adjacency p p.y) above
    → IsLow m side (IsRoundIn m.adjacency p (p.y + 1)) level
    → IsLow m side (IsRoundIn m.adjacency p (p.y + 1 + 1)) below → IsLow m side (IsRound m.adjacency p) (lower_of side (lower_of side above level) below)
round-of m side whole p above level below one two three =
    let first : IsLow m side (IsRoundTo m.adjacency p p.y) above = low_same m side (IsRoundIn m.adjacency p p.y) (IsRoundTo m.adjacency p p.y) above
    (λ q here r. record { round = r.round; before = (let e = r.profile in omega (arith, e)) })
    (λ q here r. record { profile = (let e = r.before in let n = r.round.profile.0 in omega (arith, e, n)); round = r.round })
    one in
    let more = round_more m side whole m.adjacency p p.y above level first two in
    let all = round_more m side whole m.adjacency p (p.y + 1) (lower_of side above level) below more three in
    low_same m side (IsRoundTo m.adjacency p (p.y + 1 + 1)) (IsRound m.adjacency p) (lower_of side (lower_of side above level) below)
    (λ q here r. r.round)
    (λ q here r. record { round = r; before = (let n = r.profile.1 in omega (arith, n)) })
    all

module _ (m : Map) (side : SideName) (whole : IsMap m) (f : Frame) (ranks : List Rank) (are : AreRanks m side f ((f.rows + 2) * (f.columns + 2)) ranks) (i j : ℕ) (row : i < f.rows)
    (column : j < f.columns) where
  -- the rank at one of the places round it
  entry : (u v k : ℕ) → u ≤ 2 → v ≤ 2 → k ≡ i * (f.columns + 2) + u * (f.columns + 2) + (j + v) → IsLow m side (IsAtPlace (f.top + i + u) (f.left + j + v)) (rank_in ranks k)
  entry u v k low narrow e =
      let w : ℕ = f.columns + 2 in
      let rows = mul-le-mul_right w (let h : i + u + 1 ≤ f.rows + 2 = omega (arith, low, row) in h) in
      let at : k ≡ (i + u) * w + (j + v) = omega (arith, e) in
      let inside : (i + u) * w + (j + v) < (f.rows + 2) * w = omega (arith, rows, narrow, column) in
      let is = are.each (i + u) (j + v) (omega (arith, narrow, column)) inside in
      subst (λ (n : ℕ). IsLow m side (IsAtPlace (f.top + i + u) (f.left + j + v)) (rank_in ranks n)) (sym at)
      (subst (λ (y : ℕ). IsLow m side (IsAtPlace y (f.left + j + v)) (rank_in ranks ((i + u) * w + (j + v)))) (let h : f.top + (i + u) ≡ f.top + i + u = omega arith in h)
      (subst (λ (x : ℕ). IsLow m side (IsAtPlace (f.top + (i + u)) x) (rank_in ranks ((i + u) * w + (j + v)))) (let h : f.left + (j + v) ≡ f.left + j + v = omega arith in h) is))

  abbrev at : Pos
  at = record { x = f.left + j; y = f.top + i }

  abbrev first : ℕ
  first = i * (f.columns + 2) + j

  -- its own rank
  pub own-rank : (k : ℕ) → k ≡ i * (f.columns + 2) + j + (f.columns + 2) + 1 → IsLow m side (IsAtPlace (f.top + i + 1) (f.left + j + 1)) (rank_in ranks k)
  own-rank k e = entry 1 1 k (omega arith) (omega arith) (omega (arith, e))

  -- the lowest round it
  pub lowest-round : IsLow m side (IsRound m.adjacency at) (low_round side m.adjacency ranks (f.columns + 2) first)
  lowest-round =
      let w : ℕ = f.columns + 2 in
      let zero_x : f.left + j + 0 ≡ f.left + j = omega arith in
      let zero_y : f.top + i + 0 ≡ f.top + i = omega arith in
      let corner : (u k y : ℕ) → u ≤ 2 → y ≡ f.top + i + u → k ≡ i * w + u * w + j → IsLow m side (IsAtPlace y at.x) (rank_in ranks k) = λ u k y low e g.
      subst (λ (n : ℕ). IsLow m side (IsAtPlace n at.x) (rank_in ranks k)) (sym e)
      (subst (λ (x : ℕ). IsLow m side (IsAtPlace (f.top + i + u) x) (rank_in ranks k)) zero_x (entry u 0 k low (omega arith) (omega (arith, g)))) in
      let beside : (u v k y : ℕ) → u ≤ 2 → v ≤ 2 → y ≡ f.top + i + u → k ≡ i * w + u * w + (j + v) → IsLow m side (IsAtPlace y (at.x + v)) (rank_in ranks k) = λ u v k y low narrow e g.
      subst (λ (n : ℕ). IsLow m side (IsAtPlace n (at.x + v)) (rank_in ranks k)) (sym e) (entry u v k low narrow g) in
      let above = row-above m side whole at at.y (omega arith, omega arith) (rank_in ranks first) (rank_in ranks (first + 1)) (rank_in ranks (first + 2))
      (corner 0 first at.y (omega arith) (omega arith) (omega arith)) (beside 0 1 (first + 1) at.y (omega arith) (omega arith) (omega arith) (omega arith))
      (beside 0 2 (first + 2) at.y (omega arith) (omega arith) (omega arith) (omega arith)) refl in
      let level = row-level m side whole at (at.y + 1) (omega arith, omega arith) (rank_in ranks (first + w)) (rank_in ranks (first + w + 1)) (rank_in ranks (first + w + 2))
      (corner 1 (first + w) (at.y + 1) (omega arith) (omega arith) (omega arith)) (beside 1 1 (first + w + 1) (at.y + 1) (omega arith) (omega arith) (omega arith) (omega arith))
      (beside 1 2 (first + w + 2) (at.y + 1) (omega arith) (omega arith) (omega arith) (omega arith)) refl in
      let below = row-below m side whole at (at.y + 1 + 1) (omega arith, omega arith) (rank_in ranks (first + w + w)) (rank_in ranks (first + w + w + 1)) (rank_in ranks (first + w + w + 2))
      (corner 2 (first + w + w) (at.y + 1 + 1) (omega arith) (omega arith) (omega arith)) (beside 2 1 (first + w + w + 1) (at.y + 1 + 1) (omega arith) (omega arith) (omega arith) (omega arith))
      (beside 2 2 (first + w + w + 2) (at.y + 1 + 1) (omega arith) (omega arith) (omega arith) (omega arith)) (omega arith) in
      round-of m side whole at _ _ _ above level below

-- the same for a position of the part
module _ (m : Map) (side : SideName) (whole : IsMap m) (f : Frame) (ranks : List Rank) (are : AreRanks m side f ((f.rows + 2) * (f.columns + 2)) ranks) (p : Pos) (within : InFrame f p) where
  abbrev i : ℕ
  i = p.y - f.top

  abbrev j : ℕ
  j = p.x - f.left

  row_in : i < f.rows
  row_in = (let a = within.top in let b = within.bottom in omega (arith, a, b))

  column_in : j < f.columns
  column_in = (let a = within.left in let b = within.right in omega (arith, a, b))

  here : record { x = f.left + j; y = f.top + i } ≡ p
  here = (let a = within.left in let b = within.top in same_pos (record { x = f.left + j; y = f.top + i }) p (omega (arith, a)) (omega (arith, b)))

  pub lowest-at : IsLow m side (IsRound m.adjacency p) (low_round side m.adjacency ranks (f.columns + 2) (i * (f.columns + 2) + j))
  lowest-at = subst (λ (q : Pos). IsLow m side (IsRound m.adjacency q) (low_round side m.adjacency ranks (f.columns + 2) (i * (f.columns + 2) + j))) here
      (lowest-round m side whole f ranks are i j row_in column_in)

  pub entry-inside : (u v : ℕ) → u ≤ 2 → v ≤ 2 → (i + v) * (f.columns + 2) + (j + u) < length ranks
  entry-inside u v narrow low =
      let w : ℕ = f.columns + 2 in
      let rows = mul-le-mul_right w (let h : i + v + 1 ≤ f.rows + 2 = (let r = row_in in omega (arith, low, r)) in h) in
      let count = are.whole in
      let column = column_in in
      omega (arith, rows, count, narrow, column)

  pub entry-at : (u v : ℕ) → u ≤ 2 → v ≤ 2 → IsLow m side (IsAtPlace (p.y + v) (p.x + u)) (rank_in ranks ((i + v) * (f.columns + 2) + (j + u)))
  entry-at u v narrow low =
      let is = are.each (i + v) (j + u) (let c = column_in in omega (arith, c, narrow)) (let inside = entry-inside u v narrow low in let count = are.whole in omega (arith, inside, count)) in
      let y : f.top + (i + v) ≡ p.y + v = (let b = within.top in omega (arith, b)) in
      let x : f.left + (j + u) ≡ p.x + u = (let a = within.left in omega (arith, a)) in
      subst (λ (n : ℕ). IsLow m side (IsAtPlace n (p.x + u)) (rank_in ranks ((i + v) * (f.columns + 2) + (j + u)))) y
      (subst (λ (n : ℕ). IsLow m side (IsAtPlace (f.top + (i + v)) n) (rank_in ranks ((i + v) * (f.columns + 2) + (j + u)))) x is)
