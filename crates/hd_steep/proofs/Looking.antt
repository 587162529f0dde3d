-- The lowest round a point, as it is looked for: column by column, and profile by profile.
use Rattle.std.proofs.Common.{◌<◌, ◌+◌, ℕ, ◌⊎◌, inl, inr, ap, ◌≡◌, arith}
use Rattle.std.proofs.lemmas.Bool.{cases_lt}
use Rattle.hd_map.specs.declared.types.Adjacency.{Adjacency}
use Rattle.hd_map.specs.declared.types.Pos.{Pos}
use Rattle.hd_map.specs.declared.types.Rank.{Rank}
use Rattle.hd_map.specs.declared.types.SideName.{SideName}
use Rattle.hd_map.specs.Map.{Map, IsMap}
use Rattle.hd_map.specs.Neighbour.{IsNear}
use Rattle.hd_map.proofs.Gather.{same_pos}
use Rattle.hd_steep.specs.Lowest.{lower_of, IsLow, IsPlaceBeside, IsRound, IsRoundIn}
use Rattle.hd_steep.proofs.Lows.{low_same, low_join, place_above, place_before}

-- a position of a profile, round another one and before a column
pub record IsRoundBefore (adjacency : Adjacency) (p : Pos) (y column : ℕ) (q : Pos) : Type 0 where
  pub round : IsRoundIn adjacency p y q
  pub before : q.x < column

-- a position round another one before a profile
pub record IsRoundTo (adjacency : Adjacency) (p : Pos) (y : ℕ) (q : Pos) : Type 0 where
  pub round : IsRound adjacency p q
  pub before : q.y < y

module _ (m : Map) (side : SideName) (whole : IsMap m) (adjacency : Adjacency) (p : Pos) where
  -- one column more
  pub span_more : (y column : ℕ) (low other : Rank) → IsNear p.y y → IsNear p.x column → IsLow m side (IsRoundBefore adjacency p (y + 1) column) low
      → IsLow m side (IsPlaceBeside adjacency p (record { x = column; y = y })) other
      → IsLow m side (IsRoundBefore adjacency p (y + 1) (column + 1)) (lower_of side low other)
  span_more y column low other row near before here =
      let P : Pos → Type 0 = λ q. IsRoundBefore adjacency p (y + 1) column q in
      let at : Pos = record { x = column; y = y } in
      let Q : Pos → Type 0 = λ q. IsPlaceBeside adjacency p at q in
      low_same m side (λ q. P q ⊎ Q q) (IsRoundBefore adjacency p (y + 1) (column + 1)) (lower_of side low other)
      (λ q there chosen. elim chosen [
        | inl r ↦ record { round = r.round; before = (let b = r.before in omega (arith, b)) }
        | inr one ↦
            let x : q.x ≡ column = ap (λ (o : Pos). o.x) one.place in
            let e : q.y ≡ y = ap (λ (o : Pos). o.y) one.place in
            record {
              round = record {
                profile = omega (arith, e);
                round = record {
                  column = (omega (arith, x, near), omega (arith, x, near));
                  profile = (
                    omega (arith, e, row),
                    omega
                        (arith, e, row),
                  );
                  beside = one.beside;
                };
              };
              before = omega (arith, x);
            }
      ])
      (λ q there r. elim (cases_lt q.x column) [
        | inl less ↦ inl (record { round = r.round; before = less })
        | inr not ↦ inr (record { place = same_pos q at (let b = r.before in omega (arith, b, not)) (let e = r.round.profile in omega (arith, e)); beside = r.round.round.beside })
      ])
      (low_join m side whole P Q low other (λ q o s t there. place_before m.size q o
      (let a = s.round.profile in let b : o.y ≡ y = ap (λ (i : Pos). i.y) t.place in omega (arith, a, b))
      (let a = s.before in let b : o.x ≡ column = ap (λ (i : Pos). i.x) t.place in omega (arith, a, b))) before here)

  -- one profile more
  pub round_more : (y : ℕ) (low other : Rank) → IsLow m side (IsRoundTo adjacency p y) low → IsLow m side (IsRoundIn adjacency p (y + 1)) other
      → IsLow m side (IsRoundTo adjacency p (y + 1)) (lower_of side low other)
  round_more y low other before here =
      let P : Pos → Type 0 = λ q. IsRoundTo adjacency p y q in
      let Q : Pos → Type 0 = λ q. IsRoundIn adjacency p (y + 1) q in
      low_same m side (λ q. P q ⊎ Q q) (IsRoundTo adjacency p (y + 1)) (lower_of side low other)
      (λ q there chosen. elim chosen [
        | inl r ↦ record { round = r.round; before = (let b = r.before in omega (arith, b)) }
        | inr s ↦ record { round = s.round; before = (let e = s.profile in omega (arith, e)) }
      ])
      (λ q there round. elim (cases_lt q.y y) [
        | inl less ↦ inl (record { round = round.round; before = less })
        | inr not ↦ inr (record { profile = (let b = round.before in omega (arith, b, not)); round = round.round })
      ])
      (low_join m side whole P Q low other (λ q r s t there. place_above m.size q r there.in_grid.column (let a = s.before in let b = t.profile in omega (arith, a, b))) before here)
