-- Paths of points and ways over borders: a pass is the saddle of its two pits exactly where no borders of lower passes join them.
use Rattle.std.proofs.Common.{◌≡◌, ◌≢◌, ◌<◌, ◌⊎◌, ℕ, Bool, true, false, cond, inl, inr, List, refl, sym, subst, arith}
use Rattle.std.specs.Prelude.{◌↔◌, Contains}
use Rattle.std.proofs.lemmas.Bool.{cases_eq, cases_lt}
use Rattle.hd_map.specs.declared.types.Rank.{Rank}
use Rattle.hd_map.specs.declared.types.SideName.{SideName}
use Rattle.hd_map.specs.Map.{Map}
use Rattle.hd_map.specs.Passes.{higher_by}
use Rattle.hd_map.specs.Rank.{IsPoint, Near, below_by}
use Rattle.hd_map.specs.Saddle.{IsSaddle}
use Rattle.hd_map.specs.SideLaws.{below_by-order}
use Rattle.hd_map.proofs.Levels.{Reach, here, reach-trans, step}
use Rattle.hd_map.proofs.Points.{Near-to}
use Rattle.hd_map.proofs.Saddles.{level-from_saddle, near-sym, saddle-from_level}
use Rattle.hd_map.proofs.Order.{not_above-along}
use Rattle.hd_map.proofs.Higher.{higher-bounds}
use Rattle.hd_prune.proofs.JoinedByPaths.{JoinedBy, joined_along, joined_both, joined_higher, not_above_level}
use Rattle.hd_steep.specs.declared.border.Border.{Border}
use Rattle.hd_steep.specs.Borders.{AreBorders}
use Rattle.hd_lines.specs.FirstJoins.{IsFirstJoin, LowerStep}
use Rattle.hd_steep.specs.Pairs.{IsAcross, Pair}
use Rattle.hd_steep.specs.Found.{HasPlace}
use Rattle.hd_steep.proofs.Seen.{place-one}

-- the higher of two that are below a level is below it
pub higher_by-below : (side : SideName) (x y w : Rank) → below_by side x w ≡ true → below_by side y w ≡ true → below_by side (higher_by side x y) w ≡ true
higher_by-below side x y w h k = elim (below_by side x y) as (λ v. below_by side (cond v y x) w ≡ true) [ true ↦ k | false ↦ h ]

module _ (m : Map) (side : SideName) (places : List ℕ) (borders : List Border) (are : AreBorders m side places borders) (pit : ℕ → Rank)
    (placed : (x : Rank) → IsPoint m x → (i : ℕ) × HasPlace m places x i)
    (crossed : (x y : Rank) (i j : ℕ) → Near m x y → HasPlace m places x i → HasPlace m places y j → i ≢ j → JoinedBy m side (higher_by side x y) (pit i) (pit j)) where
  -- the pits of a border are joined at its pass
  pub JoinedBy-pass : (l : Border) → Contains borders l → JoinedBy m side l.pass (pit l.a) (pit l.b)
  JoinedBy-pass l at =
      let r = (are.counted l at).reached in
      let less = are.lesser l at in
      subst (λ (w : Rank). JoinedBy m side w (pit l.a) (pit l.b)) (sym r.2) (crossed r.0.from r.0.to l.a l.b r.1.near r.1.from_in r.1.to_in (λ e. omega arith))

  -- borders of lower passes join pits below the level
  lower-joins : (w : Rank) {i j : ℕ} → Reach (LowerStep (below_by side) borders w) i j → (i ≡ j) ⊎ ((t : Rank) × (below_by side t w ≡ true) × JoinedBy m side t (pit i) (pit j))
  lower-joins w here = inl refl
  lower-joins w (step {a = i} {b = k} {c = j} s r) =
      let l : Border = s.0 in
      let one : JoinedBy m side l.pass (pit i) (pit k) = elim s.2 [
        | inl e ↦ subst (λ n. JoinedBy m side l.pass (pit n) (pit k)) e.0 (subst (λ n. JoinedBy m side l.pass (pit l.a) (pit n)) e.1 (JoinedBy-pass l s.1))
        | inr e ↦ subst (λ n. JoinedBy m side l.pass (pit n) (pit k)) e.1 (subst (λ n. JoinedBy m side l.pass (pit l.b) (pit n)) e.0
            (joined_both m side l.pass (pit l.a) (pit l.b) (JoinedBy-pass l s.1)))
      ] in
      elim (lower-joins w r) [
        | inl e ↦ inr (l.pass, s.3, subst (λ n. JoinedBy m side l.pass (pit i) (pit n)) e one)
        | inr rest ↦
            let t : Rank = rest.0 in
            let bounds = higher-bounds side l.pass t in
            inr (
              higher_by side l.pass t,
              higher_by-below side l.pass t w s.3 rest.1,
              joined_along m side (higher_by side l.pass t) (pit i) (pit k) (pit j) (joined_higher m side l.pass (higher_by side l.pass t) (pit i) (pit k) bounds.0 one)
                  (joined_higher m side t (higher_by side l.pass t) (pit k) (pit j) bounds.1 rest.2),
            )
      ]

  -- a pair of neighbours below the level lies across such a border, or in one region
  pair-lower : (w x y : Rank) (i j : ℕ) → Near m x y → HasPlace m places x i → HasPlace m places y j → below_by side (higher_by side x y) w ≡ true → i < j → LowerStep (below_by side) borders w i j
  pair-lower w x y i j near h k low less =
      let p : Pair = record { from = x; to = y } in
      let l = are.all i j p less (record { near = near; from_in = h; to_in = k }) in
      let across : IsAcross m (HasPlace m places) (l.0).a (l.0).b p = subst (λ n. IsAcross m (HasPlace m places) n (l.0).b p) (sym l.2)
      (subst (λ n. IsAcross m (HasPlace m places) i n p) (sym l.3) (record { near = near; from_in = h; to_in = k })) in
      (l.0, l.1, inl (l.2, l.3), not_above-along (below_by side) (below_by-order side) (l.0).pass (higher_by side x y) w ((are.counted l.0 l.1).least p across) low)

  step-lower : (w x y : Rank) (i j : ℕ) → Near m x y → HasPlace m places x i → HasPlace m places y j → below_by side x w ≡ true → below_by side y w ≡ true
      → Reach (LowerStep (below_by side) borders w) i j
  step-lower w x y i j near h k low low' = elim (cases_eq i j) [
    | inl e ↦ subst (λ n. Reach (LowerStep (below_by side) borders w) i n) e here
    | inr ne ↦ elim (cases_lt i j) [
      | inl less ↦ step (pair-lower w x y i j near h k (higher_by-below side x y w low low') less) here
      | inr more ↦ (
          let s = pair-lower w y x j i (near-sym m x y near) k h (higher_by-below side y x w low' low) (omega arith) in
          step (s.0, s.1, elim s.2 [ inl e ↦ inr e | inr e ↦ inl e ], s.3) here)
    ]
  ]

  -- and so does each path below it
  path-lower : (w t : Rank) → below_by side t w ≡ true → {x y : Rank} → JoinedBy m side t x y → (i j : ℕ) → HasPlace m places x i → HasPlace m places y j
      → Reach (LowerStep (below_by side) borders w) i j
  path-lower w t low (here {a = x}) i j h k = subst (λ n. Reach (LowerStep (below_by side) borders w) i n) (place-one m places x i j h k) here
  path-lower w t low (step {a = x} {b = y} {c = z} s r) i j h k =
      let o = placed y (Near-to m x y s.0) in
      reach-trans (LowerStep (below_by side) borders w)
      (step-lower w x y i o.0 s.0 h o.1 (not_above-along (below_by side) (below_by-order side) x t w s.1 low) (not_above-along (below_by side) (below_by-order side) y t w s.2 low))
      (path-lower w t low r o.0 j o.1 k)

  -- a border joins what lower ones leave apart exactly where its pass is the saddle
  pub IsFirstJoin-saddle : (l : Border) → Contains borders l → HasPlace m places (pit l.a) l.a → HasPlace m places (pit l.b) l.b → (first : Bool) → IsFirstJoin (below_by side) borders l first
      → (first ≡ true) ↔ IsSaddle m side (pit l.a) (pit l.b) l.pass
  IsFirstJoin-saddle l at own own' first is = (
    λ e. saddle-from_level m side (pit l.a) (pit l.b) l.pass own.point (record {
      from_low = not_above_level m side l.pass (pit l.a) (pit l.b) apart (JoinedBy-pass l at);
      joined = JoinedBy-pass l at;
      least = λ t low j. elim (below_by side t l.pass) as (λ v. below_by side t l.pass ≡ v → v ≡ false) [
        | true ↦ λ below. absurd (is.0 e (path-lower l.pass t below j l.a l.b own own'))
        | false ↦ λ f. refl
      ] refl;
    }),
    λ saddle. is.1 (λ r. elim (lower-joins l.pass r) [
      | inl e ↦ different e
      | inr j ↦ (
          let level = level-from_saddle m side (pit l.a) (pit l.b) l.pass saddle in
          let high = level.least j.0 (not_above_level m side j.0 (pit l.a) (pit l.b) apart j.2) j.2 in
          let low = j.1 in
          absurd cc)
    ]),
  )
    where
      different : l.a ≡ l.b → ⊥
      different e = (let less = are.lesser l at in omega arith)

      apart : pit l.b ≢ pit l.a
      apart e = different (place-one m places (pit l.a) l.a l.b own (subst (λ (z : Rank). HasPlace m places z l.b) e own'))
