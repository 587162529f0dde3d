-- Links between the pits of regions join what the crossings between these regions join.
use Rattle.std.proofs.Common.{◌≡◌, ◌∙◌, ◌<◌, ◌⊎◌, ℕ, true, false, List, length, map, inl, inr, refl, sym, ap, subst, arith}
use Rattle.std.specs.Prelude.{◌↔◌, All, Contains, pos, if◌then◌else◌}
use Rattle.std.proofs.lemmas.List.{get_or-map, length-map}
use Rattle.std.proofs.lemmas.List.Elements.{All-contains, All-weaker}
use Rattle.hd_graph.specs.declared.graph.Low.{Low}
use Rattle.hd_map.specs.declared.types.Link.{Link}
use Rattle.hd_graph.specs.Links.{HasEnds, pass_of as pass_of_link, rank_at}
use Rattle.hd_map.specs.declared.types.Pass.{Pass}
use Rattle.hd_map.specs.declared.types.Rank.{Rank}
use Rattle.hd_map.specs.declared.types.SideName.{SideName}
use Rattle.hd_map.specs.Rank.{below_by}
use Rattle.hd_map.specs.Walks.{HasPass}
use Rattle.hd_map.proofs.Items.{Contains-map, map-Contains}
use Rattle.hd_map.specs.declared.types.Link.{Link}
use Rattle.hd_steep.specs.Crossings.{HasPits, pass_of, passes_of, pit_at}
use Rattle.hd_survey.specs.PitLinks.{low_of}

-- a pass from its other end
abbrev turned : Pass → Pass
turned p = record { a = p.b; b = p.a; at = p.at }

-- passes that differ in which end they name first join the same
has-alike : (xs : List Link) (F G : Link → Pass) → ((x : Link) → Contains xs x → (F x ≡ G x) ⊎ (F x ≡ turned (G x))) → (a b w : Rank) → HasPass (map F xs) a b w → HasPass (map G xs) a b w
has-alike xs F G alike a b w (inl h) =
    let c = Contains-map F xs (record { a = a; b = b; at = w }) h in
    elim (alike c.0 c.1) [
      | inl same ↦ inl (subst (Contains (map G xs)) (sym same ∙ c.2) (map-Contains G xs c.0 c.1))
      | inr turn ↦ inr (subst (Contains (map G xs)) (ap turned (sym turn ∙ c.2)) (map-Contains G xs c.0 c.1))
    ]
has-alike xs F G alike a b w (inr h) =
    let c = Contains-map F xs (record { a = b; b = a; at = w }) h in
    elim (alike c.0 c.1) [
      | inl same ↦ inr (subst (Contains (map G xs)) (sym same ∙ c.2) (map-Contains G xs c.0 c.1))
      | inr turn ↦ inl (subst (Contains (map G xs)) (ap turned (sym turn ∙ c.2)) (map-Contains G xs c.0 c.1))
    ]

module _ (side : SideName) (pits : List Rank) where
  rank-is : (k : ℕ) → k < length pits → rank_at (map low_of pits) k ≡ pit_at pits k
  rank-is k inside = ap (λ (x : Low). x.rank) (get_or-map low_of pits k (record { height = pos 0; index = 0 }) (record { rank = record { height = pos 0; index = 0 }; pit = false }) inside)

  -- the pass of a crossing, the pit named first that the crossing names first
  abbrev plain : Link → Pass
  plain x = record { a = pit_at pits x.a; b = pit_at pits x.b; at = x.at }

  pass_of_link-is : (x : Link) → HasPits pits x → pass_of_link (map low_of pits) x ≡ plain x
  pass_of_link-is x inside = ap (λ (r : Rank). record { a = r; b = rank_at (map low_of pits) x.b; at = x.at }) (rank-is x.a inside.0)
      ∙ ap (λ (r : Rank). record { a = pit_at pits x.a; b = r; at = x.at }) (rank-is x.b inside.1)

  pass_of-is : (x : Link) → (plain x ≡ pass_of side pits x) ⊎ (plain x ≡ turned (pass_of side pits x))
  pass_of-is x = elim (below_by side (pit_at pits x.a) (pit_at pits x.b)) as (λ below. (plain x ≡ (if below then plain x else turned (plain x)))
      ⊎ (plain x ≡ turned (if below then plain x else turned (plain x)))) [
        | true ↦ inl refl
        | false ↦ inr refl
      ]

  module _ (xs : List Link) (inside : All (HasPits pits) xs) where
    alike : (x : Link) → Contains xs x → (pass_of_link (map low_of pits) x ≡ pass_of side pits x) ⊎ (pass_of_link (map low_of pits) x ≡ turned (pass_of side pits x))
    alike x here = (let is = pass_of_link-is x (All-contains (HasPits pits) xs x inside here) in elim (pass_of-is x) [ inl same ↦ inl (is ∙ same) | inr turn ↦ inr (is ∙ turn) ])

    back : (x : Link) → Contains xs x → (pass_of side pits x ≡ pass_of_link (map low_of pits) x) ⊎ (pass_of side pits x ≡ turned (pass_of_link (map low_of pits) x))
    back x here = elim (alike x here) [ inl same ↦ inl (sym same) | inr turn ↦ inr (ap turned (sym turn)) ]

    pub links-passes : (a b w : Rank) → HasPass (map (pass_of_link (map low_of pits)) xs) a b w ↔ HasPass (passes_of side pits xs) a b w
    links-passes a b w = (
      λ h. has-alike xs (pass_of_link (map low_of pits)) (pass_of side pits) alike a b w h,
      λ h. has-alike xs (pass_of side pits) (pass_of_link (map low_of pits)) back a b w h,
    )

    pub links-inside : All (HasEnds (length (map low_of pits))) xs
    links-inside = (let long = length-map pits low_of in All-weaker (HasPits pits) (HasEnds (length (map low_of pits)))
        (λ x h. (let a = h.0 in let b = h.1 in (omega (arith, a, long), omega (arith, b, long)))) xs inside)
