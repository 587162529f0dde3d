-- Descents that are traced across, one list after the other, and what the passes are in the end.
use Rattle.std.proofs.Common.{◌≡◌, ◌≢◌, ◌<◌, ◌+◌, ℕ, Bool, true, false, not, nat_eq, List, [], ◌∷◌, ◌++◌, length, get_or, take, Option, inl, inr, ap, ◌∙◌, sym, subst, refl, arith}
use Rattle.std.specs.Prelude.{All, Contains, if◌then◌else◌}
use Rattle.std.proofs.lemmas.Bool.Decides.{nat_tests}
use Rattle.std.proofs.lemmas.List.{map_push, take_more}
use Rattle.std.proofs.lemmas.List.Elements.{All-push, Contains-append_cases}
use Rattle.hd_map.specs.declared.types.Link.{Link}
use Rattle.hd_map.specs.declared.types.Pass.{Pass}
use Rattle.hd_map.specs.declared.types.Pos.{Pos}
use Rattle.hd_map.specs.declared.types.Rank.{Rank}
use Rattle.hd_map.specs.declared.types.SideName.{SideName}
use Rattle.hd_map.specs.Map.{Map, IsMap, Present, position_at}
use Rattle.hd_map.specs.Path.{Leads}
use Rattle.hd_map.specs.Pruning.{ArePits}
use Rattle.hd_map.specs.Rank.{rank, IsPoint}
use Rattle.hd_map.specs.Region.{LowerNeighbour, AreRegions}
use Rattle.hd_map.proofs.Items.{Contains-cases, Contains-none}
use Rattle.hd_map.proofs.Nexts.{root-next}
use Rattle.hd_map.proofs.Points.{Near-from, Near-to, rank_position, same_index}
use Rattle.hd_steep.specs.declared.descent.Descent.{Descent}
use Rattle.hd_steep.specs.Crossed.{AreBeside, Extends, Gathers, IsCrossed, IsPassTo, IsServed}
use Rattle.hd_steep.specs.Crossings.{HasPits, IsCrossingAlong, IsNumberAt, IsNumberOf, pass_of, passes_of}
use Rattle.hd_steep.specs.Descended.{Descends}
use Rattle.hd_steep.specs.Descents.{IsDescent, IsReached, LeadsDown}
use Rattle.hd_steep.specs.Tracing.{IsTracedAcross, Traced, TracesAcross, traced_passes}
use Rattle.hd_steep.proofs.Crossed.{crossed_in_one, crossed_kept, crossed_push, extends_none, extends_on, extends_push}
use Rattle.hd_steep.proofs.NumberedCrossings.{in_one-numbers, pass-to}

-- crossings that were found without a trace
abbrev pub untraced : List Rank → List Link → Traced
untraced pits crossings = record { pits = pits; numbers = []; crossings = crossings }

module _ (m : Map) (side : SideName) where
  -- a descent that was traced across stays so when more crossings are added, as those of the lists after its own
  pub across_kept : (t u : Traced) (d : Descent) → Extends m side (traced_passes m side t) (traced_passes m side u) → IsTracedAcross m side t d → IsTracedAcross m side u d
  across_kept t u d extends across x y leads = crossed_kept m side (traced_passes m side t) (traced_passes m side u) x y extends (across x y leads)

  -- before the first list nothing is traced
  pub traces_none : (t : Traced) → TracesAcross m side [] t t
  traces_none t = record { same = refl; extends = extends_none m side (traced_passes m side t); across = λ d h. absurd (Contains-none d h) }

  -- lists that are traced across one after the other are traced across together
  pub traces_on : (xs ys : List Descent) (t u v : Traced) → TracesAcross m side xs t u → TracesAcross m side ys u v → TracesAcross m side (xs ++ ys) t v
  traces_on xs ys t u v one other = record {
    same = other.same ∙ one.same;
    extends = extends_on m side (traced_passes m side t) (traced_passes m side u) (traced_passes m side v) one.extends other.extends;
    across = λ d h. elim (Contains-append_cases xs ys d h) [
      | inl old ↦ across_kept u v d other.extends (one.across d old)
      | inr new ↦ other.across d new
    ];
  }

  -- one more descent of a list, for a loop over it
  pub traces_more : (list : List Descent) (n : ℕ) (d : Descent) (t u v : Traced) → n < length list → TracesAcross m side (take n list) t u → TracesAcross m side (get_or list n d ∷ []) u v
      → TracesAcross m side (take (n + 1) list) t v
  traces_more list n d t u v inside one other =
      subst (λ (ds : List Descent). TracesAcross m side ds t v) (sym (take_more list n d inside)) (traces_on (take n list) (get_or list n d ∷ []) t u v one other)

  -- where the first of what was traced has no crossing, all passes in the end are those of descents
  pub traces_from_none : (list : List Descent) (t u : Traced) → t.crossings ≡ [] → TracesAcross m side list t u → Extends m side [] (traced_passes m side u)
  traces_from_none list t u none traces =
      subst (λ (ps : List Pass). Extends m side ps (traced_passes m side u)) (ap (passes_of side t.pits) none) traces.extends

  -- the rank of the point with an index
  rank_at : (x : Rank) (k : ℕ) → IsPoint m x → k ≡ x.index → x ≡ rank m (position_at m.size k)
  rank_at x k point e = point.rank_is ∙ ap (rank m) (sym (rank_position m x point.at point.present point.rank_is)) ∙ ap (λ i. rank m (position_at m.size i)) (sym e)

  -- a point has the number at its index
  number_of_rank : (pits : List Rank) (x : Rank) (k n : ℕ) → IsPoint m x → k ≡ x.index → IsNumberAt m side pits k n → IsNumberOf m side pits x n
  number_of_rank pits x k n point e is = subst (λ (r : Rank). IsNumberOf m side pits r n) (same_index m is.at x is.point point (sym is.index_is ∙ e)) is.number

  -- the one descent of a list
  only_descent : (P : Descent → Type 0) (d : Descent) → P d → (e : Descent) → Contains (d ∷ []) e → P e
  only_descent P d holds e h = elim (Contains-cases d e [] h) [
    | inl same ↦ subst P (sym same) holds
    | inr none ↦ absurd (Contains-none e none)
  ]

  -- a descent whose ends have these numbers
  module _ (t : Traced) (d : Descent) (a b : ℕ) (from : IsNumberAt m side t.pits d.from a) (to : IsNumberAt m side t.pits d.to b) where
    from_number : (x y : Rank) → LeadsDown m side d x y → IsNumberOf m side t.pits x a
    from_number x y leads = number_of_rank t.pits x d.from a (Near-from m x y leads.lower.near) leads.from_is from

    to_number : (x y : Rank) → LeadsDown m side d x y → IsNumberOf m side t.pits y b
    to_number x y leads = number_of_rank t.pits y d.to b (Near-to m x y leads.lower.near) leads.to_is to

    -- is traced across where they are the same
    traces_same : (numbers : List ℕ) → a ≡ b → TracesAcross m side (d ∷ []) t (record { pits = t.pits; numbers = numbers; crossings = t.crossings })
    traces_same numbers same = record {
      same = refl;
      extends = extends_none m side (traced_passes m side t);
      across = only_descent (IsTracedAcross m side (record { pits = t.pits; numbers = numbers; crossings = t.crossings })) d
          (λ x y leads. crossed_in_one m side (traced_passes m side t) x y (in_one-numbers m side t.pits x y a b (from_number x y leads) (to_number x y leads) same));
    }

    -- and where they are not, by their crossing
    traces_push : (numbers : List ℕ) (at : Rank) → ArePits m side t.pits → IsDescent m side d → at ≡ rank m (position_at m.size d.from) → a ≢ b
        → TracesAcross m side (d ∷ []) t (record { pits = t.pits; numbers = numbers; crossings = t.crossings ++ record { a = a; b = b; at = at } ∷ [] })
    traces_push numbers at pits is at_is apart =
        let link : Link = record { a = a; b = b; at = at } in
        let new : Traced = record { pits = t.pits; numbers = numbers; crossings = t.crossings ++ link ∷ [] } in
        let old = traced_passes m side t in
        let pass = pass_of side t.pits link in
        let pushed : traced_passes m side new ≡ old ++ pass ∷ [] = map_push (pass_of side t.pits) t.crossings link in
        let along = λ (x y : Rank) (leads : LeadsDown m side d x y).
        subst (λ (r : Rank). IsPassTo m side x y (pass_of side t.pits (record { a = a; b = b; at = r })))
        (rank_at x d.from (Near-from m x y leads.lower.near) leads.from_is ∙ sym at_is)
        (pass-to m side t.pits x y a b (from_number x y leads) (to_number x y leads) pits.in_order apart) in
        record {
          same = refl;
          extends = subst (λ (ps : List Pass). Extends m side old ps) (sym pushed) (extends_push m side old pass is.from is.to is.leads.lower (along is.from is.to is.leads));
          across = only_descent (IsTracedAcross m side new) d (λ x y leads. subst (λ (ps : List Pass). IsCrossed m side ps x y) (sym pushed) (crossed_push m side old pass x y (along x y leads)));
        }

  -- a crossing along a descent is put where it names two regions
  pub traces_if : (t : Traced) (d : Descent) (link : Link) (keep : Bool) → ArePits m side t.pits → IsDescent m side d → IsCrossingAlong m side t.pits d link → keep ≡ not (nat_eq link.a link.b)
      → TracesAcross m side (d ∷ []) t (record { pits = t.pits; numbers = t.numbers; crossings = if keep then t.crossings ++ link ∷ [] else t.crossings })
  traces_if t d link true pits is along e =
      let apart : link.a ≢ link.b = grind (arith, nat_tests) in
      traces_push t d link.a link.b along.from along.to t.numbers link.at pits is along.at_is apart
  traces_if t d link false pits is along e =
      let same : link.a ≡ link.b = grind (arith, nat_tests) in
      traces_same t d link.a link.b along.from along.to t.numbers same

  -- its numbers are those of pits
  pub with_pits : (pits : List Rank) (old : List Link) (d : Descent) (link : Link) (keep : Bool) → IsCrossingAlong m side pits d link → All (HasPits pits) old
      → All (HasPits pits) (if keep then old ++ link ∷ [] else old)
  with_pits pits old d link true along all = All-push (HasPits pits) old link all (along.from.number.inside, along.to.number.inside)
  with_pits pits old d link false along all = all

  -- a way round x by lower neighbours leads to one of them
  leads_lower : (x a b : Rank) (ys : List Rank) → LowerNeighbour m side x a → Leads (AreBeside m side x) a ys b → LowerNeighbour m side x b
  leads_lower x a b [] low leads = subst (λ (r : Rank). LowerNeighbour m side x r) leads low
  leads_lower x a b (y ∷ ys) low leads = leads_lower x y b ys leads.0.to leads.1

  -- where each lower neighbour is reached by one of several lists, all of which were traced across, the passes are crossings
  module _ (whole : IsMap m) (roots : List (Option ℕ)) (regions : AreRegions m side roots) (t : Traced) where
    served_traced : (u : Pos) (z : Rank) (list : List Descent) → Present m u → LowerNeighbour m side (rank m u) z → IsReached m side list (rank m u) z
        → ((d : Descent) → Contains list d → IsTracedAcross m side t d) → IsServed m side (traced_passes m side t) (rank m u) z
    served_traced u z list here low reached across =
        let x : Rank = rank m u in
        let last = reached.last in
        record {
          last = last;
          way = reached.way;
          along = reached.along;
          crossed = elim reached.by [
            | inl next ↦
                let found = regions.present u here in
                record { a = found.0; b = found.0; from = found.1; to = root-next m side x last found.0 next found.1; by = inl refl }
            | inr there ↦
                let d : Descent = record { from = x.index; to = last.index } in
                across d there x last (record { lower = leads_lower x z last reached.way low reached.along; from_is = refl; to_is = refl })
          ];
        }

    -- where descents from some points are traced across, the passes are gathered at these
    pub gathers_traced : (C : Pos → Type 0) (list : List Descent) → Descends m side C [] list → Extends m side [] (traced_passes m side t)
        → ((d : Descent) → Contains list d → IsTracedAcross m side t d)
        → Gathers m side C [] (traced_passes m side t)
    gathers_traced C list descends extends across = record {
      extends = extends;
      served = λ u chosen here z low. served_traced u z list here low (descends.all u chosen here z low) across;
    }
