use Rattle.std.proofs.Common.{◌≡◌, ◌<◌, ◌∙◌, ◌++◌, ◌∷◌, [], ℕ, List, length, get_or, map, take, sym, ap, subst}
use Rattle.std.specs.Prelude.{pos}
use Rattle.std.proofs.lemmas.List.{get_or_default, map-append, take_more}
use Rattle.hd_map.specs.declared.types.Rank.{Rank}
use Rattle.hd_map.specs.declared.types.RegionSize.{RegionSize}
use Rattle.hd_survey.specs.Regions.{points_of, region_size}
use Rattle.hd_survey.proofs.sizes.size_pits.Goals as goal

abbrev none : Rank
none = record { height = pos 0; index = 0 }

same_region : (p q : Rank) (a b : ℕ) → p ≡ q → a ≡ b → ◌≡◌ {A = RegionSize} (record { pit = p; points = a }) (record { pit = q; points = b })
same_region p q a b e f = cc

pub pits-preserved : goal.pits-preserved
pits-preserved c = λ roots counts.
    let pits = c.args.pits.now in
    let make : Rank → RegionSize = region_size roots in
    let points : List ℕ = c.args.points.now in
    let n : ℕ = c.pits.number in
    let inside : n < length pits = c.pits-test.true in
    let pit : Rank = get_or pits n none in
    let here : n < length points = subst (λ k. n < k) (sym counts.whole) inside in
    let pushed : c.push.new.self ≡ c.pits.sizes ++ make pit ∷ [] =
    c.in_ok-push.ensures.ok ∙ ap (λ (x : RegionSize). c.pits.sizes ++ x ∷ [])
    (same_region _ pit _ (points_of roots pit.index) (get_or_default pits n _ none inside)
    (get_or_default points n _ 0 here ∙ counts.each n none inside)) in
    pushed ∙ ap (λ xs. xs ++ make pit ∷ []) (c.pits.invariant roots counts) ∙ sym (map-append make (take n pits) (pit ∷ [])) ∙ ap (map make) (sym (take_more pits n none inside))
