use Rattle.std.proofs.Common.{◌≡◌, ◌∙◌, ap, sym}
use Rattle.std.proofs.lemmas.Bool.{false≢true}
use Rattle.hd_map.specs.declared.types.Size.{Size}
use Rattle.hd_map.specs.Map.{place_of}
use Rattle.hd_cert.proofs.ReachedLow.{IsReachedLow-none, IsReachedLow-pit, IsReachedLow-by_pit, LiesWithin-reached}
use Rattle.hd_cert.proofs.region_cut.is_reached.Given.{Over}
use Rattle.hd_cert.proofs.region_cut.is_reached.Goals as goal
use Rattle.hd_cert.proofs.region_cut.is_reached.Goals.{After-index_of}

-- the index is that of the point
place : (g : Over) (c : After-index_of g) → c.index_of.result ≡ place_of (g.G.Heights.map c.args.grid.now).size c.args.at
place g c = c.index_of.ensures.value ∙ ap (λ (s : Size). place_of s c.args.at) c.size.ensures

pub returns-in_default : goal.returns-in_default
returns-in_default g c =
    let r = c.requires in
    let at = place g (goal.at.returns-in_default g c).After-index_of in (
      λ t. absurd (false≢true t),
      λ w. absurd (IsReachedLow-none (g.G.Heights.map c.args.grid.now) g.S.Side.NAME c.args.saddle c.args.regions.now r.regions c.args.from
          c.args.reached.now r.reached r.low c.args.at c.index_of.result at (sym c.number.ensures ∙ c.in_default.is) w),
    )

pub returns-then-not-reached-number : goal.returns-then-not-reached-number
returns-then-not-reached-number g c =
    let r = c.requires in
    let at = place g (goal.at.returns-then-not-reached-number g c).After-index_of in
    let not = c.if-not-reached-number.true in (
      λ t. absurd (false≢true t),
      λ w. absurd (false≢true (sym not ∙ IsReachedLow-pit (g.G.Heights.map c.args.grid.now) g.S.Side.NAME c.args.saddle c.args.regions.now r.regions c.args.from c.args.reached.now
          r.reached r.low c.args.at c.index_of.result at c.in-Some.number (sym c.number.ensures ∙ c.in-Some.is) w)),
    )

pub returns : goal.returns
returns g c =
    let r = c.requires in
    let m = g.G.Heights.map c.args.grid.now in
    let at = place g (goal.at.returns g c).After-index_of in (
      λ t. IsReachedLow-by_pit m g.S.Side.NAME c.args.saddle c.args.regions.now r.regions c.args.from c.args.reached.now r.reached r.low c.args.at c.index_of.result at
          c.in-Some.number (sym c.number.ensures ∙ c.in-Some.is) c.if-not-reached-number.false (c.lies_within.ensures.0 t),
      λ w. c.lies_within.ensures.1 (LiesWithin-reached m g.S.Side.NAME c.args.saddle c.args.regions.now r.regions c.args.from c.args.reached.now r.reached r.low c.args.at c.index_of.result at w),
    )
