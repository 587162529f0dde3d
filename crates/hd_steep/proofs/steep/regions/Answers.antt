use Rattle.std.proofs.Common.{List, Option, ℕ, sym, subst}
use Rattle.std.proofs.lemmas.Result.{IfOk-weaker}
use Rattle.hd_map.specs.Region.{AreRegions}
use Rattle.hd_steep.proofs.steep.regions.Goals as goal

pub returns : goal.returns
returns g c =
    let m = g.G.Heights.map c.args.grid.now in
    IfOk-weaker c.list_roots.result _ _ (λ roots is. subst (λ (xs : List (Option ℕ)). AreRegions m g.S.Side.NAME xs) (sym is) c.in_ok-regions.ensures.roots) c.list_roots.ensures
