use Rattle.std.proofs.Common.{◌≡◌, ◌<◌, ◌+◌, ◌++◌, ◌⊎◌, ◌∙◌, [], List, length, take, ap, sym, subst, inl, inr, arith}
use Rattle.std.proofs.lemmas.Bool.{cases_lt}
use Rattle.std.proofs.lemmas.List.{map-append, take_at}
use Rattle.std.proofs.lemmas.List.Elements.{All-append, All-nil}
use Rattle.hd_map.specs.declared.types.Link.{Link}
use Rattle.hd_map.specs.declared.types.Size.{Size}
use Rattle.hd_steep.specs.Crossings.{AreCrossingsAt, HasPits, pass_of, passes_of}
use Rattle.hd_steep.specs.Descending.{HasDescended}
use Rattle.hd_steep.specs.Numbering.{roots_of}
use Rattle.hd_steep.proofs.Crossed.{crossings_all, extends_none, gathers_append, gathers_less}
use Rattle.hd_steep.proofs.HasDescended.{before-next}
use Rattle.hd_steep.proofs.crossing.found_crossings.Goals as goal

pub profiles-init : goal.profiles-init
profiles-init g c =
    let m = g.G.Heights.map c.args.grid.now in
    let side = g.S.Side.NAME in
    let pits = c.args.regions.now.pits in
    record {
      before = rw c.in-Some.is at c.in_ok-descending.ensures;
      crossings = rw c.in_ok-crossings.ensures.items (record {
        gathers = record { extends = extends_none m side []; served = λ u less. absurd (omega (arith, less)) };
        pits = All-nil (HasPits pits);
      });
      sized = (let long = c.in_ok-room.ensures.len in let points = ap (λ (s : Size). s.points) c.size.ensures in omega (arith, long, points));
    }

pub profiles-preserved : goal.profiles-preserved
profiles-preserved g c =
    let m = g.G.Heights.map c.args.grid.now in
    let side = g.S.Side.NAME in
    let y = c.profiles.y in
    let pits = c.args.regions.now.pits in
    let before = c.profiles.crossings.items in
    let new = take c.cross_profile-count.result c.cross_profile-count.new.room in
    let has : HasDescended g.L.Lane.code side m y c.advance.new.self = c.if-not-advance.ensures.descended in
    let room = c.cross_profile-count.new.room in
    let long : length room ≡ c.profiles.room.len = (let same = c.cross_profile-count.auto.room in let long = c.deref_mut.ensures.len in omega (arith, same, long)) in
    let kept = take_at room _ c.profiles.room.len long in
    let all = c.in_ok-extend_from_slice.ensures.items ∙ ap (λ (xs : List Link). before ++ take c.cross_profile-count.result xs) (c.deref.ensures.value ∙ kept) in
    record {
      before = before-next g.L.Lane.code side m y c.advance.new.self has;
      crossings = subst (AreCrossingsAt m side pits (λ u. u.y < y + 1)) (sym all) (record {
        gathers = gathers_less m side (λ u. (u.y < y) ⊎ (u.y ≡ y)) (λ u. u.y < y + 1) [] (passes_of side pits (before ++ new))
            (λ u here less. elim (cases_lt u.y y) [
              | inl before ↦ inl before
              | inr past ↦ inr (omega (arith, less, past))
            ])
            (rw (map-append (pass_of side pits) before new)
            (gathers_append m side (λ u. u.y < y) (λ u. u.y ≡ y) (passes_of side pits before)
            (passes_of side pits new) c.profiles.invariant.crossings.gathers c.cross_profile-count.ensures.crosses.gathers));
        pits = All-append (HasPits pits) before new c.profiles.invariant.crossings.pits c.cross_profile-count.ensures.crosses.pits;
      });
      sized = ap length kept ∙ (let had = c.profiles.invariant.sized in omega (arith, long, had));
    }

pub returns-clause-passes : goal.returns-clause-passes
returns-clause-passes g c =
    let m = g.G.Heights.map c.args.grid.now in
    let side = g.S.Side.NAME in
    let y = c.profiles.y in
    let regions = c.args.regions.now in
    let passes = passes_of side regions.pits c.profiles.crossings.items in
    let height : c.size-y-end.result.profiles ≡ m.size.profiles = ap (λ (s : Size). s.profiles) c.size-y-end.ensures in
    let end = c.profiles-test.false in
    rw c.from_vec.ensures (crossings_all m side (g.met.G.Heights.whole c.args.grid.now) (roots_of regions) c.requires.roots passes
    (gathers_less m side (λ u. u.y < y) (λ u. u.y < m.size.profiles) [] passes (λ u here less. (omega (arith, less, height, end))) c.profiles.invariant.crossings.gathers))
