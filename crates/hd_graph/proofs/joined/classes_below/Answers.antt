use Rattle.std.proofs.Common.{◌≡◌, ◌∙◌, Some, get_or, slice_get, sym, refl, subst, arith}
use Rattle.std.specs.Prelude.{pos}
use Rattle.std.proofs.lemmas.Bool.{false≢true}
use Rattle.std.proofs.lemmas.List.Elements.{Contains-get_or}
use Rattle.std.proofs.lemmas.Option.{same_Some, slice_get-get_or, slice_get_within}
use Rattle.hd_map.specs.Shown.{IsBelowSaddle}
use Rattle.hd_graph.specs.declared.merges.Merge.{Merge}
use Rattle.hd_graph.proofs.JoinedBelow.{classes-below, joined_to-next, joined_to-none, kept-joining, merge-joined, one-joining, within-joining, within-none}
use Rattle.hd_graph.proofs.joined.classes_below.Goals as goal

pub returns-then-not-is_below-clause-below : goal.returns-then-not-is_below-clause-below
returns-then-not-is_below-clause-below g c m whole is =
    let d : Merge = record { low = 0; into = 0; at = record { height = pos 0; index = 0 } } in
    let merges = c.args.merges.now in
    let first : slice_get merges c.loop-place.place ≡ Some (get_or merges c.loop-place.place d) = slice_get-get_or merges c.loop-place.place d c.loop-place-test.true in
    classes-below m whole g.S.Side.NAME c.args.lows.now merges is c.requires.different c.args.level c.loop-place.classes.parents.items c.loop-place.place c.loop-place.invariant.joined
    (λ y at h. false≢true (c.if-not-is_below.ensures.1 (subst (λ (x : Merge). IsBelowSaddle g.S.Side.NAME c.args.level x.at) (same_Some y (get_or merges c.loop-place.place d) (sym at ∙ first)) h)))
    (c.loop-place.invariant.within m is)

pub loop-place-init : goal.loop-place-init
loop-place-init g c = record {
  falling = c.in_ok-classes.ensures.falling;
  long = c.in_ok-classes.ensures.long;
  joined = joined_to-none c.args.merges.now c.in_ok-classes.classes.parents.items;
  within = λ m is. within-none m g.S.Side.NAME c.args.level c.args.lows.now c.in_ok-classes.classes.parents.items c.in_ok-classes.ensures.own;
}

pub loop-place-preserved : goal.loop-place-preserved
loop-place-preserved g c =
    let d : Merge = record { low = 0; into = 0; at = record { height = pos 0; index = 0 } } in
    let merges = c.args.merges.now in
    let x : Merge = get_or merges c.loop-place.place d in
    let old = c.loop-place.classes.parents.items in
    let new = c.join.new.self.parents.items in
    let e = c.join.ensures in
    record {
      falling = e.falling;
      long = e.long ∙ c.loop-place.invariant.long;
      joined = joined_to-next merges old new c.loop-place.place x (slice_get-get_or merges c.loop-place.place d c.loop-place-test.true)
          (kept-joining old new x.low x.into c.join.result e.joins e.one e.same) (one-joining old new x.low x.into c.join.result e.joins e.one e.same)
          c.loop-place.invariant.joined;
      within = λ m is. within-joining old new x.low x.into c.join.result e.joins e.one e.same m g.S.Side.NAME c.args.level c.args.lows.now
          (merge-joined m g.S.Side.NAME c.args.lows.now merges is c.args.level x (Contains-get_or merges c.loop-place.place d c.loop-place-test.true)
          (c.if-not-is_below.ensures.0 refl)) (c.loop-place.invariant.within m is);
    }

pub returns-clause-below : goal.returns-clause-below
returns-clause-below g c m whole is =
    classes-below m whole g.S.Side.NAME c.args.lows.now c.args.merges.now is c.requires.different c.args.level c.loop-place.classes.parents.items c.loop-place.place c.loop-place.invariant.joined
    (λ y at. absurd (let inside = slice_get_within c.args.merges.now c.loop-place.place y at in omega (arith, inside, c.loop-place-test.false))) (c.loop-place.invariant.within m is)
