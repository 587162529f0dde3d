use Rattle.std.proofs.Common.{◌≡◌, ◌+◌, ◌∙◌, ◌++◌, ◌∷◌, [], ℕ, List, ap, arith, length, set, sym}
use Rattle.std.proofs.lemmas.List.{length-replicate, length-set, length_push}
use Rattle.std.proofs.lemmas.Option.{slice_get_within}
use Rattle.hd_graph.specs.Links.{HasEnds}
use Rattle.hd_graph.proofs.LinkOrder.{link-each}
use Rattle.hd_graph.proofs.LeadsOn.{leads-all, leads-join, leads-none, leads-skip, top-inside}
use Rattle.hd_map.proofs.Places.{get-from_read}
use Rattle.hd_graph.proofs.onward.links_onward.Goals as goal

pub loop-place-init : goal.loop-place-init
loop-place-init c =
    let all = c.in_ok-onward.ensures.items_if_clones_equal (λ _ e. e) in
    record {
      falling = c.in_ok-classes.ensures.falling;
      high = c.in_ok-classes.ensures.long;
      wide = c.in_ok-parts.ensures.long;
      long = (let long = ap length all ∙ length-replicate {A = ℕ} c.args.count c.len-none.result in omega (arith, long));
      so = leads-none c.args.links.now c.args.count c.in_ok-classes.classes.parents.items c.in_ok-parts.parts.items c.in_ok-onward.onward.items c.in_ok-classes.ensures.own
          c.in_ok-parts.ensures.long c.in_ok-parts.ensures.own (rw c.len-none.ensures at all);
    }

pub leasts_of-first-requires-clause-first : goal.leasts_of-first-requires-clause-first
leasts_of-first-requires-clause-first c = omega (
  arith,
  (link-each (HasEnds c.args.count) c.args.links.now c.loop-place.place c.at-link.result c.requires.within
      c.at-link.ensures).0,
  c.loop-place.invariant.high,
)

pub leasts_of-first-requires-clause-second : goal.leasts_of-first-requires-clause-second
leasts_of-first-requires-clause-second c = omega (
  arith,
  (link-each (HasEnds c.args.count) c.args.links.now c.loop-place.place c.at-link.result c.requires.within
      c.at-link.ensures).1,
  c.loop-place.invariant.high,
)

pub index-requires : goal.index-requires
index-requires c = omega (arith, c.leasts_of-first.ensures.inside.0, c.leasts_of-first.ensures.long, c.loop-place.invariant.high, c.loop-place.invariant.wide, c.loop-place.parts.ok.0)

pub index-requires-in-loop-place : goal.index-requires-in-loop-place
index-requires-in-loop-place c = omega (arith, c.leasts_of-first.ensures.inside.1, c.leasts_of-first.ensures.long, c.loop-place.invariant.high, c.loop-place.invariant.wide, c.loop-place.parts.ok.0)

pub index_mut-requires : goal.index_mut-requires
index_mut-requires c =
    let found = c.leasts_of-first.ensures.found in
    let r : ℕ = c.leasts_of-first.result.0 in
    let read = get-from_read c.loop-place.parts.items r _ _ (omega (
      arith,
      c.leasts_of-first.ensures.inside.0,
      c.leasts_of-first.ensures.long,
      c.loop-place.invariant.high,
      c.loop-place.invariant.wide,
    )) (sym c.index.ensures) in
    let within = top-inside c.args.links.now c.args.count c.loop-place.place c.loop-place.classes.parents.items r c.index.result.now
    (c.loop-place.invariant.so.tops r c.index.result.now ((found.leasts r).0 found.first_least) read) in
    omega (arith, within, c.loop-place.invariant.long, c.in_ok-push.ensures.len, c.loop-place.onward.ok.0)

pub index_mut-requires-in-loop-place : goal.index_mut-requires-in-loop-place
index_mut-requires-in-loop-place c =
    let found = c.leasts_of-first.ensures.found in
    let r : ℕ = c.leasts_of-first.result.1 in
    let read = get-from_read c.loop-place.parts.items r _ _ (omega (
      arith,
      c.leasts_of-first.ensures.inside.1,
      c.leasts_of-first.ensures.long,
      c.loop-place.invariant.high,
      c.loop-place.invariant.wide,
    )) (sym c.index-in-loop-place.ensures) in
    let within = top-inside c.args.links.now c.args.count c.loop-place.place c.loop-place.classes.parents.items r c.index-in-loop-place.result.now
    (c.loop-place.invariant.so.tops r c.index-in-loop-place.result.now ((found.leasts r).0 found.second_least) read) in
    omega (arith, within, c.loop-place.invariant.long, c.in_ok-push.ensures.len, c.loop-place.onward.ok.0)

pub index_mut-requires-in-loop-place-2 : goal.index_mut-requires-in-loop-place-2
index_mut-requires-in-loop-place-2 c =
    let inside = slice_get_within c.unite-least.new.self.parents.items c.unite-least.result c.unite-least.result c.unite-least.ensures.least in
    omega (arith, inside, c.unite-least.ensures.long, c.leasts_of-first.ensures.long, c.loop-place.invariant.high, c.loop-place.invariant.wide, c.loop-place.parts.ok.0)

pub loop-place-preserved-then-first-second : goal.loop-place-preserved-then-first-second
loop-place-preserved-then-first-second c =
    let long = c.loop-place.invariant.long in
    record {
      falling = c.leasts_of-first.ensures.falling;
      high = c.leasts_of-first.ensures.long ∙ c.loop-place.invariant.high;
      wide = c.loop-place.invariant.wide;
      long = rw (c.in_ok-push.ensures.items, length_push) (omega (arith, long));
      so = rw (c.in_ok-push.ensures.items, c.len-none.ensures) (leads-skip c.args.links.now c.args.count c.loop-place.place c.loop-place.classes.parents.items
          c.leasts_of-first.new.self.parents.items c.loop-place.parts.items c.loop-place.onward.items long
          c.at-link.result c.leasts_of-first.result.0 c.leasts_of-first.result.1 c.at-link.ensures c.leasts_of-first.ensures.found c.if-first-second.true c.loop-place.invariant.so);
    }

pub loop-place-preserved : goal.loop-place-preserved
loop-place-preserved c =
    let n : ℕ = c.loop-place.place in
    let parts : List ℕ = c.loop-place.parts.items in
    let onward : List ℕ = c.loop-place.onward.items in
    let first : ℕ = c.leasts_of-first.result.0 in
    let second : ℕ = c.leasts_of-first.result.1 in
    let r : ℕ = c.unite-least.result in
    let d : ℕ = c.index.result.now in
    let e : ℕ = c.index-in-loop-place.result.now in
    let at_first = get-from_read parts first _ _ (omega (
      arith,
      c.leasts_of-first.ensures.inside.0,
      c.leasts_of-first.ensures.long,
      c.loop-place.invariant.high,
      c.loop-place.invariant.wide,
    )) (sym c.index.ensures) in
    let at_second = get-from_read parts second _ _ (omega (
      arith,
      c.leasts_of-first.ensures.inside.1,
      c.leasts_of-first.ensures.long,
      c.loop-place.invariant.high,
      c.loop-place.invariant.wide,
    )) (sym c.index-in-loop-place.ensures) in
    let more : List ℕ = onward ++ length c.args.links.now ∷ [] in
    let pushed : c.push.new.self.items ≡ more = rw c.len-none.ensures at c.in_ok-push.ensures.items in
    let long = c.loop-place.invariant.long in
    let within = slice_get_within c.unite-least.new.self.parents.items r r c.unite-least.ensures.least in
    record {
      falling = c.unite-least.ensures.falling;
      high = c.unite-least.ensures.long ∙ c.leasts_of-first.ensures.long ∙ c.loop-place.invariant.high;
      wide = length-set parts r (c.args.count + n) ∙ c.loop-place.invariant.wide;
      long = rw (pushed, length-set (set more d n) e n, length-set more d n, length_push) (omega (arith, long));
      so = rw pushed (leads-join c.args.links.now c.args.count n c.loop-place.classes.parents.items c.leasts_of-first.new.self.parents.items parts onward c.loop-place.invariant.so
          c.at-link.result c.at-link.ensures first second c.leasts_of-first.ensures.found c.if-first-second.false long d e at_first at_second
          c.unite-least.new.self.parents.items r c.unite-least.ensures.joins c.unite-least.ensures.one c.unite-least.ensures.least c.unite-least.ensures.leasts
          (omega (arith, within, c.unite-least.ensures.long, c.leasts_of-first.ensures.long, c.loop-place.invariant.high, c.loop-place.invariant.wide)));
    }

pub returns : goal.returns
returns c =
    let past : c.loop-place.place ≡ length c.args.links.now = omega (arith, c.loop-place-test.false, c.loop-place.auto.place-end, c.len-none.ensures) in
    leads-all c.args.links.now c.args.count c.loop-place.place c.loop-place.classes.parents.items c.loop-place.parts.items c.loop-place.onward.items past
    c.loop-place.invariant.long c.loop-place.invariant.so
