use Rattle.std.proofs.Common.{◌≢◌, ◌<◌, ◌∙◌, ℕ, Bool, List, length, get_or, sym, ap, subst, arith}
use Rattle.std.specs.Prelude.{All, AllPairs}
use Rattle.std.proofs.lemmas.Result.{IfOk-weaker}
use Rattle.hd_map.specs.Map.{Map}
use Rattle.hd_map.specs.Rank.{below_by}
use Rattle.hd_prune.specs.declared.step.Kept.{Kept}
use Rattle.hd_prune.specs.declared.step.Owned.{Owned}
use Rattle.hd_steep.specs.declared.border.Border.{Border}
use Rattle.hd_steep.specs.Borders.{AreBorders}
use Rattle.hd_lines.specs.FirstJoins.{AreFirstJoins}
use Rattle.hd_lines.specs.Listed.{AreListed}
use Rattle.hd_lines.specs.Places.{AreOwnerPlaces, IsNumbered}
use Rattle.hd_lines.proofs.BorderLines.{borders-within, AreBorderLines-listed}
use Rattle.hd_lines.proofs.HasPlace.{kept-few, IsNumbered-kept, kept-numbers, IsNumbered-owners, owners-whole}
use Rattle.hd_lines.proofs.lines.border_lines.Given.{Over}
use Rattle.hd_lines.proofs.lines.border_lines.Goals as goal
use Rattle.hd_lines.proofs.lines.border_lines.Goals.{In_ok-borders}

pub owner_places-requires-clause-few : goal.owner_places-requires-clause-few
owner_places-requires-clause-few g c =
    let few = kept-few (g.G.Heights.map c.args.grid.now) (g.met.G.Heights.whole c.args.grid.now) g.S.Side.NAME c.requires.pruned.0 c.args.pruned.now.steps c.args.pruned.now.kept
    c.args.pruned.now.owners c.requires.pruned.1 in
    omega (arith, few, ap (length {A = Kept}) c.as_slice-kept.ensures)

pub owner_places-requires-clause-whole : goal.owner_places-requires-clause-whole
owner_places-requires-clause-whole g c = ap (length {A = Owned}) c.as_slice.ensures
    ∙ owners-whole (g.G.Heights.map c.args.grid.now) (g.met.G.Heights.whole c.args.grid.now) g.S.Side.NAME c.requires.pruned.0 c.args.pruned.now.steps c.args.pruned.now.kept
    c.args.pruned.now.owners c.requires.pruned.1 c.args.regions.now c.requires.regions

pub owner_places-requires-clause-kept : goal.owner_places-requires-clause-kept
owner_places-requires-clause-kept g c = subst (λ (ks : List Kept). All (λ (k : Kept). IsNumbered c.args.regions.now k.pit.index) ks) (sym c.as_slice-kept.ensures)
    (IsNumbered-kept (g.G.Heights.map c.args.grid.now) (g.met.G.Heights.whole c.args.grid.now) g.S.Side.NAME c.requires.pruned.0 c.args.pruned.now.steps c.args.pruned.now.kept
    c.args.pruned.now.owners c.requires.pruned.1 c.args.regions.now c.requires.regions)

pub owner_places-requires-clause-owners : goal.owner_places-requires-clause-owners
owner_places-requires-clause-owners g c = subst (λ (os : List Owned). All (λ (o : Owned). IsNumbered c.args.regions.now o.owner.index) os) (sym c.as_slice.ensures)
    (IsNumbered-owners (g.G.Heights.map c.args.grid.now) (g.met.G.Heights.whole c.args.grid.now) g.S.Side.NAME c.requires.pruned.0 c.args.pruned.now.steps c.args.pruned.now.kept
    c.args.pruned.now.owners c.requires.pruned.1 c.args.regions.now c.requires.regions)

pub owner_places-requires-clause-once : goal.owner_places-requires-clause-once
owner_places-requires-clause-once g c =
    let numbers : List ℕ = c.args.regions.now.numbers in
    subst (λ (ks : List Kept). AllPairs (λ (a : Kept) (b : Kept). get_or numbers a.pit.index 0 ≢ get_or numbers b.pit.index 0) ks) (sym c.as_slice-kept.ensures)
    (kept-numbers (g.G.Heights.map c.args.grid.now) (g.met.G.Heights.whole c.args.grid.now) g.S.Side.NAME c.requires.pruned.0 c.args.pruned.now.steps c.args.pruned.now.kept
    c.args.pruned.now.owners c.requires.pruned.1 c.args.regions.now c.requires.regions)

pub borders_of-requires-clause-few : goal.borders_of-requires-clause-few
borders_of-requires-clause-few g c =
    let few = kept-few (g.G.Heights.map c.args.grid.now) (g.met.G.Heights.whole c.args.grid.now) g.S.Side.NAME c.requires.pruned.0 c.args.pruned.now.steps c.args.pruned.now.kept
    c.args.pruned.now.owners c.requires.pruned.1 in
    let e = c.max.ensures in
    omega (arith, few, ap (length {A = Kept}) c.as_slice-kept.ensures)

pub borders_of-requires-clause-within : goal.borders_of-requires-clause-within
borders_of-requires-clause-within g c = subst (λ (ps : List ℕ). All (λ p. p < c.max.result) ps) (sym c.deref.ensures.value)
    (c.in_ok-places.ensures.within c.max.result (let e = c.max.ensures in omega arith) (let e = c.max.ensures in omega arith))

-- the places of the owners
placed : (g : Over) (c : In_ok-borders g) → AreOwnerPlaces c.args.pruned.now.kept c.args.pruned.now.owners c.args.regions.now.numbers c.in_ok-places.places.items
placed g c =
    subst (λ (ks : List Kept). AreOwnerPlaces ks c.args.pruned.now.owners c.args.regions.now.numbers c.in_ok-places.places.items) c.as_slice-kept.ensures
    (subst (λ (os : List Owned). AreOwnerPlaces c.as_slice-kept.result.now os c.args.regions.now.numbers c.in_ok-places.places.items) c.as_slice.ensures c.in_ok-places.ensures.places)

-- and the borders between them
bordered : (g : Over) (c : In_ok-borders g) → AreBorders (g.G.Heights.map c.args.grid.now) g.S.Side.NAME c.in_ok-places.places.items c.in_ok-borders.borders.items
bordered g c = subst (λ (ps : List ℕ). AreBorders (g.G.Heights.map c.args.grid.now) g.S.Side.NAME ps c.in_ok-borders.borders.items) c.deref.ensures.value c.in_ok-borders.ensures

within : (g : Over) (c : In_ok-borders g) → All (λ (l : Border). (l.a < length c.as_slice-kept.result.now) × (l.b < length c.as_slice-kept.result.now)) c.in_ok-borders.borders.items
within g c = subst (λ (ks : List Kept). All (λ (l : Border). (l.a < length ks) × (l.b < length ks)) c.in_ok-borders.borders.items) (sym c.as_slice-kept.ensures)
    (borders-within (g.G.Heights.map c.args.grid.now) (g.met.G.Heights.whole c.args.grid.now) g.S.Side.NAME c.requires.pruned.0 c.args.pruned.now.steps c.args.pruned.now.kept
    c.args.pruned.now.owners c.requires.pruned.1
    c.args.regions.now c.requires.regions c.in_ok-places.places.items (placed g c) c.in_ok-borders.borders.items (bordered g c))

pub first_joins-requires-clause-within : goal.first_joins-requires-clause-within
first_joins-requires-clause-within g c = subst (λ (ls : List Border). All (λ (l : Border). (l.a < length c.as_slice-kept.result.now)
    × (l.b < length c.as_slice-kept.result.now)) ls) (sym c.deref-2.ensures.value)
    (within g (goal.at.first_joins-requires-clause-within g c).In_ok-borders)

pub first_joins-requires-clause-few : goal.first_joins-requires-clause-few
first_joins-requires-clause-few g c =
    let few = kept-few (g.G.Heights.map c.args.grid.now) (g.met.G.Heights.whole c.args.grid.now) g.S.Side.NAME c.requires.pruned.0 c.args.pruned.now.steps c.args.pruned.now.kept
    c.args.pruned.now.owners c.requires.pruned.1 in
    omega (arith, few, ap (length {A = Kept}) c.as_slice-kept.ensures)

pub list_lines-requires-clause-within : goal.list_lines-requires-clause-within
list_lines-requires-clause-within g c = subst (λ (ls : List Border). All (λ (l : Border). (l.a < length c.as_slice-kept.result.now) × (l.b < length c.as_slice-kept.result.now)) ls)
    (sym c.deref-3.ensures.value)
    (within g (goal.at.list_lines-requires-clause-within g c).In_ok-borders)

pub returns : goal.returns
returns g c =
    let m : Map = g.G.Heights.map c.args.grid.now in
    let borders : List Border = c.in_ok-borders.borders.items in
    let firsts : List Bool = c.in_ok-firsts.firsts.items in
    let kept : List Kept = c.args.pruned.now.kept in
    let joins : AreFirstJoins (below_by g.S.Side.NAME) borders firsts = subst (λ (ls : List Border). AreFirstJoins (below_by g.S.Side.NAME) ls firsts) c.deref-2.ensures.value c.in_ok-firsts.ensures in
    IfOk-weaker c.list_lines.result _ _
    (λ lines listed thousandths pruned.
    AreBorderLines-listed m (g.met.G.Heights.whole c.args.grid.now) g.S.Side.NAME thousandths c.args.pruned.now.steps kept c.args.pruned.now.owners pruned c.args.regions.now
    c.requires.regions c.in_ok-places.places.items
    (placed g (goal.at.returns g c).In_ok-borders) borders (bordered g (goal.at.returns g c).In_ok-borders) firsts joins lines
    (subst (λ (ks : List Kept). AreListed ks borders firsts (length borders) lines) c.as_slice-kept.ensures
    (subst (λ (ls : List Border). AreListed c.as_slice-kept.result.now ls firsts (length ls) lines) c.deref-3.ensures.value
    (subst (λ (fs : List Bool). AreListed c.as_slice-kept.result.now c.deref-3.result.now fs (length c.deref-3.result.now) lines) c.deref-4.ensures.value listed))))
    c.list_lines.ensures
