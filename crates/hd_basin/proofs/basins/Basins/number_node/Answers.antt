use Rattle.std.proofs.Common.{◌<◌, ◌∙◌, ℕ, List, ap, length, subst, sym}
use Rattle.std.specs.Prelude.{Contains}
use Rattle.std.proofs.lemmas.Option.{slice_get_within}
use Rattle.hd_basin.specs.Known.{AreKnown, AreNoted, LeadTo}
use Rattle.hd_basin.specs.Roots.{Rooted, all_nodes}
use Rattle.hd_basin.proofs.AreKnown.{noted-known}
use Rattle.hd_basin.proofs.basins.Basins.number_node.Goals as goal

pub note-requires : goal.note-requires
note-requires g c = λ place at. (
    let pool = c.args.self.now in
    let l = c.in_ok-number.ensures.way place (subst (λ (ps : List ℕ). Contains ps place) c.deref.ensures.value at) in
    let inside : place < length (all_nodes pool.parts) = slice_get_within (all_nodes pool.parts) place l.0 l.1 in
    subst (λ n. place < n) (sym (ap (λ (r : Rooted). length r.numbers) c.roots.view_is ∙ c.requires.known.whole)) inside)

pub returns-clause-known : goal.returns-clause-known
returns-clause-known g c =
    let noted : AreNoted c.follow.new.way.items c.in_ok-number.number c.roots.inside.numbers.items c.note.new.numbers.items =
    subst (λ (ps : List ℕ). AreNoted ps c.in_ok-number.number c.roots.inside.numbers.items c.note.new.numbers.items) c.deref.ensures.value c.note.ensures in
    let lead : LeadTo g.S.Side.NAME c.args.self.now c.roots.inside.pits c.in_ok-number.number c.follow.new.way.items =
    subst (λ (r : Rooted). LeadTo g.S.Side.NAME c.args.self.now r.pits c.in_ok-number.number c.follow.new.way.items) (sym c.roots.view_is) c.in_ok-number.ensures.way in
    noted-known c.follow.new.way.items c.in_ok-number.number c.roots.inside.numbers.items c.note.new.numbers.items noted c.in_ok-number.ensures.known
    g.S.Side.NAME c.args.self.now c.roots.inside.pits c.roots.inside.firsts.items lead (subst (AreKnown g.S.Side.NAME c.args.self.now) (sym c.roots.view_is) c.requires.known)
