use Rattle.std.proofs.Common.{◌≡◌, ◌∙◌, ◌*◌, List, get_or, replicate, rules, ap}
use Rattle.std.proofs.lemmas.List.{length-replicate}
use Rattle.hd_map.specs.Map.{cell_count, place_of}
use Rattle.hd_reach.specs.Steps.{steps_at}
use Rattle.hd_reach.proofs.Flooding.{replicate-all}
use Rattle.hd_cert.specs.declared.residue.Residue.{Residue}
use Rattle.hd_cert.specs.declared.residue.Residue.TheVariants.{Unreached}
use Rattle.hd_cert.proofs.Residues.{marked-residues}
use Rattle.hd_cert.proofs.reached.residues_from.Goals as goal

pub flood-requires-clause-whole : goal.flood-requires-clause-whole
flood-requires-clause-whole g c =
    let blank : c.in_ok-residues.residues.items ≡ replicate (c.size-size.result.profiles * c.size-size.result.points) Unreached = search rules in
    rw blank (length-replicate (c.size-size.result.profiles * c.size-size.result.points) Unreached ∙ ap cell_count c.size-size.ensures)

pub flood-requires-clause-blank : goal.flood-requires-clause-blank
flood-requires-clause-blank g c p xs leads =
    let blank : c.in_ok-residues.residues.items ≡ replicate (c.size-size.result.profiles * c.size-size.result.points) Unreached = search rules in
    let i = place_of (g.G.Heights.map c.args.grid.now).size p in
    ap (λ (rs : List Residue). get_or rs i Unreached) blank ∙ replicate-all Unreached (c.size-size.result.profiles * c.size-size.result.points) i

pub returns : goal.returns
returns g c =
    let m = g.G.Heights.map c.args.grid.now in
    let blank : c.in_ok-residues.residues.items ≡ replicate (c.size-size.result.profiles * c.size-size.result.points) Unreached = search rules in
    let known = c.in_ok-flood.ensures in
    record {
      steps = known.steps;
      are = known.are;
      whole = known.whole;
      read = λ p there.
          (let i = place_of m.size p in
          let before : get_or c.in_ok-residues.residues.items i Unreached ≡ Unreached = ap (λ (rs : List Residue). get_or rs i Unreached) blank
          ∙ replicate-all Unreached (c.size-size.result.profiles * c.size-size.result.points) i in
          known.read p there ∙ marked-residues c.in_ok-residues.residues.items (get_or c.in_ok-residues.residues.items i Unreached) (steps_at m.size known.steps p) before);
    }
