use Rattle.std.proofs.Common.{◌≡◌, ◌≤◌, ◌∙◌, rules, ap, subst, get_or}
use Rattle.hd_map.specs.declared.types.Size.{Size}
use Rattle.hd_map.specs.Map.{place_of, cell_count}
use Rattle.hd_cert.specs.declared.residue.Residue.TheVariants.{Unreached}
use Rattle.hd_cert.specs.Residues.{residue_after, residue_at}
use Rattle.hd_cert.proofs.FirstNearer.{Pos-different, IsDown-begin, IsDown-more, IsDown-end, IsDown-past}
use Rattle.hd_cert.proofs.trace.path_down.Goals as goal

pub returns-then-eq : goal.returns-then-eq
returns-then-eq g c steps count leads =
    let m = g.G.Heights.map c.args.grid.now in
    let is : c.loop-gone.here ≡ c.args.to = search rules in
    rw c.from_vec.ensures (IsDown-end m c.args.residues.now c.args.from c.args.to steps count leads c.loop-gone.path.items c.loop-gone.here c.loop-gone.gone is
    (c.loop-gone.invariant.going steps count leads))

pub loop-gone-init : goal.loop-gone-init
loop-gone-init g c =
    let m = g.G.Heights.map c.args.grid.now in
    record { present = c.requires.from; going = λ steps count leads. rw c.in_ok-path.ensures.items (IsDown-begin m c.args.residues.now c.args.from c.args.to steps count leads) }

pub loop-gone-preserved : goal.loop-gone-preserved
loop-gone-preserved g c =
    let m = g.G.Heights.map c.args.grid.now in
    let residues = c.args.residues.now in
    let here = c.loop-gone.here in
    let present = c.loop-gone.invariant.present in
    let place : c.index_of.result ≡ place_of m.size here = c.index_of.ensures.value ∙ ap (λ (s : Size). place_of s here) c.size-size.ensures in
    let residue : residue_after c.residue_before-residue.result ≡ residue_at m.size residues here = c.residue_before-residue.ensures ∙ ap (λ i. get_or residues i Unreached) place in
    let apart : here ≡ c.args.to → ⊥ = Pos-different here c.args.to c.eq.result c.eq.ensures c.if-eq.false in
    record {
      present = c.first_beside-here.ensures.present;
      going = λ steps count leads. rw c.in_ok-push.ensures.items (IsDown-more m residues c.args.from c.args.to steps count leads c.loop-gone.path.items here
          c.first_beside-here.result c.loop-gone.gone c.residue_before-residue.result
          present apart residue c.first_beside-here.ensures.first (c.loop-gone.invariant.going steps count leads));
    }

pub returns : goal.returns
returns g c steps count leads =
    let m = g.G.Heights.map c.args.grid.now in
    let past : cell_count m.size ≤ c.loop-gone.gone = subst (λ (s : Size). cell_count s ≤ c.loop-gone.gone) c.size-size.ensures c.loop-gone-test.false in
    absurd (IsDown-past m c.args.residues.now c.args.from c.args.to steps count leads c.loop-gone.path.items c.loop-gone.here c.loop-gone.gone past (c.loop-gone.invariant.going steps count leads))
