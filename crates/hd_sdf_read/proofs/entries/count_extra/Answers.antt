use Rattle.std.proofs.Common.{true, false, not, arith, sym, ap, ◌∙◌}
use Rattle.std.specs.Prelude.{is_none}
use Rattle.hd_sdf_read.specs.declared.file.Extra.{Extra}
use Rattle.hd_sdf_read.specs.Keys.{form_of}
use Rattle.hd_sdf_read.proofs.EntryLists.{extra_entries-step}
use Rattle.hd_sdf_read.proofs.entries.count_extra.Goals as goal
use Rattle.hd_sdf_read.proofs.entries.count_extra.Goals.{then-is_none, else-is_none}

pub entries-preserved : goal.entries-preserved
entries-preserved c =
    let few = c.entries.invariant.few in
    let counted = c.entries.invariant.counted in
    elim c.if-is_none.branch [
      | then-is_none w ↦
          let step = extra_entries-step c.args.entries.now c.entries.entry-index c.entry-item.result c.entries-test.true true
          (ap (λ (e : Extra). is_none (form_of e.key)) (sym c.entry-item.is) ∙ ap (λ k. is_none (form_of k)) (sym c.as_slice.ensures) ∙ ap is_none (sym c.form_of.ensures)
          ∙ ap not w.if-is_none.ensures) in
          let count = w.count-is in
          record { few = omega arith; counted = omega arith }
      | else-is_none w ↦
          let step = extra_entries-step c.args.entries.now c.entries.entry-index c.entry-item.result c.entries-test.true false
          (ap (λ (e : Extra). is_none (form_of e.key)) (sym c.entry-item.is) ∙ ap (λ k. is_none (form_of k)) (sym c.as_slice.ensures) ∙ ap is_none (sym c.form_of.ensures)
          ∙ ap not w.if-is_none.ensures) in
          let count = w.count-is in
          record { few = omega arith; counted = omega arith }
    ]
