use Rattle.std.proofs.Common.{Some, sym, ap, ◌∙◌}
use Rattle.hd_sdf_read.specs.declared.file.Extra.{Extra}
use Rattle.hd_sdf_read.specs.Keys.{same_key}
use Rattle.hd_sdf_read.proofs.EntryLists.{value_of-found, value_of-passed}
use Rattle.hd_sdf_read.proofs.entries.value_of.Goals as goal

pub returns-then-same_key : goal.returns-then-same_key
returns-then-same_key c = value_of-found c.args.key.now c.args.entries.now c.entries.entry-index c.entry-item.result c.entries-test.true c.entries.invariant
    (ap (λ (e : Extra). same_key e.key c.args.key.now) (sym c.entry-item.is) ∙ sym (ap (λ k. same_key k c.args.key.now) c.as_slice.ensures) ∙ sym c.same_key.ensures
    ∙ c.if-same_key.true) ∙ ap (λ (e : Extra). Some e.value) (sym c.entry-item.is) ∙ ap Some (sym c.as_slice-then-same_key.ensures)

pub entries-preserved : goal.entries-preserved
entries-preserved c = value_of-passed c.args.key.now c.args.entries.now c.entries.entry-index c.entry-item.result c.entries-test.true c.entries.invariant
    (ap (λ (e : Extra). same_key e.key c.args.key.now) (sym c.entry-item.is) ∙ sym (ap (λ k. same_key k c.args.key.now) c.as_slice.ensures) ∙ sym c.same_key.ensures
    ∙ c.if-same_key.false)
