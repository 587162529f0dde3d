use Rattle.std.proofs.Common.{sym, ap, ◌∙◌}
use Rattle.hd_sdf_read.specs.declared.file.Extra.{Extra}
use Rattle.hd_sdf_read.specs.Keys.{same_key}
use Rattle.hd_sdf_read.proofs.EntryLists.{has_key-found, has_key-passed}
use Rattle.hd_sdf_read.proofs.entries.has_key.Goals as goal

pub returns-then-same_key : goal.returns-then-same_key
returns-then-same_key c = has_key-found c.args.key.now c.args.entries.now c.entries.entry-index c.entry-item.result c.entries-test.true c.entries.invariant
    (ap (λ (e : Extra). same_key e.key c.args.key.now) (sym c.entry-item.is) ∙ sym (ap (λ k. same_key k c.args.key.now) c.as_slice.ensures) ∙ sym c.same_key.ensures
    ∙ c.if-same_key.true)

pub entries-preserved : goal.entries-preserved
entries-preserved c = has_key-passed c.args.key.now c.args.entries.now c.entries.entry-index c.entry-item.result c.entries-test.true c.entries.invariant
    (ap (λ (e : Extra). same_key e.key c.args.key.now) (sym c.entry-item.is) ∙ sym (ap (λ k. same_key k c.args.key.now) c.as_slice.ensures) ∙ sym c.same_key.ensures
    ∙ c.if-same_key.false)
