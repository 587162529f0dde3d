use Rattle.std.proofs.Common.{◌∷◌, ◌++◌, [], sym, ap, subst, ◌∙◌, List}
use Rattle.hd_sdf_read.specs.declared.file.Extra.{Extra}
use Rattle.hd_sdf_read.specs.Entries.{offence}
use Rattle.hd_sdf_read.specs.File.{AreGood}
use Rattle.hd_sdf_read.specs.Views.{extra_of}
use Rattle.hd_sdf_read.proofs.GoodEntries.{AreGood-push}
use Rattle.hd_sdf_read.proofs.header.Header.take_entry.Goals as goal

pub invariant_of-self-2 : goal.invariant_of-self-2
invariant_of-self-2 c =
    let h = c.args.self.now in
    let e : Extra = extra_of c.args.entry.now in
    record {
      good = subst AreGood (sym (c.in_ok-push.ensures.ok ∙ ap (λ (x : Extra). h.entries ++ x ∷ []) c.in_ok-owned.ensures))
          (AreGood-push h.number h.entries e h.good c.requires.form (c.in_default.ensures ∙ ap (λ (es : List Extra). offence h.number es e) c.as_slice.ensures));
    }
