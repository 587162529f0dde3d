use Rattle.std.proofs.Common.{◌∙◌, sym, subst}
use Rattle.hd_edit.specs.Notes.{BeginsUnfit}
use Rattle.hd_edit.proofs.HeightNotes.{BeginsUnfit-push}
use Rattle.hd_edit.proofs.notes.NewNotes.push_other.Goals as goal

pub invariant_of-self : goal.invariant_of-self
invariant_of-self c = let inside = c.self.inside in (
  c.self.invariant.0,
  c.push_reserved.ensures.capacity ∙ c.self.invariant.1,
  subst (BeginsUnfit inside.last) (sym c.push_reserved.ensures.items) (BeginsUnfit-push inside.last inside.others.items c.args.change (λ none fits. c.requires.other fits.0) c.self.invariant.2),
)
