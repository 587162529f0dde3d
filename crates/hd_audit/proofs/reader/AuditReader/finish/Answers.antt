use Rattle.std.proofs.Common.{◌∙◌, inl, inr, sym}
use Rattle.hd_audit.specs.declared.reader.AuditState.TheVariants.{Reading, Refused}
use Rattle.hd_audit.proofs.StandsFor.{audit_of-ended}
use Rattle.hd_audit.proofs.reader.AuditReader.finish.Goals as goal

pub returns-in-Reading-clause-text : goal.returns-in-Reading-clause-text
returns-in-Reading-clause-text c = λ bytes stands. elim c.ended.ensures [
  | inl memory ↦ inl memory
  | inr ends ↦ inr (ends ∙ sym (audit_of-ended c.args.self (Reading c.in-Reading.part) bytes c.in-Reading.is stands))
]

pub returns-in-Refused-clause-text : goal.returns-in-Refused-clause-text
returns-in-Refused-clause-text c = λ bytes stands. inr (sym (audit_of-ended c.args.self (Refused c.in-Refused.error) bytes c.in-Refused.is stands))
