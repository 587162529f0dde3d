use Rattle.std.proofs.Common.{Err, inl, inr, ap, refl}
use Rattle.hd_run.proofs.inputs.read_script.Goals as goal

pub returns-in-Err-TooLong-clause-told : goal.returns-in-Err-TooLong-clause-told
returns-in-Err-TooLong-clause-told g c = λ bytes told. (c.in-Err-TooLong.ensures.file.too_long bytes told c.in-Err-TooLong.field-0-0 (ap Err c.in-Err-TooLong.field-0-is), refl)

pub returns-in-Err-TooLong-clause-left : goal.returns-in-Err-TooLong-clause-left
returns-in-Err-TooLong-clause-left g c = λ bytes told. elim (c.read_all.ensures.left bytes told).few [
  | inl few ↦ inl few
  | inr failed ↦ absurd (let told = c.in-Err-TooLong.is in let long = c.in-Err-TooLong.field-0-is in let fault = failed.0 in cc)
]
