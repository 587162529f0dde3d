use Rattle.std.proofs.Common.{inl, inr, refl, rules}
use Rattle.hd_check.proofs.path.first_absent.Goals as goal

pub returns-then-not-is_point : goal.returns-then-not-is_point
returns-then-not-is_point g c = inl (refl, λ here. search rules)

pub returns-then-not-is_point-2 : goal.returns-then-not-is_point-2
returns-then-not-is_point-2 g c = inr (search rules, inl (refl, λ here. search rules))

pub returns-then-not-is_point-3 : goal.returns-then-not-is_point-3
returns-then-not-is_point-3 g c = inr (search rules, inr (search rules, inl (search rules)))

pub returns-in-Some-absent_of : goal.returns-in-Some-absent_of
returns-in-Some-absent_of g c = inr (search rules, inr (search rules, inr (search rules, inl (rw c.as_slice.ensures at c.in-Some-absent_of.ensures))))
