use Rattle.std.proofs.Common.{◌≡◌, ◌∷◌, ◌+◌, ◌*◌, ◌^◌, ◌<◌, ℕ, List, length, take, arith, ap, sym, subst, ◌∙◌}
use Rattle.std.proofs.lemmas.List.{length-take-le}
use Rattle.hd_sdf_read.specs.DecimalTokens.{AreUnits}
use Rattle.hd_sdf_read.proofs.DecimalTokens.{text-first_byte, digits_value-pointed_small, AreUnits-pointed}
use Rattle.hd_sdf_read.proofs.decimals.leading_units.Goals as goal
use Rattle.hd_sdf_read.proofs.decimals.leading_units.Goals.{After-pow}

-- the number is below 10 ^ 18
small : (c : After-pow) → c.leading_digits-count.result.1 * c.pow.result + c.leading_digits-places.result.1 < 1000000000000000000
small c =
    let front = c.leading_digits-count.ensures in
    let back = c.leading_digits-places.ensures in
    let size = length-take-le c.leading_digits-count.result.0 c.args.text.now front.within in
    let part = length-take-le c.leading_digits-places.result.0 c.split_at-2.result.1.now back.within in
    let bound = digits_value-pointed_small (take c.leading_digits-count.result.0 c.args.text.now)
    (take c.leading_digits-places.result.0 c.split_at-2.result.1.now) c.leading_digits-count.result.1 c.leading_digits-places.result.1
    front.digits back.digits (omega (arith, size, part, c.if-count-places-gt18.false)) front.value back.value in
    let unit : 10 ^ length (take c.leading_digits-places.result.0 c.split_at-2.result.1.now) ≡ c.pow.result = ap (λ n. 10 ^ n) part ∙ sym c.pow.ensures in
    subst (λ (u : ℕ). c.leading_digits-count.result.1 * u + c.leading_digits-places.result.1 < 1000000000000000000) unit bound

pub overflow_mul-result : goal.overflow_mul-result
overflow_mul-result c = let bound = small c in record { fits = omega (arith, bound) }

pub overflow_add-result : goal.overflow_add-result
overflow_add-result c = let bound = small c in record { fits = omega (arith, bound) }

pub returns : goal.returns
returns c =
    let front = c.leading_digits-count.ensures in
    let back = c.leading_digits-places.ensures in
    let after : List ℕ = c.split_at.result.1.now in
    let point : after ≡ 46 ∷ c.split_at-2.result.1.now = text-first_byte after 46 _ (sym c.is_empty.ensures ∙ c.if-is_empty.false) c.if-after-ne46.false
    ∙ ap (λ (t : List ℕ). 46 ∷ t) (sym c.split_at-2.ensures.back) in
    subst (λ (u : ℕ). AreUnits c.args.text.now (c.leading_digits-count.result.1 * u + c.leading_digits-places.result.1) c.leading_digits-places.result.0 c.split_at-3.result.1.now) (sym c.pow.ensures)
    (AreUnits-pointed c.args.text.now after c.split_at-2.result.1.now c.split_at-3.result.1.now c.leading_digits-count.result.0 c.leading_digits-places.result.0
    c.leading_digits-count.result.1 c.leading_digits-places.result.1
    front.within back.within (omega arith) c.if-count-places-gt18.false front.digits back.digits front.value back.value c.split_at.ensures.back point c.split_at-3.ensures.back)
