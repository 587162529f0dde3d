-- The one sum among the named parameters is one of two means of local heights, and such means are small.
use Rattle.std.proofs.Common.{◌≡◌, ℕ, ℤ, Bool, true, false, List, [], ◌∷◌, Option, Some, None, Result, Ok, Err, refl, subst}
use Rattle.std.specs.Prelude.{if◌then◌else◌}
use Rattle.std.specs.Str.{bytes_eq}
use Rattle.hd_feature.specs.declared.notation.NotationError.{NotationError}
use Rattle.hd_feature.specs.declared.notation.Parameter.{Parameter}
use Rattle.hd_feature.specs.Names.{AtHeight, Meaning, Plain, Row, given, named_by}
use Rattle.hd_feature.specs.Parameters.{names, parameter_of}
use Rattle.hd_survey.specs.Sums.{IsSumOfMeans}

-- a meaning whose sums are of means
abbrev IsFit : Meaning Parameter → Type 0
IsFit (Plain p) = IsSumOfMeans p
IsFit (AtHeight f) = (c : ℤ) → IsSumOfMeans (f c)

abbrev AreFit : List (Row Parameter) → Type 0
AreFit [] = Unit {0}
AreFit (row ∷ rows) = IsFit row.meaning × AreFit rows

ok_same : (p q : Parameter) → ◌≡◌ {A = Result Parameter NotationError} (Ok p) (Ok q) → p ≡ q
ok_same p q e = cc

err_ok : (x : NotationError) (q : Parameter) → ◌≡◌ {A = Result Parameter NotationError} (Err x) (Ok q) → ⊥
err_ok x q e = cc

given-fit : (meaning : Meaning Parameter) (c : Option ℤ) (q : Parameter) → IsFit meaning → given meaning c ≡ Ok q → IsSumOfMeans q
given-fit (Plain p) None q fit e = subst IsSumOfMeans (ok_same p q e) fit
given-fit (Plain p) (Some c) q fit e = absurd (err_ok _ q e)
given-fit (AtHeight f) None q fit e = absurd (err_ok _ q e)
given-fit (AtHeight f) (Some c) q fit e = subst IsSumOfMeans (ok_same (f c) q e) (fit c)

chosen : (b : Bool) (x y : Result Parameter NotationError) (q : Parameter) → (x ≡ Ok q → IsSumOfMeans q) → (y ≡ Ok q → IsSumOfMeans q) → (if b then x else y) ≡ Ok q → IsSumOfMeans q
chosen true x y q f g e = f e
chosen false x y q f g e = g e

named-fit : (rows : List (Row Parameter)) (name : List ℕ) (c : Option ℤ) (q : Parameter) → AreFit rows → named_by rows name c ≡ Ok q → IsSumOfMeans q
named-fit [] name c q fit e = absurd (err_ok _ q e)
named-fit (row ∷ rows) name c q fit e =
    chosen (bytes_eq name row.name) (given row.meaning c) (named_by rows name c) q (given-fit row.meaning c q fit.0) (named-fit rows name c q fit.1) e

names-fit : AreFit names
names-fit = (tt, (tt, (tt, ((record { attribute = refl; statistic = refl }, record { attribute = refl; statistic = refl }), (λ c. tt, (λ c. tt, tt))))))

-- what a name means is no other sum
pub parameter-fit : (name : List ℕ) (c : Option ℤ) (q : Parameter) → parameter_of name c ≡ Ok q → IsSumOfMeans q
parameter-fit name c q e = named-fit names name c q names-fit e
