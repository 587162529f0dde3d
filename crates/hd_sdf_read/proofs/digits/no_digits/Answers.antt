use Rattle.std.proofs.Common.{leb, map, ap, ◌∙◌, ◌%◌, ◌^◌, arith, w8}
use Rattle.std.specs.Prelude.{replicate}
use Rattle.std.specs.Simd.Lanes.{mask_l}
use Rattle.std.proofs.lemmas.List.{length-map}
use Rattle.std.proofs.lemmas.Simd.{mask_l-mod, tops_compared, zip2_splat_left}
use Rattle.hd_sdf_read.proofs.digits.no_digits.Goals as goal

pub returns : goal.returns
returns c =
    let numbers = c.args.numbers in
    ap (λ ms. mask_l ms % 2 ^ 64) (tops_compared w8 leb (replicate 16 10) numbers ∙ zip2_splat_left leb 10 16 numbers c.requires)
    ∙ mask_l-mod (map (leb 10) numbers) 64 (omega (arith, length-map numbers (leb 10), c.requires))
