-- Lines of volumes, one after the other.
use Rattle.std.proofs.Common.{◌≡◌, ◌<◌, ◌≤◌, ◌+◌, ◌++◌, ◌∷◌, ℕ, List, [], Option, length, map, get_or, drop, refl, suc, ap, ap₂, sym, ◌∙◌, arith}
use Rattle.std.specs.List.{zip}
use Rattle.std.proofs.lemmas.List.{drop_more, drop_all}
use Rattle.hd_map.specs.declared.types.Size.{Size}
use Rattle.hd_num.specs.declared.frac.Frac.{Frac}
use Rattle.hd_prune.specs.declared.step.Kept.{Kept}
use Rattle.hd_report.specs.Volumes.{AreWithVolumes, volume_line, volume_lines}

-- the line of one, and then those after it
pub volume_lines-next : (size : Size) (kept : List Kept) (volumes : List (Option Frac)) (n : ℕ) (d : Kept) (v : Option Frac) → n < length kept → n < length volumes → v ≡ get_or volumes n v
    → volume_lines size (zip (drop n kept) (drop n volumes)) ≡ volume_line size (get_or kept n d).pit v ++ volume_lines size (zip (drop (n + 1) kept) (drop (n + 1) volumes))
volume_lines-next size kept volumes n d v inside within is =
    let rest = volume_lines size (zip (drop (n + 1) kept) (drop (n + 1) volumes)) in
    ap₂ (λ (ks : List Kept) (vs : List (Option Frac)). volume_lines size (zip ks vs)) (drop_more kept n d inside) (drop_more volumes n v within)
    ∙ ap (λ w. volume_line size (get_or kept n d).pit w ++ rest) (sym is)

-- none after the last
pub volume_lines-end : (size : Size) (kept : List Kept) (volumes : List (Option Frac)) (n : ℕ) → length kept ≤ n → volume_lines size (zip (drop n kept) (drop n volumes)) ≡ []
volume_lines-end size kept volumes n past = ap (λ (ks : List Kept). volume_lines size (zip ks (drop n volumes))) (drop_all n kept past)

-- as many volumes as kept pits are each beside its own
pits-paired : (kept : List Kept) (volumes : List (Option Frac)) → length volumes ≡ length kept → map (λ (f : Kept × Option Frac). f.0) (zip kept volumes) ≡ kept
pits-paired [] volumes same = refl
pits-paired (k ∷ kept) [] same = absurd (omega (arith, same))
pits-paired (k ∷ kept) (v ∷ volumes) same = ap (λ (ks : List Kept). k ∷ ks) (pits-paired kept volumes (omega (arith, same)))

volumes-paired : (kept : List Kept) (volumes : List (Option Frac)) → length volumes ≡ length kept → map (λ (f : Kept × Option Frac). f.1) (zip kept volumes) ≡ volumes
volumes-paired [] [] same = refl
volumes-paired [] (v ∷ volumes) same = absurd (omega (arith, same))
volumes-paired (k ∷ kept) [] same = absurd (omega (arith, same))
volumes-paired (k ∷ kept) (v ∷ volumes) same = ap (λ (vs : List (Option Frac)). v ∷ vs) (volumes-paired kept volumes (omega (arith, same)))

pub AreWithVolumes-listed : (kept : List Kept) (volumes : List (Option Frac)) → length volumes ≡ length kept → AreWithVolumes kept volumes (zip kept volumes)
AreWithVolumes-listed kept volumes same = record { pits = pits-paired kept volumes same; values = volumes-paired kept volumes same }

pub length-paired : (kept : List Kept) (volumes : List (Option Frac)) → length volumes ≡ length kept → length (zip kept volumes) ≡ length kept
length-paired [] volumes same = refl
length-paired (k ∷ kept) [] same = absurd (omega (arith, same))
length-paired (k ∷ kept) (v ∷ volumes) same = ap suc (length-paired kept volumes (omega (arith, same)))
