-- The kept pits of a pruning as a list with their nearest saddles: they stand in order, are points, and none undercuts them.
use Rattle.std.proofs.Common.{◌≡◌, ◌<◌, ℕ, ℤ, List, length, get_or, sym, subst, arith}
use Rattle.std.specs.Prelude.{All, AllPairs, Contains}
use Rattle.std.proofs.lemmas.List.{get_or-map, length-map}
use Rattle.hd_map.specs.declared.types.Rank.{Rank}
use Rattle.hd_map.specs.declared.types.SideName.{SideName}
use Rattle.hd_map.specs.Map.{Map, IsMap}
use Rattle.hd_map.specs.Pruning.{SzIs}
use Rattle.hd_map.specs.Rank.{IsPoint}
use Rattle.hd_map.proofs.Prunings.{sz-unique}
use Rattle.hd_num.specs.declared.percent.Percent.{Percent}
use Rattle.hd_prune.specs.declared.step.Kept.{Kept}
use Rattle.hd_prune.specs.Kept.{AreNotUndercut, pits_kept}
use Rattle.hd_prune.specs.Staying.{AreKeptAlone}
use Rattle.hd_prune.proofs.Nested.{keeps-undercut}
use Rattle.hd_audit.specs.declared.types.Audit.{Audit}
use Rattle.hd_audit.specs.Shown.{AreShownLines, IsShown}
use Rattle.hd_audit.proofs.AreFirm.{AreFirm}
use Rattle.hd_audit.proofs.ShownRight.{kept-in_order}

module _ (m : Map) (whole : IsMap m) (side : SideName) (thousandths : ℕ) (sz : ℤ) (is : SzIs m sz) (kept : List Kept) (alone : AreKeptAlone m side thousandths kept) where
  pub AreNotUndercut-kept : AreNotUndercut m side thousandths sz kept
  AreNotUndercut-kept = subst (AreFirm m side thousandths sz) (sym alone.are_kept.pits) (keeps-undercut m side thousandths sz alone.steps alone.last alone.owner whole alone.pruning is)

  pit-of : (k : ℕ) (d : Kept) → k < length kept → get_or (pits_kept kept) k d.pit ≡ (get_or kept k d).pit
  pit-of k d inside = get_or-map (λ (k : Kept). k.pit) kept k d d.pit inside

  pub alone-points : All (λ (k : Kept). IsPoint m k.pit) kept
  alone-points k d inside =
      let long : length (pits_kept kept) ≡ length kept = length-map kept (λ (k : Kept). k.pit) in
      let at : Contains (pits_kept kept) (get_or kept k d).pit = (k, omega (arith, inside, long), get_or-map (λ (k : Kept). k.pit) kept k d (get_or kept k d).pit inside) in
      ((AreNotUndercut-kept (get_or kept k d).pit).0 at).0.point

  pub alone-in_order : AllPairs (λ (a : Kept) (b : Kept). a.pit.index < b.pit.index) kept
  alone-in_order i j d less inside =
      let long : length (pits_kept kept) ≡ length kept = length-map kept (λ (k : Kept). k.pit) in
      let rises : AllPairs (λ (a : Rank) (b : Rank). a.index < b.index) (pits_kept kept) =
      subst (λ (ps : List Rank). AllPairs (λ (a : Rank) (b : Rank). a.index < b.index) ps) (sym alone.are_kept.pits)
      (kept-in_order m whole side thousandths alone.steps alone.last alone.owner alone.pruning) in
      let r = rises i j d.pit less (omega (arith, inside, long)) in
      subst (λ (a : Rank). a.index < (get_or kept j d).pit.index) (pit-of i d (omega (arith, less, inside)))
      (subst (λ (b : Rank). (get_or (pits_kept kept) i d.pit).index < b.index) (pit-of j d inside) r)

-- a certificate of shown lines is shown
pub IsShown-alone : (m : Map) (side : SideName) (percent : Percent) (sz : ℤ) (kept : List Kept) (a : Audit) → SzIs m sz → AreKeptAlone m side percent.thousandths kept
    → a.side ≡ side → a.percent ≡ percent → a.adjacency ≡ m.adjacency
    → AreShownLines m side percent.thousandths sz (pits_kept kept) a.lines → IsShown m side percent a
IsShown-alone m side percent sz kept a is alone side_is percent_is adjacency_is lines =
    let same : sz ≡ alone.pruning.sz = sz-unique m sz alone.pruning.sz is alone.pruning.sz_is in
    record {
      side_is = side_is;
      percent_is = percent_is;
      adjacency_is = adjacency_is;
      steps = alone.steps;
      last = alone.last;
      owner = alone.owner;
      pruning = alone.pruning;
      lines = subst (λ (ps : List Rank). AreShownLines m side percent.thousandths alone.pruning.sz ps a.lines) alone.are_kept.pits
          (subst (λ z. AreShownLines m side percent.thousandths z (pits_kept kept) a.lines) same lines);
    }
