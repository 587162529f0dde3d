-- First links lead onward.
use Rattle.std.proofs.Common.{ℕ, List, inl, inr, sym, subst}
use Rattle.hd_map.specs.declared.types.Rank.{Rank}
use Rattle.hd_map.specs.declared.types.SideName.{SideName}
use Rattle.hd_map.specs.Map.{Map}
use Rattle.hd_map.proofs.Nexts.{root-pit}
use Rattle.hd_steep.specs.Links.{IsOnward, AreLinks}
use Rattle.hd_steep.specs.FirstLinks.{IsFirst, AreFirstLinks}
use Rattle.hd_steep.proofs.Ways.{onward-next, onward-root}

module _ (m : Map) (side : SideName) where
  -- what comes first from a point is onward
  pub first-onward : (p q : Rank) → IsFirst m side p q → IsOnward m side p q
  first-onward p q (inl next) = onward-next m side p q next
  first-onward p q (inr (same, pit)) = subst (IsOnward m side p) (sym same) (onward-root m side p p (root-pit m side p pit))

  -- first links lead onward
  pub first-links : (links : List ℕ) → AreFirstLinks m side links → AreLinks m side links
  first-links links are = record {
    whole = are.whole;
    each = λ k within. (let is = are.each k within in record {
      point = λ p point e. (let leads = is.point p point e in record { to = leads.to; onward = first-onward p leads.to leads.first; index_is = leads.index_is });
      none = is.none;
    });
  }
