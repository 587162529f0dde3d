-- What holds of the kept pits at every step: each pit has an heir among them.
use Rattle.std.proofs.Common.{◌≡◌, ℕ, Bool, true, List}
use Rattle.std.specs.Prelude.{Contains}
use Rattle.hd_map.specs.Order.{IsNotAbove}
use Rattle.hd_map.proofs.Order.{not_above-along}
use Rattle.hd_prune.proofs.Prunable.{IsPrunable}
use Rattle.hd_prune.proofs.Elder.{IsElderSaddle}

module _ {V : Type 0} (below : V → V → Bool) (Joined : V → V → V → Type 0) (pits : List V) where
  -- k is an heir of r: a kept pit, not above r, and as near to r as any kept pit
  pub record IsHeir (kept : List V) (r k : V) : Type 0 where
    pub is_kept : Contains kept k
    pub not_above : IsNotAbove below k r
    pub nearest : (t q : V) → Contains kept q → Joined t r q → Joined t r k

  -- the kept pits are pits, and every pit has an heir among them
  pub record HaveHeirs (kept : List V) : Type 0 where
    pub among : (q : V) → Contains kept q → Contains pits q
    pub heir : (r : V) → Contains pits r → (k : V) × IsHeir kept r k

module _ {V : Type 0} (below : V → V → Bool) (Joined : V → V → V → Type 0) (local : V → V → ℕ) (goes : ℕ → Bool)
    (pits : List V) (laws : IsPrunable below Joined local goes pits) where
  -- a kept pit meets a kept pit below it at its elder saddle
  pub elder_kept : (kept : List V) → HaveHeirs below Joined pits kept → (p s : V) → Contains kept p → IsElderSaddle below Joined pits p s →
      (k : V) × Contains kept k × (below k p ≡ true) × Joined s p k
  elder_kept kept w p s at e =
      let q : V = e.reached.0 in
      let j : Joined s p q = e.reached.3.joined in
      let h = w.heir q e.reached.1 in
      (h.0, h.1.is_kept, not_above-along below laws.order h.0 q p h.1.not_above e.reached.2, laws.along s p q h.0 j (h.1.nearest s p at (laws.both_ways s p q j)))
