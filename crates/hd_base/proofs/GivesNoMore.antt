-- No user may do more with a file than with the one whose place it took.
use Rattle.std.proofs.Common.{◌≡◌, ℕ, Bool, true, false, refl, ap, sym, ◌∙◌}
use Rattle.std.specs.Prelude.{bit_and}
use Rattle.std.specs.Int.Bits.{and_self, and_zero_l}
use Rattle.std.proofs.lemmas.Nat.{and_assoc, and_comm}
use Rattle.hd_base.specs.declared.access.Access.{Access}
use Rattle.hd_base.specs.Access.{GivesNoMore, IsWithin, may}

-- what two have is within each
within_second : (a b : ℕ) → IsWithin (bit_and a b) b
within_second a b = and_assoc b a b ∙ ap (bit_and a) (and_self b)

within_first : (a b : ℕ) → IsWithin (bit_and a b) a
within_first a b = ap (λ n. bit_and n a) (and_comm a b) ∙ within_second b a ∙ and_comm b a

within_trans : (a b c : ℕ) → IsWithin a b → IsWithin b c → IsWithin a c
within_trans a b c few more = ap (λ n. bit_and n c) (sym few) ∙ and_assoc c a b ∙ ap (bit_and a) more ∙ few

-- what a user may do, by how he stands to the file
abbrev may_by : Access → Bool → Bool → ℕ
may_by access owns is_member = may access (record { owns = owns; is_member = is_member })

module _ (owner group other : ℕ) where
  abbrev before : Access
  before = record { owner = owner; group = group; other = other }

  -- another group
  abbrev without_group : Access
  without_group = record { owner = owner; group = 0; other = bit_and other group }

  pub GivesNoMore-without_group : GivesNoMore true false before without_group
  GivesNoMore-without_group old new stands = cases new.owns new.is_member old.owns old.is_member (stands.same_owner refl) where
    cases : (no nm oo om : Bool) → no ≡ oo → IsWithin (may_by without_group no nm) (may_by before oo om)
    cases true nm true om owns = and_self owner
    cases true nm false om owns = cc
    cases false nm true om owns = cc
    cases false true false om owns = and_zero_l (may_by before false om)
    cases false false false true owns = within_second other group
    cases false false false false owns = within_first other group

  -- another owner
  abbrev without_owner : Access
  without_owner = record { owner = group; group = bit_and group owner; other = bit_and other owner }

  pub GivesNoMore-without_owner : GivesNoMore false true before without_owner
  GivesNoMore-without_owner old new stands = cases new.owns new.is_member old.owns old.is_member (stands.same_group refl) (stands.new_owner refl) where
    cases : (no nm oo om : Bool) → nm ≡ om → (no ≡ true → (oo ≡ false) × (om ≡ true)) → IsWithin (may_by without_owner no nm) (may_by before oo om)
    cases true nm true om is own = let stood = own refl in cc
    cases true nm false false is own = let stood = own refl in cc
    cases true nm false true is own = and_self group
    cases false true oo false is own = cc
    cases false false oo true is own = cc
    cases false true true true is own = within_second group owner
    cases false true false true is own = within_first group owner
    cases false false true false is own = within_second other owner
    cases false false false false is own = within_first other owner

  -- another owner and another group
  abbrev without_both : Access
  without_both = record { owner = other; group = 0; other = bit_and (bit_and other group) owner }

  pub GivesNoMore-without_both : GivesNoMore false false before without_both
  GivesNoMore-without_both old new stands = cases new.owns new.is_member old.owns old.is_member (stands.new_owner refl) where
    cases : (no nm oo om : Bool) → (no ≡ true → (oo ≡ false) × (om ≡ false)) → IsWithin (may_by without_both no nm) (may_by before oo om)
    cases true nm true om own = let stood = own refl in cc
    cases true nm false true own = let stood = own refl in cc
    cases true nm false false own = and_self other
    cases false true oo om own = and_zero_l (may_by before oo om)
    cases false false true om own = within_second (bit_and other group) owner
    cases false false false true own = within_trans _ _ _ (within_first (bit_and other group) owner) (within_second other group)
    cases false false false false own = within_trans _ _ _ (within_first (bit_and other group) owner) (within_first other group)
