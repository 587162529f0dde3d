-- What permissions give to whom.
use Rattle.std.specs.Prelude.{◌≡◌, ◌<◌, ℕ, Bool, true, false, bit_and, if◌then◌else◌}
use Rattle.hd_base.specs.declared.access.Access.{Access}

-- how a user stands to a file
pub record Standing : Type 0 where
  pub owns : Bool
  pub is_member : Bool

-- what a user may do
abbrev pub may : Access → Standing → ℕ
may access user =
    if user.owns then access.owner else if user.is_member then access.group else access.other

-- each bit of one is a bit of the other
abbrev pub IsWithin : ℕ → ℕ → Type 0
IsWithin few many = bit_and few many ≡ few

-- each is a number of three bits
pub record IsAccess (access : Access) : Type 0 where
  pub owner : access.owner < 8
  pub group : access.group < 8
  pub other : access.other < 8

-- how one user may stand to an old file and to the one in its place, by whether this has the old
-- owner and the old group: a new owner is in the old group exactly where the new file has it
pub record Stands (keeps_owner keeps_group : Bool) (old new : Standing) : Type 0 where
  pub same_owner : keeps_owner ≡ true → new.owns ≡ old.owns
  pub same_group : keeps_group ≡ true → new.is_member ≡ old.is_member
  pub new_owner : keeps_owner ≡ false → new.owns ≡ true → (old.owns ≡ false) × (old.is_member ≡ keeps_group)

-- no user may do more than before
abbrev pub GivesNoMore : Bool → Bool → Access → Access → Type 0
GivesNoMore keeps_owner keeps_group before now =
    (old new : Standing) → Stands keeps_owner keeps_group old new → IsWithin (may now new) (may before old)
