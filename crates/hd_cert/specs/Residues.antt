-- Numbers of steps modulo 3, which tell those of neighbours apart.
use Rattle.std.specs.Prelude.{◌≡◌, ℕ, zero, suc, List, length, slice_index_or, Option, Some, None, refl}
use Rattle.hd_map.specs.declared.types.Pos.{Pos}
use Rattle.hd_map.specs.declared.types.Size.{Size}
use Rattle.hd_map.specs.Map.{Map, InGrid, cell_count, place_of}
use Rattle.hd_cert.specs.declared.residue.Residue.{Residue}
use Rattle.hd_cert.specs.declared.residue.Residue.TheVariants.{Unreached, Zero, One, Two}
use Rattle.hd_reach.specs.Steps.{AreSteps, steps_at}

-- the residue of one step more
abbrev pub residue_after : Residue → Residue
residue_after Unreached = Unreached
residue_after Zero = One
residue_after One = Two
residue_after Two = Zero

-- the residue of so many steps
abbrev pub residue_of_steps : ℕ → Residue
residue_of_steps zero = Zero
residue_of_steps (suc n) = residue_after (residue_of_steps n)

-- the residue of what is noted
abbrev pub residue_of : Option ℕ → Residue
residue_of None = Unreached
residue_of (Some n) = residue_of_steps n

-- the residue that is noted for a point
abbrev pub residue_at : Size → List Residue → Pos → Residue
residue_at s residues p = slice_index_or residues (place_of s p) Unreached

-- the residue that is noted for a point is one
abbrev pub IsReached : Size → List Residue → Pos → Type 0
IsReached s residues p = residue_at s residues p ≡ Unreached → ⊥

-- so that of one step more is reached where the other is
pub after-reached : (r : Residue) → residue_after r ≡ Unreached → r ≡ Unreached
after-reached Unreached e = refl
after-reached Zero e = cc
after-reached One e = cc
after-reached Two e = cc

-- by index the residues of the fewest steps
pub record AreResidues (m : Map) (IsOpen : Pos → Type 0) (start : Pos) (goal : Option Pos) (residues : List Residue) : Type 0 where
  pub steps : List (Option ℕ)
  pub are : AreSteps m IsOpen start goal steps
  pub whole : length residues ≡ cell_count m.size
  pub read : (p : Pos) → InGrid m.size p → residue_at m.size residues p ≡ residue_of (steps_at m.size steps p)
