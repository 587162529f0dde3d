-- Counts of faults over a call.
use Rattle.std.specs.Prelude.{◌≡◌, ◌⊎◌, ℕ, Result, Ok}
use Rattle.hd_base.specs.Causes.{Rose}
use Rattle.hd_sdf_read.specs.File.{File}
use Rattle.hd_run.specs.declared.stop.Refusal.{Refusal}

-- a count of faults before and after
pub record Count : Type 0 where
  pub before : ℕ
  pub now : ℕ

-- the count over a call
abbrev pub over : ℕ → ℕ → Count
over before now = record { before = before; now = now }

abbrev pub RoseIn : Count → Type 0
RoseIn count = Rose count.before count.now

abbrev pub Stays : Count → Type 0
Stays count = count.now ≡ count.before

-- one fault is counted of two: one of the counts rose by it, and the other stays
abbrev pub OneRose : Count → Count → Type 0
OneRose one other = (RoseIn one × Stays other) ⊎ (Stays one × RoseIn other)

-- a source failed: that of the surface, or, once the surface is accepted, that of the second input
abbrev pub SourceFailed : Result File Refusal → Count → Count → Type 0
SourceFailed surface surfaces seconds =
    RoseIn surfaces ⊎ ((file : File) × (surface ≡ Ok file) × RoseIn seconds)
