-- How many bytes are taken of each input.
use Rattle.std.specs.Prelude.{ℕ}

-- the most bytes of a surface file
abbrev pub surface_limit : ℕ
surface_limit = 268435456

-- the most bytes of a script
abbrev pub script_limit : ℕ
script_limit = 16777216

-- the most bytes of a certificate
abbrev pub certificate_limit : ℕ
certificate_limit = 134217728
